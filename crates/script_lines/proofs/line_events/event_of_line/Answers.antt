use Rattle.std.proofs.Common.{◌≡◌, ◌∙◌, ℕ, String, Vec, Global, refl, sym}
use Rattle.ndn_name.specs.declared.name.Name.{Name}
use Rattle.script_lang.specs.declared.line.Line.{Line}
use Rattle.script_lang.specs.declared.line.Line.TheVariants as line
use Rattle.script_lang.specs.Forms.{stated}
use Rattle.script_lang.specs.Checking.{Declared}
use Rattle.script_story.specs.StatedEvents.{stated_by, stated_of_group}
use Rattle.script_lines.proofs.line_events.event_of_line.Goals as goal

-- A line of none of these kinds states what it states as one of the kinds that follow.
others : (d : Declared) (l : Line)
    → ((m : String Global) (name : Name) (size : ℕ) (content : Vec ℕ Global) → l ≡ line.Publish m name size content → ⊥)
    → ((m : String Global) (s : ℕ) → l ≡ line.Withdraw m s → ⊥)
    → ((k : ℕ) (m : String Global) → l ≡ line.Deliver k m → ⊥)
    → ((k : ℕ) → l ≡ line.Sync k → ⊥)
    → ((ms : ℕ) → l ≡ line.Advance ms → ⊥)
    → ((m : String Global) → l ≡ line.Fire m → ⊥)
    → ((m : String Global) → l ≡ line.Restart m → ⊥)
    → stated_by (stated l).verb d (stated l).values ≡ stated_of_group (stated l).verb d (stated l).values
others d (line.Publish m name size content) no_publish no_withdraw no_deliver no_sync no_advance no_fire no_restart =
    absurd (no_publish m name size content refl)
others d (line.Withdraw m s) no_publish no_withdraw no_deliver no_sync no_advance no_fire no_restart =
    absurd (no_withdraw m s refl)
others d (line.Deliver k m) no_publish no_withdraw no_deliver no_sync no_advance no_fire no_restart =
    absurd (no_deliver k m refl)
others d (line.Sync k) no_publish no_withdraw no_deliver no_sync no_advance no_fire no_restart = absurd (no_sync k refl)
others d (line.Advance ms) no_publish no_withdraw no_deliver no_sync no_advance no_fire no_restart =
    absurd (no_advance ms refl)
others d (line.Fire m) no_publish no_withdraw no_deliver no_sync no_advance no_fire no_restart = absurd (no_fire m refl)
others d (line.Restart m) no_publish no_withdraw no_deliver no_sync no_advance no_fire no_restart =
    absurd (no_restart m refl)
others d l no_publish no_withdraw no_deliver no_sync no_advance no_fire no_restart = refl

pub returns-in_default : goal.returns-in_default
returns-in_default c =
    c.stated_of_group.ensures
    ∙ sym (others c.args.words.now c.args.line c.in_default.not-Publish c.in_default.not-Withdraw
    c.in_default.not-Deliver c.in_default.not-Sync c.in_default.not-Advance c.in_default.not-Fire
    c.in_default.not-Restart)
