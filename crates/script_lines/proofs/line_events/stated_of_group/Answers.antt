use Rattle.std.proofs.Common.{◌≡◌, ◌∙◌, ℕ, String, Global, refl, sym}
use Rattle.script_lang.specs.declared.line.Line.{Line}
use Rattle.script_lang.specs.declared.line.Line.TheVariants as line
use Rattle.script_lang.specs.Forms.{stated}
use Rattle.script_lang.specs.Checking.{Declared}
use Rattle.script_story.specs.StatedEvents.{stated_of_group, stated_of_parts}
use Rattle.script_lines.proofs.line_events.stated_of_group.Goals as goal

-- A line of none of these kinds states what it states as one of the kinds that follow.
others : (d : Declared) (l : Line)
    → ((m : String Global) → l ≡ line.Vector m → ⊥)
    → ((m : String Global) → l ≡ line.Catalogue m → ⊥)
    → ((workers : ℕ) → l ≡ line.Settle workers → ⊥)
    → (l ≡ line.Summary → ⊥)
    → (l ≡ line.Traffic → ⊥)
    → stated_of_group (stated l).verb d (stated l).values ≡ stated_of_parts (stated l).verb d (stated l).values
others d (line.Vector m) no_vector no_catalogue no_settle no_summary no_traffic = absurd (no_vector m refl)
others d (line.Catalogue m) no_vector no_catalogue no_settle no_summary no_traffic = absurd (no_catalogue m refl)
others d (line.Settle workers) no_vector no_catalogue no_settle no_summary no_traffic = absurd (no_settle workers refl)
others d line.Summary no_vector no_catalogue no_settle no_summary no_traffic = absurd (no_summary refl)
others d line.Traffic no_vector no_catalogue no_settle no_summary no_traffic = absurd (no_traffic refl)
others d l no_vector no_catalogue no_settle no_summary no_traffic = refl

pub returns-in_default : goal.returns-in_default
returns-in_default c =
    c.stated_of_parts.ensures
    ∙ sym (others c.args.words.now c.args.line c.in_default.not-Vector c.in_default.not-Catalogue
    c.in_default.not-Settle c.in_default.not-Summary c.in_default.not-Traffic)
