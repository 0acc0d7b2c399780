use Rattle.std.proofs.Common.{◌≡◌, ◌∙◌, ℕ, String, Vec, Global, refl, sym}
use Rattle.ndn_name.specs.declared.name.Name.{Name}
use Rattle.script_lang.specs.declared.line.Line.{Line}
use Rattle.script_lang.specs.declared.line.Line.TheVariants as line
use Rattle.script_lang.specs.Forms.{stated}
use Rattle.script_lang.specs.Checking.{Declared}
use Rattle.script_story.specs.StatedEvents.{stated_of_commands, stated_of_insertions}
use Rattle.script_lines.proofs.line_events.stated_of_insertions.Goals as goal

-- A line of none of these kinds states what it states as one of the kinds that follow.
others : (d : Declared) (l : Line)
    → ((m client : String Global) (name : Name) (first last : ℕ) → l ≡ line.Insert m client name first last → ⊥)
    → ((m : String Global) (process index : ℕ) (content : Vec ℕ Global) → l ≡ line.Block m process index content → ⊥)
    → ((m client : String Global) (process : ℕ) → l ≡ line.Status m client process → ⊥)
    → stated_of_insertions (stated l).verb d (stated l).values ≡ stated_of_commands (stated l).verb d (stated l).values
others d (line.Insert m client name first last) no_insert no_block no_status =
    absurd (no_insert m client name first last refl)
others d (line.Block m process index content) no_insert no_block no_status =
    absurd (no_block m process index content refl)
others d (line.Status m client process) no_insert no_block no_status = absurd (no_status m client process refl)
others d l no_insert no_block no_status = refl

pub returns-in_default : goal.returns-in_default
returns-in_default c =
    c.stated_of_commands.ensures
    ∙ sym (others c.args.words.now c.args.line c.in_default.not-Insert c.in_default.not-Block c.in_default.not-Status)
