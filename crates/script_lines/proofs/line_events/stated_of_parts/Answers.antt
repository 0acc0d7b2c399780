use Rattle.std.proofs.Common.{◌≡◌, ◌∙◌, ℕ, String, Global, refl, sym}
use Rattle.script_lang.specs.declared.line.Line.{Line}
use Rattle.script_lang.specs.declared.line.Line.TheVariants as line
use Rattle.script_lang.specs.Forms.{stated}
use Rattle.script_lang.specs.Checking.{Declared}
use Rattle.script_story.specs.StatedEvents.{stated_of_packets, stated_of_parts}
use Rattle.script_lines.proofs.line_events.stated_of_parts.Goals as goal

-- A line of none of these kinds states what it states as one of the kinds that follow.
others : (d : Declared) (l : Line)
    → ((m : String Global) (f : ℕ) → l ≡ line.Claim m f → ⊥)
    → ((m : String Global) (f : ℕ) → l ≡ line.Lose m f → ⊥)
    → ((m : String Global) (f : ℕ) (q : String Global) → l ≡ line.Answer m f q → ⊥)
    → stated_of_parts (stated l).verb d (stated l).values ≡ stated_of_packets (stated l).verb d (stated l).values
others d (line.Claim m f) no_claim no_lose no_answer = absurd (no_claim m f refl)
others d (line.Lose m f) no_claim no_lose no_answer = absurd (no_lose m f refl)
others d (line.Answer m f q) no_claim no_lose no_answer = absurd (no_answer m f q refl)
others d l no_claim no_lose no_answer = refl

pub returns-in_default : goal.returns-in_default
returns-in_default c =
    c.stated_of_packets.ensures
    ∙ sym (others c.args.words.now c.args.line c.in_default.not-Claim c.in_default.not-Lose c.in_default.not-Answer)
