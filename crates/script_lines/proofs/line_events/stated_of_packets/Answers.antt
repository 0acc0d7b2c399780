use Rattle.std.proofs.Common.{◌≡◌, ◌∙◌, ℕ, String, Vec, Global, refl, sym}
use Rattle.script_lang.specs.declared.line.Line.{Line}
use Rattle.script_lang.specs.declared.line.Line.TheVariants as line
use Rattle.script_lang.specs.Forms.{stated}
use Rattle.script_lang.specs.Checking.{Declared}
use Rattle.script_story.specs.StatedEvents.{stated_of_insertions, stated_of_packets}
use Rattle.script_lines.proofs.line_events.stated_of_packets.Goals as goal

-- A line of none of these kinds states what it states as one of the kinds that follow.
others : (d : Declared) (l : Line)
    → ((m : String Global) (workers tries loss : ℕ) → l ≡ line.Fetch m workers tries loss → ⊥)
    → ((m p : String Global) (s x : ℕ) → l ≡ line.Dump m p s x → ⊥)
    → ((m : String Global) (octets : Vec ℕ Global) → l ≡ line.Hear m octets → ⊥)
    → ((m : String Global) (octets : Vec ℕ Global) → l ≡ line.Ask m octets → ⊥)
    → ((m : String Global) (f : ℕ) (octets : Vec ℕ Global) → l ≡ line.Feed m f octets → ⊥)
    → stated_of_packets (stated l).verb d (stated l).values ≡ stated_of_insertions (stated l).verb d (stated l).values
others d (line.Fetch m workers tries loss) no_fetch no_dump no_hear no_ask no_feed =
    absurd (no_fetch m workers tries loss refl)
others d (line.Dump m p s x) no_fetch no_dump no_hear no_ask no_feed = absurd (no_dump m p s x refl)
others d (line.Hear m octets) no_fetch no_dump no_hear no_ask no_feed = absurd (no_hear m octets refl)
others d (line.Ask m octets) no_fetch no_dump no_hear no_ask no_feed = absurd (no_ask m octets refl)
others d (line.Feed m f octets) no_fetch no_dump no_hear no_ask no_feed = absurd (no_feed m f octets refl)
others d l no_fetch no_dump no_hear no_ask no_feed = refl

pub returns-in_default : goal.returns-in_default
returns-in_default c =
    c.stated_of_insertions.ensures
    ∙ sym (others c.args.words.now c.args.line c.in_default.not-Fetch c.in_default.not-Dump
    c.in_default.not-Hear c.in_default.not-Ask c.in_default.not-Feed)
