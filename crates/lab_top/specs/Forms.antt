-- The forms of the lab: what the words of a command line ask for.
use Rattle.std.specs.Prelude.{◌≡◌, ◌-◌, ⊤, ℕ, Bool, true, ◌&&◌, List, [], ◌∷◌, Option, Some, None, codes, nat_le}
use Rattle.std.specs.Prelude.{nat_lt}
use Rattle.std.specs.Prelude.{if◌then◌else◌}
use Rattle.std.specs.Option.{option_map}
use Rattle.std.specs.Str.{bytes_eq}
use Rattle.lab_top.specs.Words.{number_of}
use Rattle.lab_top.specs.declared.asked.Span.{Span}
use Rattle.lab_top.specs.declared.asked.Asked.{Asked}
use Rattle.lab_top.specs.declared.asked.Asked.TheVariants.{Transcript, Trace, Check, Lint, Seeds, Capture, Draw}

-- `[SEED]`: without one it is 0.
abbrev pub seed_of : List (List ℕ) → Option ℕ
seed_of [] = Some 0
seed_of (word ∷ []) = number_of word
seed_of (word ∷ next ∷ others) = None

-- At most 10,000 seeds, from the first to the last, and 1 to 16 workers.
abbrev pub is_span : Span → Bool
is_span s =
    nat_le s.first s.last && nat_lt (s.last - s.first) 10000 && nat_le 1 s.workers && nat_le s.workers 16

-- What is asked for is within its limits: those of `is_span` for the seeds, none for another form.
abbrev pub IsWithin : Asked → Type 0
IsWithin (Transcript seed) = ⊤
IsWithin (Trace seed) = ⊤
IsWithin (Check seed) = ⊤
IsWithin Lint = ⊤
IsWithin (Seeds s) = is_span s ≡ true
IsWithin (Capture seed) = ⊤
IsWithin (Draw seed) = ⊤

-- The seeds and the workers, where all three numbers are given and within the limits.
abbrev pub span_from : Option ℕ → Option ℕ → Option ℕ → Option Span
span_from (Some first) (Some last) (Some workers) =
    let s : Span = record { first = first; last = last; workers = workers } in if is_span s then Some s else None
span_from _ _ _ = None

-- `FIRST LAST WORKERS`
abbrev pub span_of : List (List ℕ) → Option Span
span_of (first ∷ last ∷ workers ∷ []) = span_from (number_of first) (number_of last) (number_of workers)
span_of _ = None

-- `lint` is asked for, if no word follows it.
abbrev pub alone : List (List ℕ) → Option Asked
alone [] = Some Lint
alone (word ∷ others) = None

-- What the word of a form asks for, with the words that follow it.
abbrev pub form_of : List ℕ → List (List ℕ) → Option Asked
form_of word others =
    if bytes_eq word (codes "transcript") then option_map Transcript (seed_of others)
    else if bytes_eq word (codes "trace") then option_map Trace (seed_of others)
    else if bytes_eq word (codes "check") then option_map Check (seed_of others)
    else if bytes_eq word (codes "lint") then alone others
    else if bytes_eq word (codes "seeds") then option_map Seeds (span_of others)
    else if bytes_eq word (codes "capture") then option_map Capture (seed_of others)
    else if bytes_eq word (codes "draw") then option_map Draw (seed_of others)
    else None

-- What the words of the command line ask for.
abbrev pub asked_of : List (List ℕ) → Option Asked
asked_of [] = None
asked_of (word ∷ others) = form_of word others
