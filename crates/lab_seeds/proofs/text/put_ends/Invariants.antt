use Rattle.std.proofs.Common.{◌≡◌, ◌+◌, ◌++◌, drop, string_bytes}
use Rattle.lab_seeds.specs.Ends.{ends_text}
use Rattle.lab_seeds.proofs.text.put_ends.Given as goal

abbrev pub invariant-loop-place : goal.invariant-loop-place
invariant-loop-place l = string_bytes l.text ++ ends_text (l.first + l.place) (drop l.place l.ends)
    ≡ string_bytes l.fn.text ++ ends_text l.first l.ends
