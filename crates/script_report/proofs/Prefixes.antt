-- Octets that begin with the old ones.
use Rattle.std.proofs.Common.{◌≡◌, ◌≤◌, ℕ, List, ◌++◌, length, take, drop, sym, ap, ◌∙◌, arith}
use Rattle.std.proofs.Math.Seq.{take-append_seam, take-length}
use Rattle.std.proofs.lemmas.List.{take-append-le, take-append-drop, length-take}
use Rattle.script_report.specs.Pieces.{KeepsPrefix}

pub keeps_same : (a : List ℕ) → KeepsPrefix a a
keeps_same a = record { prefix = take-length a }

pub keeps_more : (a b : List ℕ) → KeepsPrefix a (a ++ b)
keeps_more a b = record { prefix = take-append_seam a b }

is_shorter : (a b : List ℕ) → take (length a) b ≡ a → length a ≤ length b
is_shorter a b h = omega (arith, length-take (length a) b, ap length h)

pub keeps_then : (a b c : List ℕ) → KeepsPrefix a b → KeepsPrefix b c → KeepsPrefix a c
keeps_then a b c p q = record {
  prefix = ap (take (length a)) (sym (take-append-drop (length b) c) ∙ ap (λ x. x ++ drop (length b) c) q.prefix)
      ∙ take-append-le (length a) b (drop (length b) c) (is_shorter a b p.prefix) ∙ p.prefix;
}
