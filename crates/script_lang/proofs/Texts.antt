-- Printable octets are a text.
use Rattle.std.proofs.Common.{◌≡◌, ◌<◌, ℕ, zero, suc, true, List, [], ◌∷◌, slice_index, arith}
use Rattle.std.specs.Str.{IsUtf8}
use Rattle.std.specs.List.{list_all}
use Rattle.std.proofs.lemmas.Str.{IsUtf8-from_ascii}
use Rattle.std.proofs.lemmas.Bool.Decides.{nat_tests}
use Rattle.script_lang.specs.Lines.{is_printable}
use Rattle.script_lang.proofs.Conditions.{and_left, and_right}

printable_is_ascii : (b : ℕ) → is_printable b ≡ true → b < 128
printable_is_ascii b h = grind (arith, nat_tests)

are_ascii : (bs : List ℕ) → list_all is_printable bs ≡ true → (i : ℕ) → slice_index bs i < 128
are_ascii [] h i = omega arith
are_ascii (b ∷ bs) h zero = printable_is_ascii b (and_left (is_printable b) _ h)
are_ascii (b ∷ bs) h (suc i) = are_ascii bs (and_right (is_printable b) _ h) i

pub is_text : (bs : List ℕ) → list_all is_printable bs ≡ true → IsUtf8 bs
is_text bs h = IsUtf8-from_ascii bs (are_ascii bs h)
