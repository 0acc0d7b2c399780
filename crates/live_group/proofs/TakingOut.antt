-- One member more has been taken out of its lock.
use Rattle.std.proofs.Common.{◌≡◌, ℕ, ◌≤◌, List, [], ◌∷◌, ◌++◌, map, length, sym, ap, ◌∙◌, append_assoc}
use Rattle.std.specs.List.{All}
use Rattle.std.proofs.lemmas.List.{map-append}
use Rattle.std.proofs.lemmas.List.Elements.{All-push}
use Rattle.live_member.specs.Meanings.{Meaning}
use Rattle.live_member.specs.Lives.{Living, IsLive}

abbrev pub numbers_of : List Living → List ℕ
numbers_of ls = map (λ (m : Living). m.state.number) ls

abbrev pub HasLeft : Living → Type 0
HasLeft m = length m.journal ≤ 900000

-- the members `lives` are taken out, and those of the numbers `rest` are not yet
pub record AreOut (t : Meaning) (seats : List ℕ) (lives : List Living) (rest : List ℕ) : Type 0 where
  pub numbers : numbers_of lives ++ rest ≡ seats
  pub live : All (IsLive t 1000000) lives
  pub room : All HasLeft lives

pub one_out : (t : Meaning) (seats : List ℕ) (lives : List Living) (rest later : List ℕ) (number : ℕ) (m : Living)
    → AreOut t seats lives rest → rest ≡ number ∷ later → m.state.number ≡ number → IsLive t 1000000 m → HasLeft m
    → AreOut t seats (lives ++ m ∷ []) later
one_out t seats lives rest later number m is next same live room = record {
  numbers =
      ap (λ (ns : List ℕ). ns ++ later) (map-append (λ (x : Living). x.state.number) lives (m ∷ []))
      ∙ append_assoc (numbers_of lives) (m.state.number ∷ []) later
      ∙ ap (λ (n : ℕ). numbers_of lives ++ n ∷ later) same
      ∙ ap (λ (ns : List ℕ). numbers_of lives ++ ns) (sym next)
      ∙ is.numbers;
  live = All-push (IsLive t 1000000) lives m is.live live;
  room = All-push HasLeft lives m is.room room;
}
