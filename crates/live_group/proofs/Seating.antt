-- The members' places, made in order.
use Rattle.std.proofs.Common.{◌≡◌, ℕ, suc, ◌<◌, ◌≤◌, List, [], ◌∷◌, ◌++◌, length, get_or, sym, ap}
use Rattle.std.proofs.Common.{◌∙◌, arith}
use Rattle.std.proofs.Common.{append_assoc, length-append}
use Rattle.std.specs.Prelude.{slice_index}
use Rattle.std.proofs.Math.Seq.{get_or-append_seam}
use Rattle.repo_object.specs.Objects.{NamedContents}
use Rattle.live_member.specs.Meanings.{Meaning, IsWithinLimits, objects_of}
use Rattle.live_member.proofs.PublicLaws.{width_whole}
use Rattle.live_settle.specs.Rans.{numbers_below}
use Rattle.live_group.specs.Seats.{IsSeat}

-- the places `seats` are made, of the first lists, and the lists `rest` have no place yet
pub record IsSeating (t : Meaning) (seats : List ℕ) (rest : List (List NamedContents)) : Type 0 where
  pub numbers : seats ≡ numbers_below (length seats)
  pub prefix : List (List NamedContents)
  pub long : length prefix ≡ length seats
  pub whole : prefix ++ rest ≡ t.lists

pub few_lists : (t : Meaning) → IsWithinLimits t → length t.lists ≤ 16
few_lists t within = omega (arith, within.logs.width, width_whole t, within.logs.group.members.roster.few)

module _ (t : Meaning) (seats : List ℕ) (rest later : List (List NamedContents)) (objects : List NamedContents)
    (is : IsSeating t seats rest) (next : rest ≡ objects ∷ later) where
  whole : is.prefix ++ objects ∷ later ≡ t.lists
  whole = ap (λ (ls : List (List NamedContents)). is.prefix ++ ls) (sym next) ∙ is.whole

  pub next_there : length seats < length t.lists
  next_there =
      let long = ap length whole in omega (arith, long, is.long, length-append is.prefix (objects ∷ later))

  pub next_list : objects ≡ objects_of t (length seats)
  next_list =
      sym (get_or-append_seam is.prefix objects later [])
      ∙ ap (λ (ls : List (List NamedContents)). get_or ls (length is.prefix) []) whole
      ∙ ap (λ (n : ℕ). get_or t.lists n []) is.long

  pub next_seat : (draw : ℕ) → IsWithinLimits t → draw ≡ slice_index t.draws (length seats)
      → IsSeat t (length seats) draw objects
  next_seat draw within value = record {
    within = within;
    there = next_there;
    list = next_list;
    its_draw = value;
  }

  pub one_seated : (n : ℕ) → n ≡ length seats → IsSeating t (seats ++ n ∷ []) later
  one_seated n same =
      let more : length (seats ++ n ∷ []) ≡ suc (length seats) =
      (let long = length-append seats (n ∷ []) in omega (arith, long)) in
      record {
        numbers =
            ap (λ (ns : List ℕ). ns ++ n ∷ []) is.numbers
            ∙ ap (λ (k : ℕ). numbers_below (length seats) ++ k ∷ []) same
            ∙ ap numbers_below (sym more);
        prefix = is.prefix ++ objects ∷ [];
        long =
            let long = length-append is.prefix (objects ∷ []) in
            let longer = length-append seats (n ∷ []) in omega (arith, long, longer, is.long);
        whole = append_assoc is.prefix (objects ∷ []) later ∙ whole;
      }
