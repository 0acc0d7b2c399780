-- What a word and a seat's lists say of an item's phase.
use Rattle.std.proofs.Common.{◌≡◌, ◌⊎◌, inl, inr, ⊎_elim, ℕ, ◌*◌, ◌<◌, ◌≤◌, eqb, ◌&&◌, List, [], ◌∷◌, map, get_or, refl}
use Rattle.std.proofs.Common.{sym, ap, subst, ◌∙◌, arith, eq-eqb, ne_eqb, ltb, Bool, true, false, ◌+◌}
use Rattle.std.proofs.Math.ListN.{get_or-map}
use Rattle.std.proofs.lemmas.Bool.{cases_eq, cases_order, le-ltb}
use mathlib.Core.Option.{some}
use lib.ListN.{get_elem?}
use Rattle.fetch_board.specs.declared.seat_knowledge.SeatKnowledge.{SeatKnowledge}
use Rattle.fetch_board.specs.declared.word.Word.{Word}
use Rattle.fetch_board.specs.declared.word.Word.TheVariants.{Wanted, Held, Done, Spent}
use Rattle.fetch_board.specs.Counts.{one, items, pairs, triples}
use Rattle.fetch_board.specs.Rule.{Phase, wanted, held, placing, done, spent, code, Within, Mark, holds, places}
use Rattle.fetch_board.specs.Rule.{entries_due, AtMost, phase, marks, Kept, tried, finished, spends}
use Rattle.fetch_board.specs.Seats.{BoardId, items_of, items_of_done}
use Rattle.fetch_board.specs.Answers.{Once}
use Rattle.fetch_board.specs.Steps.{data_of}
use Rattle.fetch_board.specs.Words.{word_code, IsWithinTries, IsAtMost}
use Rattle.fetch_board.proofs.Totals.{total_at}
use Rattle.fetch_board.proofs.Marks.{mine, own, pair_own}
use Rattle.fetch_board.proofs.Moves.{St}

abbrev pub word_of : Phase → Word
word_of (wanted a) = Wanted a
word_of (held a) = Held a
word_of (placing a) = Held a
word_of (done a) = Done a
word_of spent = Spent

pub coded_word : (p : Phase) → code p ≡ word_code (word_of p)
coded_word (wanted a) = refl
coded_word (held a) = refl
coded_word (placing a) = refl
coded_word (done a) = refl
coded_word spent = refl

pub within_word : (n : ℕ) (p : Phase) → Within n p → IsWithinTries n (word_of p)
within_word n (wanted a) h = h
within_word n (held a) h = h
within_word n (placing a) h = h
within_word n (done a) h = h
within_word n spent h = tt

pub at_most_word : (a : ℕ) (p : Phase) → AtMost a p → IsAtMost a (word_of p)
at_most_word a (wanted b) h = h
at_most_word a (held b) h = h
at_most_word a (placing b) h = h
at_most_word a (done b) h = tt
at_most_word a spent h = tt

pub wanted_code : (a : ℕ) (p : Phase) → code p ≡ 4 * a → p ≡ wanted a
wanted_code a (wanted b) e = let h : b ≡ a = omega arith in ap wanted h
wanted_code a (held b) e = absurd (omega arith)
wanted_code a (placing b) e = absurd (omega arith)
wanted_code a (done b) e = absurd (omega arith)
wanted_code a spent e = absurd (omega arith)

same_only : (a b : ℕ) → 0 < one (eqb b a) → b ≡ a
same_only a b h = ⊎_elim (λ e. e) (λ ne. let z : one (eqb b a) ≡ 0 = ap one (ne_eqb b a ne) in absurd (omega arith))
    (cases_eq b a)

pub due_holds : (n a : ℕ) (p : Phase) → 0 < entries_due n p (holds a) → p ≡ held a
due_holds n a (wanted b) h = absurd (omega arith)
due_holds n a (held b) h = ap held (same_only a b h)
due_holds n a (placing b) h = absurd (omega arith)
due_holds n a (done b) h = absurd (omega arith)
due_holds n a spent h = absurd (omega arith)

pub due_places : (n a : ℕ) (p : Phase) → 0 < entries_due n p (places a) → p ≡ placing a
due_places n a (wanted b) h = absurd (omega arith)
due_places n a (held b) h = absurd (omega arith)
due_places n a (placing b) h = ap placing (same_only a b h)
due_places n a (done b) h = absurd (omega arith)
due_places n a spent h = absurd (omega arith)

pub one_most : (b : Bool) → one b ≤ 1
one_most true = omega arith
one_most false = omega arith

due_most : (n : ℕ) (p : Phase) (m : Mark) → entries_due n p m ≤ 1
due_most n (wanted a) (tried b) = one_most (ltb b a)
due_most n (held a) (tried b) = one_most (ltb b (a + 1))
due_most n (placing a) (tried b) = one_most (ltb b (a + 1))
due_most n (done a) (tried b) = one_most (ltb b (a + 1))
due_most n spent (tried b) = one_most (ltb b n)
due_most n (held a) (holds b) = one_most (eqb a b)
due_most n (placing a) (places b) = one_most (eqb a b)
due_most n (done a) (finished b) = one_most (eqb a b)
due_most n spent spends = omega arith
due_most n p m = omega arith

zero_of : {n : ℕ} → n ≤ 0 → n ≡ 0
zero_of h = omega arith

below : (a b : ℕ) → 0 < one (ltb a b) → a < b
below a b h = ⊎_elim (λ l. l) (λ ge. let z : one (ltb a b) ≡ 0 = ap one (le-ltb a b ge) in absurd (omega arith))
    (less_or a b) where
      less_or : (a b : ℕ) → (a < b) ⊎ (b ≤ a)
      less_or a b =
          ⊎_elim (λ e. inr (omega arith)) (λ o. ⊎_elim (λ l. inl l) (λ g. inr (omega arith)) o) (cases_order a b)

-- an item that stands with no attempt in a list doesn't stand there, and one that stands with one attempt, once,
-- stands there once
none_paired : (i : ℕ) (xs : List (ℕ × ℕ)) → ((a : ℕ) → pairs i a xs ≡ 0) → items i (items_of xs) ≡ 0
none_paired i [] z = refl
none_paired i (x ∷ xs) z = let rest = none_paired i xs (λ a. let c = z a in omega arith) in
    ⊎_elim (λ e. let c = z x.1 in
    let p = subst (λ k. 0 < one (eqb x.0 k && eqb x.1 x.1) + pairs k x.1 xs) e
    (pair_own x.0 x.1 (pairs x.0 x.1 xs)) in absurd (omega arith))
    (λ ne. let o : one (eqb x.0 i) ≡ 0 = ap one (ne_eqb x.0 i ne) in omega arith) (cases_eq x.0 i)

one_paired : (i b : ℕ) (xs : List (ℕ × ℕ)) → ((a : ℕ) → pairs i a xs ≤ one (eqb b a)) → items i (items_of xs) ≤ 1
one_paired i b [] h = omega arith
one_paired i b (x ∷ xs) h = ⊎_elim
    (λ e. let p : one (eqb x.0 i && eqb x.1 x.1) ≡ 1 = subst (λ k. one (eqb x.0 k && eqb x.1 x.1) ≡ 1) e
    (mine x.0 (eqb x.1 x.1) ∙ ap one (own x.1)) in
    let rest : (a : ℕ) → pairs i a xs ≡ 0 = λ a. ⊎_elim
    (λ s. let c = h x.1 in let m = one_most (eqb b x.1) in subst (λ k. pairs i k xs ≡ 0) (sym s) (omega arith))
    (λ ne. ⊎_elim
    (λ t. let c = h x.1 in let z : one (eqb b x.1) ≡ 0 = ap one (ne_eqb b x.1 (λ q. ne (sym (sym q ∙ t)))) in
    absurd (omega arith))
    (λ nt. let c = h a in let z : one (eqb b a) ≡ 0 = ap one (ne_eqb b a nt) in omega arith) (cases_eq b a))
    (cases_eq a x.1) in
    let none = none_paired i xs rest in let m = one_most (eqb x.0 i) in omega arith)
    (λ ne. let o : one (eqb x.0 i) ≡ 0 = ap one (ne_eqb x.0 i ne) in
    let rest = one_paired i b xs (λ a. let c = h a in omega arith) in omega arith)
    (cases_eq x.0 i)

-- the same of entries with values
module _ {T : Type 0} where
  untagged : List (ℕ × ℕ × T) → List (ℕ × ℕ)
  untagged xs = map (λ (e : ℕ × ℕ × T). (e.0, e.1)) xs

  tripled_pairs : (i a : ℕ) (xs : List (ℕ × ℕ × T)) → triples i a xs ≡ pairs i a (untagged xs)
  unfolding untagged
  tripled_pairs i a [] = refl
  tripled_pairs i a (x ∷ xs) = ap (λ n. one (eqb x.0 i && eqb x.1 a) + n) (tripled_pairs i a xs)

  tripled_items : (i : ℕ) (xs : List (ℕ × ℕ × T)) → items i (items_of_done xs) ≡ items i (items_of (untagged xs))
  unfolding untagged
  tripled_items i [] = refl
  tripled_items i (x ∷ xs) = ap (λ n. one (eqb x.0 i) + n) (tripled_items i xs)

  none_tripled : (i : ℕ) (xs : List (ℕ × ℕ × T)) → ((a : ℕ) → triples i a xs ≡ 0) → items i (items_of_done xs) ≡ 0
  none_tripled i xs z = tripled_items i xs ∙ none_paired i (untagged xs) (λ a. sym (tripled_pairs i a xs) ∙ z a)

  one_tripled : (i b : ℕ) (xs : List (ℕ × ℕ × T)) → ((a : ℕ) → triples i a xs ≤ one (eqb b a))
      → items i (items_of_done xs) ≤ 1
  one_tripled i b xs h = subst (λ n. n ≤ 1) (sym (tripled_items i xs))
      (one_paired i b (untagged xs) (λ a. subst (λ n. n ≤ one (eqb b a)) (tripled_pairs i a xs) (h a)))

module _ {T : Type 0} (tries seats : ℕ) (s : St T) (r : Kept tries seats s) where
  pub found : (i : ℕ) → get_or s.words i 0 ≡ code (phase r.phases i)
  found i = ap (λ ws. get_or ws i 0) r.shown ∙ get_or-map code r.phases i (wanted 0)

  module _ (id : ℕ) (v : SeatKnowledge T) (at : get_elem? s.views id ≡ some v) where
    count_at : (i : ℕ) (m : Mark) → marks v i m ≤ entries_due tries (phase r.phases i) m
    count_at i m = let a = total_at (λ u. marks u i m) s.views id v at in let c = r.counted i m in omega arith

    -- an attempt that is still to be made was tried by no seat
    pub untried : (i a : ℕ) → phase r.phases i ≡ wanted a → pairs i a v.tried ≡ 0
    untried i a is =
        let c : pairs i a v.tried ≤ one (ltb a a) = subst (λ q. pairs i a v.tried ≤ entries_due tries q (tried a)) is
        (count_at i (tried a)) in let z : one (ltb a a) ≡ 0 = ap one (le-ltb a a (omega arith)) in omega arith

    pub once : (i : ℕ) (m : Mark) → marks v i m ≤ 1
    once i m = let c = count_at i m in let d = due_most tries (phase r.phases i) m in omega arith

    ended_at : (i : ℕ) (p : Phase) → phase r.phases i ≡ p
        → items i (items_of v.held) + items i (items_of_done v.done) + items i v.spent ≤ 1
    ended_at i p is =
        ends p (λ a. subst (λ q. pairs i a v.held ≤ entries_due tries q (holds a)) is (count_at i (holds a)))
        (λ a. subst (λ q. triples i a v.done ≤ entries_due tries q (finished a)) is (count_at i (finished a)))
        (subst (λ q. items i v.spent ≤ entries_due tries q spends) is (count_at i spends)) where
          ends : (p : Phase) → ((a : ℕ) → pairs i a v.held ≤ entries_due tries p (holds a))
              → ((a : ℕ) → triples i a v.done ≤ entries_due tries p (finished a))
              → items i v.spent ≤ entries_due tries p spends
              → items i (items_of v.held) + items i (items_of_done v.done) + items i v.spent ≤ 1
          ends (wanted b) h d s = let x = none_paired i v.held (λ a. zero_of (h a)) in
              let y = none_tripled i v.done (λ a. zero_of (d a)) in omega arith
          ends (held b) h d s = let x = one_paired i b v.held h in let y = none_tripled i v.done (λ a. zero_of (d a)) in
              omega arith
          ends (placing b) h d s = let x = none_paired i v.held (λ a. zero_of (h a)) in
              let y = none_tripled i v.done (λ a. zero_of (d a)) in omega arith
          ends (done b) h d s = let x = none_paired i v.held (λ a. zero_of (h a)) in let y = one_tripled i b v.done d in
              omega arith
          ends spent h d s = let x = none_paired i v.held (λ a. zero_of (h a)) in
              let y = none_tripled i v.done (λ a. zero_of (d a)) in omega arith

    tried_within : (i a : ℕ) (p : Phase) → Within tries p → 0 < entries_due tries p (tried a) → a < tries
    tried_within i a (wanted b) w h = let c = below a b h in omega arith
    tried_within i a (held b) w h = let c = below a (b + 1) h in omega arith
    tried_within i a (placing b) w h = let c = below a (b + 1) h in omega arith
    tried_within i a (done b) w h = let c = below a (b + 1) h in omega arith
    tried_within i a spent w h = below a tries h

    -- what all that were joined into one seat know
    pub once_all : 0 < v.shares → (b : BoardId) → Once (data_of b v)
    once_all some_share b = record {
      ended = λ i. ended_at i (phase r.phases i) refl;
      tried = λ i a. once i (tried a);
      within = λ i a some. let c = count_at i (tried a) in
          subst (λ n. a < n) (sym (r.tries_known id v at some_share))
          (tried_within i a (phase r.phases i) (r.within i) (omega arith));
    }

    pub holder : (i a : ℕ) → 0 < pairs i a v.held → phase r.phases i ≡ held a
    holder i a h = let c = count_at i (holds a) in due_holds tries a (phase r.phases i) (omega arith)

    pub placer : (i a : ℕ) → 0 < pairs i a v.placing → phase r.phases i ≡ placing a
    placer i a h = let c = count_at i (places a) in due_places tries a (phase r.phases i) (omega arith)

    only : (k a b : ℕ) → k ≤ one (eqb a b) → (b ≡ a → 0 < k) → k ≡ one (eqb a b)
    only k a b le h = ⊎_elim
        (λ e. let o : one (eqb a b) ≡ 1 = ap one (eq-eqb a b (sym e)) in let g = h e in omega arith)
        (λ ne. let o : one (eqb a b) ≡ 0 = ap one (ne_eqb a b (λ e. ne (sym e))) in omega arith) (cases_eq b a)

    pub held_once : (i a : ℕ) → 0 < pairs i a v.held → (b : ℕ) → pairs i b v.held ≡ one (eqb a b)
    held_once i a h b = let p = holder i a h in
        let c : pairs i b v.held ≤ one (eqb a b) = subst (λ q. pairs i b v.held ≤ entries_due tries q (holds b)) p
        (count_at i (holds b)) in
        only (pairs i b v.held) a b c (λ e. subst (λ k. 0 < pairs i k v.held) (sym e) h)

    pub placed_once : (i a : ℕ) → 0 < pairs i a v.placing → (b : ℕ) → pairs i b v.placing ≡ one (eqb a b)
    placed_once i a h b = let p = placer i a h in
        let c : pairs i b v.placing ≤ one (eqb a b) =
        subst (λ q. pairs i b v.placing ≤ entries_due tries q (places b)) p
        (count_at i (places b)) in
        only (pairs i b v.placing) a b c (λ e. subst (λ k. 0 < pairs i k v.placing) (sym e) h)
