-- A step that only looks keeps the rule.
use Rattle.std.proofs.Common.{◌≡◌, ◌≢◌, ◌⊎◌, inl, inr, ⊎_elim, ℕ, ◌+◌, ◌<◌, ◌≤◌, List, length, get_or, set, refl, sym}
use Rattle.std.proofs.Common.{ap, subst, ◌∙◌, arith}
use mathlib.Core.Option.{some, none}
use lib.ListN.{get_elem?}
use Rattle.atomic_table.specs.Table.{step, keeps, Allows}
use Rattle.fetch_board.specs.declared.seat_knowledge.SeatKnowledge.{SeatKnowledge}
use Rattle.fetch_board.specs.declared.word.Word.{Word}
use Rattle.fetch_board.specs.declared.word.Word.TheVariants.{Wanted, Held, Done, Spent}
use Rattle.fetch_board.specs.Counts.{items, pairs}
use Rattle.fetch_board.specs.Rule.{Phase, wanted, held, placing, done, spent, code, Mark, holds, places, finished}
use Rattle.fetch_board.specs.Rule.{spends, tried, entries_due, IsWanted, AtMost, phase, marks, Kept}
use Rattle.fetch_board.specs.Words.{IsWithinTries}
use Rattle.fetch_board.specs.Seats.{seen_after, passed_after, owed_after}
use Rattle.fetch_board.specs.Steps.{looked, Knows, Finds, looks}
use Rattle.fetch_board.proofs.Marks.{item_other, paid_other, paid_less, newest}
use Rattle.fetch_board.proofs.Moves.{St, Move, moved}
use Rattle.fetch_board.proofs.Phases.{word_of, coded_word, within_word, at_most_word, found}

-- the lists of the accounts are untouched by a look
look_marks : {T : Type 0} (i : ℕ) (w : Word) (v : SeatKnowledge T) (j : ℕ) (m : Mark) → marks (looked i w v) j m
    ≡ marks v j m
look_marks i w v j (holds b) = refl
look_marks i w v j (places b) = refl
look_marks i w v j (finished b) = refl
look_marks i w v j spends = refl
look_marks i w v j (tried b) = refl

apart : (i j : ℕ) (w : Word) (ps os : List ℕ) → j ≢ i
    → (items j (passed_after i w ps) ≡ items j ps) × (items j (owed_after i w os) ≡ items j os)
apart i j (Wanted a) ps os ne = (refl, refl)
apart i j (Held a) ps os ne = (item_other i j (items j ps) ne, paid_other i j os ne)
apart i j (Done a) ps os ne = (item_other i j (items j ps) ne, paid_other i j os ne)
apart i j Spent ps os ne = (item_other i j (items j ps) ne, paid_other i j os ne)

still_owed : (i : ℕ) (p : Phase) (ps os : List ℕ) → IsWanted p
    → (items i (passed_after i (word_of p) ps) ≡ items i ps) × (items i (owed_after i (word_of p) os) ≡ items i os)
still_owed i (wanted a) ps os h = (refl, refl)
still_owed i (held a) ps os h = absurd h
still_owed i (placing a) ps os h = absurd h
still_owed i (done a) ps os h = absurd h
still_owed i spent ps os h = absurd h

grows : (i j : ℕ) (w : Word) (ps : List ℕ) → items j ps ≤ items j (passed_after i w ps)
grows i j (Wanted a) ps = omega arith
grows i j (Held a) ps = omega arith
grows i j (Done a) ps = omega arith
grows i j Spent ps = omega arith

shrinks : (i j : ℕ) (w : Word) (os : List ℕ) → items j (owed_after i w os) ≤ items j os
shrinks i j (Wanted a) os = omega arith
shrinks i j (Held a) os = paid_less i j os
shrinks i j (Done a) os = paid_less i j os
shrinks i j Spent os = paid_less i j os

sees : (i j b : ℕ) (p : Phase) (xs : List (ℕ × ℕ)) → 0 < pairs j b (seen_after i (word_of p) xs)
    → (0 < pairs j b xs) ⊎ ((j ≡ i) × AtMost b p)
sees i j b (wanted a) xs h = ⊎_elim (λ e. let l = e.1 in inr (e.0, omega arith)) inl (newest i j a b (pairs j b xs) h)
sees i j b (held a) xs h = ⊎_elim (λ e. let l = e.1 in inr (e.0, omega arith)) inl (newest i j a b (pairs j b xs) h)
sees i j b (placing a) xs h = ⊎_elim (λ e. let l = e.1 in inr (e.0, omega arith)) inl (newest i j a b (pairs j b xs) h)
sees i j b (done a) xs h = inl h
sees i j b spent xs h = inl h

module _ {T : Type 0} (tries seats : ℕ) where
  look_move : (s : St T) (r : Kept tries seats s) (i id : ℕ) (v : SeatKnowledge T) → get_elem? s.views id ≡ some v
      → i < length r.phases → 0 < v.shares
      → Move tries seats s r i id v (looked i (word_of (phase r.phases i)) v) (phase r.phases i)
      (phase r.phases i) s.homes
  look_move s r i id v at near some_share = let p : Phase = phase r.phases i in let w : Word = word_of p in record {
    seat = at;
    item = near;
    from = refl;
    long = refl;
    elsewhere = λ j ne. refl;
    lies = r.lies i;
    stays = λ x e. e;
    within = r.within i;
    others = λ j m ne. look_marks i w v j m;
    balance = λ m. ap (λ n. n + entries_due tries p m) (look_marks i w v i m);
    values = λ j a x has. inl has;
    apart = λ j ne. apart i j w v.passed v.owed ne;
    owes = λ is. let e = still_owed i p v.passed v.owed is in inr (is, e.0, e.1);
    passed = λ j. let old = r.passed id v at j in let g = grows i j w v.passed in let f = shrinks i j w v.owed in
        ((λ h. let k = old.0 (omega arith) in omega arith), λ a h. let k = old.1 a h in omega arith);
    rises = λ a h. h;
    seen = λ j a h. sees i j a p v.seen h;
    tries_known = refl;
    shares = refl;
    some_share = some_share;
  }

  -- the seat looks, and the word stays
  pub stands : (s : St T) (r : Kept tries seats s) (i id : ℕ) (v : SeatKnowledge T) → get_elem? s.views id ≡ some v
      → i < length s.homes → 0 < v.shares
      → (w : Word)
      × Kept tries seats record {
        words = set s.words i (get_or s.words i 0);
        homes = s.homes;
        views = set s.views id (looked i w v);
      } × Finds v i (get_or s.words i 0) w (looked i w v)
  stands s r i id v at near some_share = let p : Phase = phase r.phases i in let w : Word = word_of p in
      let is : get_or s.words i 0 ≡ code p = found tries seats s r i in (
        w,
        subst (λ n. Kept tries seats record {
          words = set s.words i n;
          homes = s.homes;
          views = set s.views id (looked i w v);
        }) (sym is)
            (moved tries seats s r i id v (looked i w v) p p s.homes
            (look_move s r i id v at (subst (λ n. i < n) r.long near) some_share)),
        (
          is ∙ coded_word p,
          subst (λ n. IsWithinTries n w) (sym (r.tries_known id v at some_share)) (within_word tries p (r.within i)),
          (λ a h. at_most_word a p (r.seen id v at i a h)),
          refl,
        ),
      )

  pub looks_kept : (n id i : ℕ) (me : Knows T) → i < n → 0 < me.0.shares
      → Allows (Kept tries seats) n id me i (λ k. k) (looks (step n i 0 0 none) me)
  looks_kept n id i me near some_share s r wide at small =
      let g = stands s r i id me.0 at (subst (λ k. i < k) (sym wide) near) some_share in
      (looked i g.0 me.0, keeps, tt, g.1, (refl, (g.0, g.2)))
