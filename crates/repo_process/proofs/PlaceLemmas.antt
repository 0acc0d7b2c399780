-- Where a process stands among all.
use Rattle.std.proofs.Common.{◌≡◌, ℕ, zero, suc, ◌+◌, ◌-◌, ◌≤◌, ◌<◌, Bool, true, false, List, [], ◌∷◌, ◌++◌, length}
use Rattle.std.proofs.Common.{length-append, get_or, slice_get, Option, Some, None, Result, Ok, Err, refl, sym, ap, ◌∙◌}
use Rattle.std.proofs.Common.{arith}
use Rattle.std.specs.Prelude.{slice_set, OnOk, IsSome}
use Rattle.std.specs.Option.{option_map}
use Rattle.std.specs.Ordering.{nat_cmp}
use Rattle.std.proofs.lemmas.List.{set-get_or, length-set}
use Rattle.sorted_lists.specs.SortedList.{value_of, with_value}
use Rattle.repo_process.specs.declared.processes.Processes.TheInside.{Inside}
use Rattle.repo_process.specs.Processes.{Process, BlockState, is_whole, object_of}
use Rattle.repo_process.specs.Processes.BlockState.{Unknown, Already, Waiting, Whole}
use Rattle.repo_process.specs.Arrivals.{arrived, whole_object}
use Rattle.repo_process.specs.Insertions.{Insertions, with_process, with_arrival, with_changed, changes_process}
use Rattle.repo_process.specs.Fields.{numbered_from, insertions_of, ProcessesAreNumbered}
use Rattle.repo_process.proofs.Numbered.{value_of-below, value_of-numbered, with_value-numbered, with_value-push}
use Rattle.repo_process.proofs.Numbered.{slice_get-numbered}

at_place : {A : Type 0} (xs : List A) (n : ℕ) (x : A) → slice_get xs n ≡ Some x
    → (n < length xs) × ((d : A) → get_or xs n d ≡ x)
at_place [] n x e = absurd cc
at_place (y ∷ ys) zero x e = let same : y ≡ x = cc in (omega arith, λ d. same)
at_place (y ∷ ys) (suc n) x e = let rest = at_place ys n x e in (omega (arith, rest.0), λ d. rest.1 d)

past : {A : Type 0} (xs : List A) (n : ℕ) → length xs ≤ n → slice_get xs n ≡ None
past [] n h = refl
past (x ∷ xs) zero h = absurd (omega arith)
past (x ∷ xs) (suc n) h = past xs n (omega arith)

there_is : {A : Type 0} (xs : List A) (n : ℕ) → n < length xs → (x : A) × (slice_get xs n ≡ Some x)
there_is [] n h = absurd (omega arith)
there_is (x ∷ xs) zero h = (x, refl)
there_is (x ∷ xs) (suc n) h = there_is xs n (omega arith)

module _ (m : Inside) (i : Insertions) (are : ProcessesAreNumbered m) (view : insertions_of m ≡ i) where
  abbrev first : ℕ
  first = m.next - length m.insertions.items

  processes-i : i.processes ≡ numbered_from first m.insertions.items
  processes-i = ap (λ (j : Insertions). j.processes) (sym view)

  pub record IsAt (number place : ℕ) : Type 0 where
    pub within : place < length m.insertions.items
    pub number_is : number ≡ first + place
    pub there : (p : Process) → p ≡ get_or m.insertions.items place p → value_of nat_cmp i.processes number ≡ Some p

  -- the place that was found
  pub found : (number place : ℕ) → option_map (λ (p : ℕ × Process). p.0) (slice_get i.processes place) ≡ Some number
      → IsAt number place
  found number place e =
      by_item (slice_get m.insertions.items place) refl
      (ap (λ (ps : List (ℕ × Process)). option_map (λ (p : ℕ × Process). p.0) (slice_get ps place)) (sym processes-i)
      ∙ e) where
        by_item : (o : Option Process) → slice_get m.insertions.items place ≡ o
            → option_map (λ (p : ℕ × Process). p.0) (slice_get (numbered_from first m.insertions.items) place)
            ≡ Some number
            → IsAt number place
        by_item None none h =
            let nothing : option_map {T = ℕ × Process} (λ p. p.0) None ≡ Some number =
            ap (λ (o : Option (ℕ × Process)). option_map (λ (p : ℕ × Process). p.0) o)
            (sym (slice_get-numbered first place m.insertions.items
            ∙ ap (option_map (λ (p : Process). (first + place, p))) none))
            ∙ h in
            absurd cc
        by_item (Some p) some h =
            let one : Some (first + place) ≡ Some number =
            ap (λ (o : Option (ℕ × Process)). option_map (λ (q : ℕ × Process). q.0) o)
            (sym (slice_get-numbered first place m.insertions.items
            ∙ ap (option_map (λ (q : Process). (first + place, q))) some))
            ∙ h in
            let at : first + place ≡ number = cc in
            let here = at_place m.insertions.items place p some in
            let value : value_of nat_cmp i.processes number ≡ Some p =
            ap (λ (ps : List (ℕ × Process)). value_of nat_cmp ps number) processes-i
            ∙ ap (value_of nat_cmp (numbered_from first m.insertions.items)) (sym at)
            ∙ value_of-numbered first place m.insertions.items
            ∙ some in
            record {
              within = here.0;
              number_is = sym at;
              there = λ q is. value ∙ ap (λ (r : Process). Some r) (sym (here.1 q) ∙ sym is);
            }

  -- nothing stands under other numbers
  pub not_found : (number : ℕ) → number < first → value_of nat_cmp i.processes number ≡ None
  not_found number below =
      ap (λ (ps : List (ℕ × Process)). value_of nat_cmp ps number) processes-i
      ∙ value_of-below number first m.insertions.items below

  pub past_last : (number : ℕ) → m.next ≤ number → value_of nat_cmp i.processes number ≡ None
  past_last number past_ =
      let at : number ≡ first + (number - first) = omega (arith, are.given) in
      ap (λ (ps : List (ℕ × Process)). value_of nat_cmp ps number) processes-i
      ∙ ap (value_of nat_cmp (numbered_from first m.insertions.items)) at
      ∙ value_of-numbered first (number - first) m.insertions.items
      ∙ past m.insertions.items (number - first) (omega (arith, are.given))

  pub stands : (number : ℕ) → first ≤ number → number < m.next
      → option_map (λ (p : ℕ × Process). p.0) (slice_get i.processes (number - first)) ≡ Some number
  stands number above below =
      let k = number - first in
      let one = there_is m.insertions.items k (omega (arith, are.given)) in
      let at : first + k ≡ number = omega (arith, above) in
      ap (λ (ps : List (ℕ × Process)). option_map (λ (p : ℕ × Process). p.0) (slice_get ps k)) processes-i
      ∙ ap (option_map (λ (p : ℕ × Process). p.0))
      (slice_get-numbered first k m.insertions.items ∙ ap (option_map (λ (p : Process). (first + k, p))) one.1)
      ∙ ap (λ (n : ℕ). Some n) at

  -- the processes with `p` in the place `place`
  abbrev replaced : ℕ → Process → Insertions
  replaced place p =
      let ps = slice_set m.insertions.items place p in
      record { processes = numbered_from (m.next - length ps) ps; next_process = m.next }

  -- the numbers of the processes stay
  numbers_stay : (place : ℕ) (p : Process)
      → replaced place p
      ≡ record { processes = numbered_from first (slice_set m.insertions.items place p); next_process = m.next }
  numbers_stay place p =
      ap (λ (n : ℕ).
      let j : Insertions =
      record { processes = numbered_from (m.next - n) (slice_set m.insertions.items place p); next_process = m.next } in
      j) (length-set m.insertions.items place p)

  module _ (number place : ℕ) (at : IsAt number place) where
    pub process_replaced : (p : Process) → replaced place p ≡ with_process number p i
    process_replaced p =
        let same : numbered_from first (slice_set m.insertions.items place p)
        ≡ with_value nat_cmp number p i.processes =
        sym (with_value-numbered first place p m.insertions.items at.within)
        ∙ ap (λ (n : ℕ). with_value nat_cmp n p (numbered_from first m.insertions.items)) (sym at.number_is)
        ∙ ap (with_value nat_cmp number p) (sym processes-i) in
        numbers_stay place p
        ∙ ap (λ (ps : List (ℕ × Process)). let j : Insertions = record { processes = ps; next_process = m.next } in j)
        same
        ∙ ap (λ (n : ℕ).
        let j : Insertions = record { processes = with_value nat_cmp number p i.processes; next_process = n } in j)
        (ap (λ (j : Insertions). j.next_process) view)

    pub process_kept : (p : Process) → p ≡ get_or m.insertions.items place p → replaced place p ≡ i
    process_kept p is =
        numbers_stay place p
        ∙ ap (λ (ps : List Process).
        let j : Insertions = record { processes = numbered_from first ps; next_process = m.next } in j)
        (ap (slice_set m.insertions.items place) is ∙ set-get_or m.insertions.items place p)
        ∙ view

    -- the processes after a block
    pub arrival_replaced : (p q : Process) (b : BlockState) → p ≡ get_or m.insertions.items place p → q ≡ arrived p b
        → replaced place q ≡ with_arrival number i b
    arrival_replaced p q Unknown is new = ap (replaced place) new ∙ process_kept p is
    arrival_replaced p q Already is new = ap (replaced place) new ∙ process_kept p is
    arrival_replaced p q (Waiting r) is new = ap (replaced place) new ∙ process_replaced r
    arrival_replaced p q (Whole r) is new = ap (replaced place) new ∙ process_replaced r

    pub change_replaced : (p q : Process) (change : Process → Process) → p ≡ get_or m.insertions.items place p
        → q ≡ change p → replaced place q ≡ changes_process number change i
    change_replaced p q change is new =
        ap (replaced place) new ∙ process_replaced (change p) ∙ sym (ap (with_changed number change i) (at.there p is))

pub on_ok : {T E A B : Type 0} (r : Result T E) → (A → B) → OnOk r A → OnOk r B
on_ok (Ok x) f h = f h
on_ok (Err e) f h = h

-- ---- one more

pub pushed : (m : Inside) (i : Insertions) (p : Process) (items : List Process) → ProcessesAreNumbered m
    → insertions_of m ≡ i → items ≡ m.insertions.items ++ p ∷ []
    → numbered_from (m.next + 1 - length items) items ≡ with_value nat_cmp i.next_process p i.processes
pushed m i p items are view more =
    let old = m.insertions.items in
    let prefix = m.next - length old in
    let same : m.next + 1 - length (old ++ p ∷ []) ≡ prefix = omega (arith, length-append old (p ∷ []), are.given) in
    let last : prefix + length old ≡ m.next = omega (arith, are.given) in
    ap (λ (ps : List Process). numbered_from (m.next + 1 - length ps) ps) more
    ∙ ap (λ (n : ℕ). numbered_from n (old ++ p ∷ [])) same
    ∙ sym (with_value-push prefix p old)
    ∙ ap (λ (n : ℕ). with_value nat_cmp n p (numbered_from prefix old)) last
    ∙ ap (λ (j : Insertions). with_value nat_cmp j.next_process p j.processes) view

-- ---- a process that is whole

pub record IsWhole (p : Process) : Type 0 where
  pub unpublished : p.published ≡ false
  pub whole : is_whole p ≡ true
  pub object : whole_object (Some p) ≡ Some (object_of p)

pub whole_of : (p : Process) → IsSome (whole_object (Some p)) → IsWhole p
whole_of p some = by_tests p.published (is_whole p) refl refl some where
  by_tests : (a b : Bool) → p.published ≡ a → is_whole p ≡ b → IsSome (whole_object (Some p)) → IsWhole p
  by_tests true b h k s = let none : false ≡ true = rw h at s in absurd cc
  by_tests false false h k s = let none : false ≡ true = rw (h, k) at s in absurd cc
  by_tests false true h k s = record { unpublished = h; whole = k; object = rw (h, k) refl }
