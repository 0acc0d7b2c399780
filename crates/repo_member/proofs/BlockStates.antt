-- A block that is received: what is reported of it, and how it is undone.
use Rattle.std.proofs.Common.{◌≡◌, ℕ, ◌+◌, ◌-◌, Bool, true, false, cond, not, ◌&&◌, List, Option, Some, None, is_some}
use Rattle.std.proofs.Common.{refl, sym, ap, ◌∙◌, subst}
use Rattle.std.specs.Prelude.{IsSomeAnd, IsTrue}
use Rattle.std.specs.Ordering.{nat_cmp, eq_by_cmp}
use Rattle.std.proofs.lemmas.Bool.{true≢false}
use Rattle.sorted_lists.specs.SortedList.{Rises, keys, value_of, with_value}
use Rattle.sorted_lists.proofs.Sets.{value_of-with_value, rises_with_value, eq_same, eq_itself}
use Rattle.sorted_lists.proofs.Orders.{exact_numbers}
use Rattle.repo_object.specs.Objects.{NamedContents}
use Rattle.repo_process.specs.declared.block_state.BlockState.TheVariants.{Kept, Complete}
use Rattle.repo_process.specs.Processes.{Process, BlockState, has_block, with_block, without_block, is_whole, object_of}
use Rattle.repo_process.specs.Processes.{closed, block_state}
use Rattle.repo_process.specs.Processes.BlockState.{Unknown, Already, Waiting, Whole}
use Rattle.repo_process.specs.Arrivals.{answer_of_block, whole_object, reopened}
use Rattle.repo_process.specs.Fields.{blocks_from}
use Rattle.repo_process.specs.Insertions.{Insertions, with_process, with_changed, changes_process, with_arrival}
use Rattle.repo_process.proofs.LawLemmas.{block_stays, block_gone, block_comes}
use Rattle.repo_member.specs.Members.{AreWaiting}
use Rattle.repo_holdings.proofs.SortedMaps.{same_map}
use Rattle.repo_member.proofs.InsertionParts.{Comes, comes_waiting, comes_whole}
use Rattle.repo_member.proofs.WaitingLemmas.{waiting_with}

-- ---- a process under a number

pub value_with : (i : Insertions) (number : ℕ) (p : Process)
    → value_of nat_cmp (with_process number p i).processes number ≡ Some p
value_with i number p =
    value_of-with_value exact_numbers number p i.processes number
    ∙ ap (λ (b : Bool). cond b (Some p) (value_of nat_cmp i.processes number)) (eq_itself exact_numbers number)

module _ (i : Insertions) (number : ℕ) (order : Rises nat_cmp (keys i.processes)) where
  -- only the last one counts
  pub with_twice : (p q : Process) → with_process number q (with_process number p i) ≡ with_process number q i
  with_twice p q = ap (λ (ps : List (ℕ × Process)). record i { processes = ps })
      (same_map exact_numbers (with_process number q (with_process number p i)).processes
      (with_process number q i).processes
      (rises_with_value exact_numbers number q (with_process number p i).processes
      (rises_with_value exact_numbers number p i.processes order))
      (rises_with_value exact_numbers number q i.processes order)
      (λ k. value_of-with_value exact_numbers number q (with_process number p i).processes k
      ∙ ap (cond (eq_by_cmp nat_cmp k number) (Some q)) (value_of-with_value exact_numbers number p i.processes k)
      ∙ go (eq_by_cmp nat_cmp k number) (value_of nat_cmp i.processes k)
      ∙ sym (value_of-with_value exact_numbers number q i.processes k))) where
        go : (b : Bool) (o : Option Process) → cond b (Some q) (cond b (Some p) o) ≡ cond b (Some q) o
        go true o = refl
        go false o = refl

  -- the process that is there already changes nothing
  pub with_same : (p : Process) → value_of nat_cmp i.processes number ≡ Some p → with_process number p i ≡ i
  with_same p there = ap (λ (ps : List (ℕ × Process)). record i { processes = ps })
      (same_map exact_numbers (with_process number p i).processes i.processes
      (rises_with_value exact_numbers number p i.processes order) order
      (λ k. value_of-with_value exact_numbers number p i.processes k ∙ go k (eq_by_cmp nat_cmp k number) refl)) where
        go : (k : ℕ) (b : Bool) → eq_by_cmp nat_cmp k number ≡ b
            → cond b (Some p) (value_of nat_cmp i.processes k) ≡ value_of nat_cmp i.processes k
        go k true e = sym (ap (value_of nat_cmp i.processes) (eq_same exact_numbers k number e) ∙ there)
        go k false e = refl

-- a process that is there changes
changed_there : (i : Insertions) (number : ℕ) (change : Process → Process) (p : Process)
    → value_of nat_cmp i.processes number ≡ Some p
    → changes_process number change i ≡ with_process number (change p) i
changed_there i number change p there = ap (with_changed number change i) there

-- ---- what is reported of a block

unpublished_with : (index : ℕ) (content : List ℕ) (q : Process) → q.published ≡ false → (p : Process)
    → p ≡ with_block index content q → p.published ≡ false
unpublished_with index content q h p is = ap (λ (r : Process). r.published) is ∙ go (has_block q index) where
  go : (b : Bool) → (cond b q (record q { blocks = with_value nat_cmp index content q.blocks })).published ≡ false
  go true = h
  go false = h

lends_it : (p : Process) → p.published ≡ false → is_whole p ≡ true → whole_object (Some p) ≡ Some (object_of p)
lends_it p open_ whole =
    ap (λ (b : Bool). cond (not b && is_whole p) (Some (object_of p)) None) open_
    ∙ ap (λ (b : Bool). cond b (Some (object_of p)) None) whole

some_lent : (p : Process) → p.published ≡ false → is_whole p ≡ true → whole_object (Some p) ≡ None → ⊥
some_lent p open_ whole none = let both : Some (object_of p) ≡ None = sym (lends_it p open_ whole) ∙ none in absurd cc

module _ (before after : Insertions) (number index : ℕ) (content : List ℕ) (waiting : AreWaiting before.processes)
    (state : BlockState) (comes : block_state before.processes number index content ≡ state)
    (arrives : after ≡ with_arrival number before state) where
  -- another block is missing
  pub kept_waiting : (missing : ℕ) → answer_of_block state ≡ Kept missing → AreWaiting after.processes
  kept_waiting missing h = go state comes arrives h where
    go : (s : BlockState) → block_state before.processes number index content ≡ s → after ≡ with_arrival number before s
        → answer_of_block s ≡ Kept missing → AreWaiting after.processes
    go Unknown c a k = absurd cc
    go Already c a k = absurd cc
    go (Waiting p) c a k =
        subst (λ (i : Insertions). AreWaiting i.processes) (sym a)
        (waiting_with before number p (λ h. (comes_waiting before.processes number index content p c).has_all) waiting)
    go (Whole p) c a k = absurd cc

  -- where a process is complete and has no whole object, its object was published before
  pub nothing_lent : answer_of_block state ≡ Complete → whole_object (value_of nat_cmp after.processes number) ≡ None
      → (state ≡ Already) × (after ≡ before)
  nothing_lent h none = go state comes arrives h where
    go : (s : BlockState) → block_state before.processes number index content ≡ s → after ≡ with_arrival number before s
        → answer_of_block s ≡ Complete → (s ≡ Already) × (after ≡ before)
    go Unknown c a k = absurd cc
    go Already c a k = (refl, a)
    go (Waiting p) c a k = absurd cc
    go (Whole p) c a k =
        let is = comes_whole before.processes number index content p c in
        let there : value_of nat_cmp after.processes number ≡ Some p =
        ap (λ (i : Insertions). value_of nat_cmp i.processes number) a ∙ value_with before number p in
        let lent : whole_object (Some p) ≡ None = ap whole_object (sym there) ∙ none in
        absurd (some_lent p (unpublished_with index content is.before is.unpublished p is.is) is.has_all lent)

-- ---- a block that completes an object

pub record ComesLast (before after : Insertions) (number index : ℕ) (content : List ℕ) (p : Process) : Type 0 where
  pub state : block_state before.processes number index content ≡ Whole p
  pub comes : Comes before.processes number index content p true
  pub arrived : after ≡ with_process number p before
  pub there : value_of nat_cmp after.processes number ≡ Some p
  pub unpublished : p.published ≡ false
  pub object : whole_object (value_of nat_cmp after.processes number) ≡ Some (object_of p)
  pub lacked : has_block comes.before index ≡ false

pub comes_last : (before after : Insertions) (number index : ℕ) (content : List ℕ) (object : NamedContents)
    → AreWaiting before.processes
    → after ≡ with_arrival number before (block_state before.processes number index content)
    → answer_of_block (block_state before.processes number index content) ≡ Complete
    → whole_object (value_of nat_cmp after.processes number) ≡ Some object
    → (p : Process) × ComesLast before after number index content p
comes_last before after number index content object waiting arrives is lent =
    go (block_state before.processes number index content) refl arrives is where
      -- an unpublished process would be whole without the block
      not_lent : (o : Option Process) → value_of nat_cmp before.processes number ≡ o → whole_object o ≡ Some object → ⊥
      not_lent None e h = absurd cc
      not_lent (Some p) e h = at p e p.published refl (is_whole p) refl h where
        at : (p : Process) → value_of nat_cmp before.processes number ≡ Some p → (b : Bool) → p.published ≡ b
            → (w : Bool)
            → is_whole p ≡ w → cond (not b && w) (Some (object_of p)) None ≡ Some object → ⊥
        at p e true q w r k = absurd cc
        at p e false q true r k = true≢false (sym r ∙ waiting number p e q)
        at p e false q false r k = absurd cc

      whole : (p : Process) → block_state before.processes number index content ≡ Whole p
          → after ≡ with_process number p before → ComesLast before after number index content p
      whole p c a =
          let came = comes_whole before.processes number index content p c in
          let open_ : p.published ≡ false = unpublished_with index content came.before came.unpublished p came.is in
          let there : value_of nat_cmp after.processes number ≡ Some p =
          ap (λ (i : Insertions). value_of nat_cmp i.processes number) a ∙ value_with before number p in
          record {
            state = c;
            comes = came;
            arrived = a;
            there = there;
            unpublished = open_;
            object = ap whole_object there ∙ lends_it p open_ came.has_all;
            lacked = lacks (has_block came.before index) refl;
          } where
            lacks : (b : Bool) → has_block (comes_whole before.processes number index content p c).before index ≡ b
                → b ≡ false
            lacks true h =
                let came = comes_whole before.processes number index content p c in
                let same : p ≡ came.before = came.is ∙ block_stays came.before index content h in
                absurd
                (true≢false
                (sym came.has_all ∙ ap is_whole same ∙ waiting number came.before came.there came.unpublished))
            lacks false h = refl

      go : (s : BlockState) → block_state before.processes number index content ≡ s
          → after ≡ with_arrival number before s
          → answer_of_block s ≡ Complete → (p : Process) × ComesLast before after number index content p
      go Unknown c a k = absurd cc
      go Already c a k =
          absurd (not_lent (value_of nat_cmp before.processes number) refl
          (ap (λ (i : Insertions). whole_object (value_of nat_cmp i.processes number)) (sym a) ∙ lent))
      go (Waiting p) c a k = absurd cc
      go (Whole p) c a k = (p, whole p c a)

module _ (before after : Insertions) (number index : ℕ) (content : List ℕ) (p : Process)
    (last : ComesLast before after number index content p) (order : Rises nat_cmp (keys before.processes)) where
  has_it : has_block p index ≡ true
  has_it =
      ap (λ (q : Process). has_block q index) last.comes.is
      ∙ ap is_some (block_comes last.comes.before index content last.lacked)

  -- the block that completed an object can be taken back
  pub can_take_back :
      IsSomeAnd (value_of nat_cmp after.processes number) (λ q. (q.published ≡ false) × IsTrue (has_block q index))
  can_take_back =
      subst (λ (o : Option Process). IsSomeAnd o (λ q. (q.published ≡ false) × IsTrue (has_block q index)))
      (sym last.there) (last.unpublished, has_it)

  gone : without_block index p ≡ last.comes.before
  gone = ap (without_block index) last.comes.is ∙ block_gone last.comes.before index content last.lacked

  -- a block that is taken back leaves all as it was before
  pub taken_back : changes_process number (without_block index) after ≡ before
  taken_back =
      changed_there after number (without_block index) p last.there
      ∙ ap (λ (q : Process). with_process number q after) gone
      ∙ ap (with_process number last.comes.before) last.arrived
      ∙ with_twice before number order p last.comes.before
      ∙ with_same before number order last.comes.before last.comes.there

  -- ---- its blocks are handed over

  pub handed : changes_process number closed after ≡ with_process number (closed p) before
  handed =
      changed_there after number closed p last.there
      ∙ ap (with_process number (closed p)) last.arrived
      ∙ with_twice before number order p (closed p)

  module _ (over : Insertions) (same : over ≡ changes_process number closed after) (contents : List (List ℕ))
      (back : blocks_from p.first contents ≡ p.blocks) where
    over_there : value_of nat_cmp over.processes number ≡ Some (closed p)
    over_there =
        ap (λ (i : Insertions). value_of nat_cmp i.processes number) (same ∙ handed)
        ∙ value_with before number (closed p)

    pub can_reopen : (n : ℕ) → n ≡ p.last + 1 - p.first
        → IsSomeAnd (value_of nat_cmp over.processes number) (λ q. (q.published ≡ true) × (n ≡ q.last + 1 - q.first))
    can_reopen n many =
        subst (λ (o : Option Process). IsSomeAnd o (λ q. (q.published ≡ true) × (n ≡ q.last + 1 - q.first)))
        (sym over_there) (refl, many)

    again : reopened contents (closed p) ≡ p
    again =
        ap (λ (blocks : List (ℕ × List ℕ)). record p { blocks = blocks; published = false }) back
        ∙ ap (λ (b : Bool). record p { published = b }) (sym last.unpublished)

    -- and taken again
    pub opened_again : changes_process number (reopened contents) over ≡ after
    opened_again =
        changed_there over number (reopened contents) (closed p) over_there
        ∙ ap (λ (q : Process). with_process number q over) again
        ∙ ap (with_process number p) (same ∙ handed)
        ∙ with_twice before number order (closed p) p
        ∙ sym last.arrived
