-- A part that is gained: what is stored, what the plan holds and knows, and what becomes whole.
use Rattle.std.proofs.Common.{◌≡◌, ℕ, ◌+◌, Bool, true, false, cond, ◌&&◌, ◌||◌, ◌==◌, List, [], ◌∷◌, map, refl, sym, ap}
use Rattle.std.proofs.Common.{◌∙◌, subst, Option, Some, None, option_map, is_some, add-one}
use Rattle.std.proofs.lemmas.Bool.{true≢false, eqb-true, and_parts}
use Rattle.std.specs.List.{list_all}
use Rattle.std.specs.Option.{option_and_then}
use Rattle.std.specs.Ordering.{eq_by_cmp}
use Rattle.repo_plan.specs.declared.part.Part.{Part}
use Rattle.sorted_lists.specs.SortedList.{keys, Rises, contains, value_of, with_value, insert_key}
use Rattle.sorted_lists.specs.Range.{numbers_from}
use Rattle.repo_plan.specs.declared.shape.Shape.{Shape}
use Rattle.repo_plan.specs.Parts.{Pair, pair_cmp, part_cmp, pair_of, part_of, parts_of, last_known_part, last_part}
use Rattle.repo_plan.specs.Plan.{PlanState, holds, after_hold, uses_room, with_shape, shape_of, is_complete}
use Rattle.repo_plan.specs.Plan.{may_be_asked_for}
use Rattle.repo_plan.specs.Plan.{is_listed_part, knows}
use Rattle.repo_plan.proofs.Orders.{exact_pairs, exact_parts}
use Rattle.sorted_lists.proofs.Sets.{eq_same, eq_itself, keys-with_value, rises_with_value, value_of-with_value}
use Rattle.repo_object.specs.Publication.{Listed, RecordSays, shape_stated}
use Rattle.repo_object.specs.Publication.RecordSays.{Lists, WithdrawsNumber}
use Rattle.repo_object.specs.Verdict.{stated_in}
use Rattle.repo_store.specs.StoreList.{with_packet}
use Rattle.repo_holdings.specs.Records.{Packet}
use Rattle.repo_holdings.specs.Listed.{object_stated, listing_in, listing_at, stored_at, stated_at, listed_shape}
use Rattle.repo_holdings.specs.Listed.{shapes_in, are_stored, whole_at, entry_listed}
use Rattle.repo_holdings.specs.StoredParents.{index_count, lists_at, ListsAsMany}
use Rattle.repo_holdings.specs.Gaining.{PlanFits, KeepsOthers, summary_of, summary_shape, shape_in_summary}
use Rattle.repo_holdings.proofs.SortedMaps.{same_map}
use Rattle.repo_holdings.proofs.CatalogueLemmas.{shapes_value, shapes_rise}

-- a key is in a map exactly where it has a value
pub contains-value : (packets : List Packet) (t : Part)
    → contains part_cmp (keys packets) t ≡ is_some (value_of part_cmp packets t)
contains-value [] t = refl
contains-value (e ∷ es) t = go (eq_by_cmp part_cmp t e.0) (contains-value es t) where
  go : (b : Bool) → contains part_cmp (keys es) t ≡ is_some (value_of part_cmp es t)
      → (b || contains part_cmp (keys es) t) ≡ is_some (cond b (Some e.1) (value_of part_cmp es t))
  go true h = refl
  go false h = h

-- ---- one packet more

module _ (packets : List Packet) (t : Part) (octets : List ℕ)
    (absent : contains part_cmp (keys packets) t ≡ false) where
  pub put_there : with_packet t octets packets ≡ with_value part_cmp t octets packets
  put_there = ap (λ (b : Bool). cond b packets (with_value part_cmp t octets packets)) absent

  pub value_of-put : (q : Part)
      → value_of part_cmp (with_packet t octets packets) q
      ≡ cond (eq_by_cmp part_cmp q t) (Some octets) (value_of part_cmp packets q)
  value_of-put q =
      ap (λ (es : List Packet). value_of part_cmp es q) put_there ∙ value_of-with_value exact_parts t octets packets q

  pub put_here : value_of part_cmp (with_packet t octets packets) t ≡ Some octets
  put_here =
      value_of-put t ∙ ap (λ (b : Bool). cond b (Some octets) (value_of part_cmp packets t)) (eq_itself exact_parts t)

  pub put_elsewhere : (q : Part) → eq_by_cmp part_cmp q t ≡ false
      → value_of part_cmp (with_packet t octets packets) q ≡ value_of part_cmp packets q
  put_elsewhere q other = value_of-put q ∙ ap (λ (b : Bool). cond b (Some octets) (value_of part_cmp packets q)) other

  pub put_rises : Rises part_cmp (keys packets) → Rises part_cmp (keys (with_packet t octets packets))
  put_rises r =
      subst (λ (es : List Packet). Rises part_cmp (keys es)) (sym put_there)
      (rises_with_value exact_parts t octets packets r)

  -- other publications have what they had
  pub other_pairs : (q : Pair) → eq_by_cmp pair_cmp q (pair_of t) ≡ false → (x : ℕ)
      → stored_at (with_packet t octets packets) q x ≡ stored_at packets q x
  other_pairs q other x = put_elsewhere (part_of q x) (go (eq_by_cmp part_cmp (part_of q x) t) refl) where
    go : (b : Bool) → eq_by_cmp part_cmp (part_of q x) t ≡ b → b ≡ false
    go true p =
        let same : part_of q x ≡ t = eq_same exact_parts (part_of q x) t p in
        let pairs : q ≡ pair_of t = ap pair_of same in
        sym (eq_itself exact_pairs q) ∙ ap (eq_by_cmp pair_cmp q) pairs ∙ other
    go false p = refl

  -- the record of the part's publication from then on: the packet itself, if the part is a record
  pub record_put : stored_at (with_packet t octets packets) (pair_of t) 0
      ≡ cond (t.part == 0) (Some octets) (stored_at packets (pair_of t) 0)
  record_put = go (t.part == 0) refl where
    go : (b : Bool) → (t.part == 0) ≡ b
        → stored_at (with_packet t octets packets) (pair_of t) 0
        ≡ cond b (Some octets) (stored_at packets (pair_of t) 0)
    go true p =
        let zero : t.part ≡ 0 = eqb-true t.part 0 p in
        let is : part_of (pair_of t) 0 ≡ t = ap (part_of (pair_of t)) (sym zero) in
        ap (value_of part_cmp (with_packet t octets packets)) is ∙ put_here
    go false p =
        put_elsewhere (part_of (pair_of t) 0) (other (eq_by_cmp part_cmp (part_of (pair_of t) 0) t) refl) where
          other : (b : Bool) → eq_by_cmp part_cmp (part_of (pair_of t) 0) t ≡ b → b ≡ false
          other true h =
              let same : part_of (pair_of t) 0 ≡ t = eq_same exact_parts (part_of (pair_of t) 0) t h in
              let zero : 0 ≡ t.part = ap (λ (u : Part). u.part) same in
              ap (λ (n : ℕ). n == 0) zero ∙ p
          other false h = refl

  pub stated_put : stated_at (with_packet t octets packets) (pair_of t)
      ≡ option_and_then stated_in (cond (t.part == 0) (Some octets) (stored_at packets (pair_of t) 0))
  stated_put = ap (option_and_then stated_in) record_put

  -- what stays where it is no record
  pub record_stays : (t.part == 0) ≡ false
      → stored_at (with_packet t octets packets) (pair_of t) 0 ≡ stored_at packets (pair_of t) 0
  record_stays p = record_put ∙ ap (λ (b : Bool). cond b (Some octets) (stored_at packets (pair_of t) 0)) p

-- ---- what is reported

record_stated : (o : Option RecordSays) → option_map summary_shape (option_map summary_of o)
    ≡ option_map shape_stated o
record_stated None = refl
record_stated (Some (Lists l)) = refl
record_stated (Some (WithdrawsNumber seq)) = refl

pub stated_shape_is : (t : Part) (octets : List ℕ)
    → shape_in_summary t octets ≡ cond (t.part == 0) (option_map shape_stated (stated_in octets)) None
stated_shape_is t octets = go (t.part == 0) where
  go : (b : Bool)
      → option_map summary_shape (cond b (option_map summary_of (stated_in octets)) None)
      ≡ cond b (option_map shape_stated (stated_in octets)) None
  go true = record_stated (stated_in octets)
  go false = refl

some_mapped : {A B : Type 0} (f : A → B) (o : Option A) → is_some (option_map f o) ≡ is_some o
some_mapped f None = refl
some_mapped f (Some x) = refl

pub list_nothing : (octets : List ℕ) (o : Option Listed)
    → ListsAsMany octets (option_and_then (index_count 0) o)
list_nothing octets None = tt
list_nothing octets (Some l) = tt

-- ---- the plan of one part more

module _ (plan : PlanState) (packets : List Packet) (t : Part) (octets : List ℕ) (shape : Option Shape)
    (tied : PlanFits plan packets) (fresh : holds plan t ≡ false) where
  pub absent : contains part_cmp (keys packets) t ≡ false
  absent = ap (λ (ts : List Part). contains part_cmp ts t) (sym tied.held) ∙ fresh

  rises : Rises part_cmp (keys (with_packet t octets packets))
  rises = put_rises packets t octets absent tied.in_order

  held_too : (after_hold t shape plan).held ≡ keys (with_packet t octets packets)
  held_too =
      ap (λ (b : Bool). (cond b plan (record plan {
        held = insert_key part_cmp t plan.held;
        shapes = with_shape (pair_of t) shape plan.shapes;
      })).held) fresh
      ∙ ap (insert_key part_cmp t) tied.held
      ∙ sym (keys-with_value exact_parts t octets packets)
      ∙ ap keys (sym (put_there packets t octets absent))

  shapes_same : (is_some shape ≡ (t.part == 0)) → shape ≡ shape_in_summary t octets
      → with_shape (pair_of t) shape plan.shapes ≡ shapes_in (with_packet t octets packets)
  shapes_same is_record summary =
      same_map exact_pairs (with_shape (pair_of t) shape plan.shapes) (shapes_in (with_packet t octets packets))
      (order shape) (shapes_rise (with_packet t octets packets) rises)
      (λ q. at q shape (t.part == 0) refl (summary ∙ stated_shape_is t octets) is_record) where
        before : Rises pair_cmp (keys plan.shapes)
        before =
            subst (λ (es : List (Pair × Shape)). Rises pair_cmp (keys es)) (sym tied.shapes)
            (shapes_rise packets tied.in_order)

        order : (s : Option Shape) → Rises pair_cmp (keys (with_shape (pair_of t) s plan.shapes))
        order None = before
        order (Some n) = rises_with_value exact_pairs (pair_of t) n plan.shapes before

        old_value : (q : Pair) → value_of pair_cmp plan.shapes q ≡ option_map shape_stated (stated_at packets q)
        old_value q =
            ap (λ (es : List (Pair × Shape)). value_of pair_cmp es q) tied.shapes ∙ shapes_value packets q tied.in_order

        new_value : (q : Pair)
            → value_of pair_cmp (shapes_in (with_packet t octets packets)) q
            ≡ option_map shape_stated (stated_at (with_packet t octets packets) q)
        new_value q = shapes_value (with_packet t octets packets) q rises

        other : (q : Pair) → eq_by_cmp pair_cmp q (pair_of t) ≡ false
            → stated_at (with_packet t octets packets) q ≡ stated_at packets q
        other q p = ap (option_and_then stated_in) (other_pairs packets t octets absent q p 0)

        at : (q : Pair) (s : Option Shape) (b : Bool) → (t.part == 0) ≡ b
            → s ≡ cond b (option_map shape_stated (stated_in octets)) None → is_some s ≡ b
            → value_of pair_cmp (with_shape (pair_of t) s plan.shapes) q
            ≡ value_of pair_cmp (shapes_in (with_packet t octets packets)) q
        at q None true p summary is = absurd (true≢false (sym is))
        at q (Some n) false p summary is = absurd (true≢false is)
        at q None false p summary is =
            old_value q
            ∙ ap (option_map shape_stated) (go (eq_by_cmp pair_cmp q (pair_of t)) refl)
            ∙ sym (new_value q) where
              go : (c : Bool) → eq_by_cmp pair_cmp q (pair_of t) ≡ c
                  → stated_at packets q ≡ stated_at (with_packet t octets packets) q
              go true h =
                  let same : q ≡ pair_of t = eq_same exact_pairs q (pair_of t) h in
                  ap (stated_at packets) same
                  ∙ sym (ap (option_and_then stated_in) (record_stays packets t octets absent p))
                  ∙ ap (stated_at (with_packet t octets packets)) (sym same)
              go false h = sym (other q h)
        at q (Some n) true p summary is =
            value_of-with_value exact_pairs (pair_of t) n plan.shapes q
            ∙ go (eq_by_cmp pair_cmp q (pair_of t)) refl where
              go : (c : Bool) → eq_by_cmp pair_cmp q (pair_of t) ≡ c
                  → cond c (Some n) (value_of pair_cmp plan.shapes q)
                  ≡ value_of pair_cmp (shapes_in (with_packet t octets packets)) q
              go true h =
                  let same : q ≡ pair_of t = eq_same exact_pairs q (pair_of t) h in
                  summary
                  ∙ ap (option_map shape_stated)
                  (sym (stated_put packets t octets absent
                  ∙ ap (λ (c : Bool).
                  option_and_then stated_in (cond c (Some octets) (stored_at packets (pair_of t) 0))) p))
                  ∙ ap (λ (r : Pair). option_map shape_stated (stated_at (with_packet t octets packets) r)) (sym same)
                  ∙ sym (new_value q)
              go false h = old_value q ∙ ap (option_map shape_stated) (sym (other q h)) ∙ sym (new_value q)

  -- where a part is asked for that is no record, the record is stored
  pub asked_stated : may_be_asked_for plan t ≡ true → (t.part == 0) ≡ false
      → is_some (stated_at packets (pair_of t)) ≡ true
  asked_stated asked following =
      go (stated_at packets (pair_of t)) (shape_of plan (pair_of t)) refl
      (ap (λ (es : List (Pair × Shape)). value_of pair_cmp es (pair_of t)) tied.shapes
      ∙ shapes_value packets (pair_of t) tied.in_order) where
        can : is_listed_part plan.held (shape_of plan (pair_of t)) t ≡ true
        can = (and_parts (knows plan (pair_of t)) (is_listed_part plan.held (shape_of plan (pair_of t)) t) asked).1

        go : (o : Option RecordSays) (s : Option Shape) → shape_of plan (pair_of t) ≡ s
            → s ≡ option_map shape_stated o → is_some o ≡ true
        go (Some says) s p h = refl
        go None s p h =
            absurd (true≢false (sym can
            ∙ ap (λ (s : Option Shape). is_listed_part plan.held s t) (p ∙ h)
            ∙ following))

  recorded_too : may_be_asked_for plan t ≡ true → (is_some shape ≡ (t.part == 0)) → shape ≡ shape_in_summary t octets
      → (pair : Pair) (x : ℕ) → is_some (stored_at (with_packet t octets packets) pair x) ≡ true
      → is_some (stated_at (with_packet t octets packets) pair) ≡ true
  recorded_too asked is_record summary pair x there = go (eq_by_cmp pair_cmp pair (pair_of t)) refl where
    here : (b : Bool) → (t.part == 0) ≡ b → is_some (stated_at (with_packet t octets packets) (pair_of t)) ≡ true
    here true p =
        ap is_some (stated_put packets t octets absent
        ∙ ap (λ (c : Bool). option_and_then stated_in (cond c (Some octets) (stored_at packets (pair_of t) 0))) p)
        ∙ sym (some_mapped shape_stated (stated_in octets))
        ∙ ap is_some (sym (summary ∙ stated_shape_is t octets
        ∙ ap (λ (c : Bool). cond c (option_map shape_stated (stated_in octets)) None) p))
        ∙ is_record
        ∙ p
    here false p =
        ap (λ (o : Option (List ℕ)). is_some (option_and_then stated_in o)) (record_stays packets t octets absent p)
        ∙ asked_stated asked p

    go : (c : Bool) → eq_by_cmp pair_cmp pair (pair_of t) ≡ c
        → is_some (stated_at (with_packet t octets packets) pair) ≡ true
    go true h =
        ap (λ (q : Pair). is_some (stated_at (with_packet t octets packets) q))
        (eq_same exact_pairs pair (pair_of t) h)
        ∙ here (t.part == 0) refl
    go false h =
        ap (λ (o : Option (List ℕ)). is_some (option_and_then stated_in o))
        (other_pairs packets t octets absent pair h 0)
        ∙ tied.recorded pair x (ap is_some (sym (other_pairs packets t octets absent pair h x)) ∙ there)

  indexed_too : ListsAsMany octets (lists_at packets t) → (u : Part) (o : List ℕ)
      → value_of part_cmp (with_packet t octets packets) u ≡ Some o
      → ListsAsMany o (lists_at (with_packet t octets packets) u)
  indexed_too lists u o there = go (eq_by_cmp part_cmp u t) refl where
    after : List Packet
    after = with_packet t octets packets

    -- of the same record
    still : stored_at after (pair_of u) 0 ≡ stored_at packets (pair_of u) 0 → lists_at packets u ≡ lists_at after u
    still same =
        ap (λ (r : Option (List ℕ)). option_and_then (index_count u.part) (option_and_then listing_in r)) (sym same)

    itself : (b : Bool) → (t.part == 0) ≡ b → ListsAsMany octets (lists_at after t)
    itself true p =
        subst (λ (x : ℕ). ListsAsMany octets (option_and_then (index_count x) (listing_at after (pair_of t))))
        (sym (eqb-true t.part 0 p)) (list_nothing octets (listing_at after (pair_of t)))
    itself false p =
        subst (ListsAsMany octets)
        (ap (λ (r : Option (List ℕ)). option_and_then (index_count t.part) (option_and_then listing_in r))
        (sym (record_stays packets t octets absent p))) lists

    none_stored : (x : Option (List ℕ)) → is_some x ≡ true → is_some x ≡ false → ⊥
    none_stored x a b = true≢false (sym a ∙ b)

    some_record : (r : Option (List ℕ)) → is_some (option_and_then stated_in r) ≡ true → is_some r ≡ true
    some_record None h = h
    some_record (Some octets) h = refl

    other : value_of part_cmp packets u ≡ Some o → (c : Bool) → eq_by_cmp pair_cmp (pair_of u) (pair_of t) ≡ c
        → (b : Bool) → (t.part == 0) ≡ b → ListsAsMany o (lists_at after u)
    other was false h b p =
        subst (ListsAsMany o) (still (other_pairs packets t octets absent (pair_of u) h 0)) (tied.indexed u o was)
    other was true h false p =
        let same : pair_of u ≡ pair_of t = eq_same exact_pairs (pair_of u) (pair_of t) h in
        subst (ListsAsMany o)
        (still (ap (λ (q : Pair). stored_at after q 0) same ∙ record_stays packets t octets absent p
        ∙ ap (λ (q : Pair). stored_at packets q 0) (sym same)))
        (tied.indexed u o was)
    other was true h true p =
        let same : pair_of u ≡ pair_of t = eq_same exact_pairs (pair_of u) (pair_of t) h in
        let is : part_of (pair_of t) 0 ≡ t = ap (part_of (pair_of t)) (sym (eqb-true t.part 0 p)) in
        absurd (none_stored (stored_at packets (pair_of t) 0)
        (some_record (stored_at packets (pair_of t) 0)
        (tied.recorded (pair_of t) u.part
        (ap (λ (q : Pair). is_some (stored_at packets q u.part)) (sym same) ∙ ap is_some was)))
        (ap (λ (q : Part). is_some (value_of part_cmp packets q)) is
        ∙ sym (contains-value packets t)
        ∙ absent))

    go : (c : Bool) → eq_by_cmp part_cmp u t ≡ c → ListsAsMany o (lists_at after u)
    go true h =
        let same : u ≡ t = eq_same exact_parts u t h in
        let both : Some octets ≡ Some o =
        sym (put_here packets t octets absent) ∙ ap (value_of part_cmp after) (sym same) ∙ there in
        let is : octets ≡ o = cc in
        rw same (subst (λ (x : List ℕ). ListsAsMany x (lists_at after t)) is (itself (t.part == 0) refl))
    go false h =
        other (sym (put_elsewhere packets t octets absent u h) ∙ there) (eq_by_cmp pair_cmp (pair_of u) (pair_of t))
        refl (t.part == 0) refl

  pub tied_too : may_be_asked_for plan t ≡ true → (is_some shape ≡ (t.part == 0)) → shape ≡ shape_in_summary t octets
      → ListsAsMany octets (lists_at packets t) → PlanFits (after_hold t shape plan) (with_packet t octets packets)
  tied_too asked is_record summary lists = record {
    in_order = rises;
    held = held_too;
    shapes =
        ap (λ (b : Bool). (cond b plan (record plan {
          held = insert_key part_cmp t plan.held;
          shapes = with_shape (pair_of t) shape plan.shapes;
        })).shapes) fresh
        ∙ shapes_same is_record summary;
    recorded = recorded_too asked is_record summary;
    indexed = indexed_too lists;
  }

-- ---- what is whole

-- the record of an object says what it lists
pub listing_says : (o : Option (List ℕ)) (l : Listed) → option_and_then listing_in o ≡ Some l
    → option_and_then stated_in o ≡ Some (Lists l)
listing_says None l h = absurd cc
listing_says (Some octets) l h = go (stated_in octets) h where
  go : (says : Option RecordSays) → option_and_then object_stated says ≡ Some l → says ≡ Some (Lists l)
  go None h = absurd cc
  go (Some (Lists m)) h =
      let same : m ≡ l = cc in
      ap (λ (x : Listed). Some (Lists x)) same
  go (Some (WithdrawsNumber seq)) h = absurd cc

module _ (plan : PlanState) (packets : List Packet) (pair : Pair) (tied : PlanFits plan packets) where
  pub shape_stored : shape_of plan pair ≡ option_map shape_stated (stated_at packets pair)
  shape_stored =
      ap (λ (es : List (Pair × Shape)). value_of pair_cmp es pair) tied.shapes ∙ shapes_value packets pair tied.in_order

  pub shape_listed : (l : Listed) → listing_at packets pair ≡ Some l → shape_of plan pair ≡ Some (listed_shape l)
  shape_listed l h = shape_stored ∙ ap (option_map shape_stated) (listing_says (stored_at packets pair 0) l h)

  pub held_value : (t : Part) → holds plan t ≡ is_some (value_of part_cmp packets t)
  held_value t = ap (λ (ts : List Part). contains part_cmp ts t) tied.held ∙ contains-value packets t

  all_held : (xs : List ℕ)
      → list_all (holds plan) (map (part_of pair) xs) ≡ list_all (λ x. is_some (stored_at packets pair x)) xs
  all_held [] = refl
  all_held (x ∷ xs) = rw (held_value (part_of pair x), all_held xs) refl

  record_there : (l : Listed) → listing_at packets pair ≡ Some l → is_some (stored_at packets pair 0) ≡ true
  record_there l h = go (stored_at packets pair 0) h where
    go : (o : Option (List ℕ)) → option_and_then listing_in o ≡ Some l → is_some o ≡ true
    go None p = absurd cc
    go (Some octets) p = refl

  pub complete_stored : (l : Listed) → listing_at packets pair ≡ Some l
      → is_complete plan pair ≡ are_stored packets pair (last_part (listed_shape l))
  complete_stored l h =
      ap (λ (o : Option Shape). list_all (holds plan) (parts_of pair (last_known_part o))) (shape_listed l h)
      ∙ rw add-one (all_held (0 ∷ numbers_from (0 + 1) (last_part (listed_shape l))))
      ∙ ap (λ (b : Bool). b
      && list_all (λ x. is_some (stored_at packets pair x)) (numbers_from 1 (last_part (listed_shape l))))
      (record_there l h)

  -- an object is stored whole exactly where it is complete
  pub complete_whole : (l : Listed) → listing_at packets pair ≡ Some l
      → is_some (whole_at packets pair) ≡ is_complete plan pair
  complete_whole l h =
      ap (λ (o : Option Listed). is_some (option_and_then (entry_listed packets pair) o)) h
      ∙ go (are_stored packets pair (last_part (listed_shape l))) refl
      ∙ sym (complete_stored l h) where
        go : (b : Bool) → are_stored packets pair (last_part (listed_shape l)) ≡ b
            → is_some (entry_listed packets pair l) ≡ b
        go true p = rw p refl
        go false p = rw p refl

-- ---- what is left as it was

pub others_kept : (t : Part) (shape : Option Shape) (plan : PlanState)
    → KeepsOthers plan (uses_room (after_hold t shape plan))
others_kept t shape plan = go (holds plan t) where
  go : (b : Bool)
      → KeepsOthers plan
      (uses_room (cond b plan
      (record plan { held = insert_key part_cmp t plan.held; shapes = with_shape (pair_of t) shape plan.shapes })))
  go true = record { known = refl; claims = refl; hidden = refl; attempts = refl }
  go false = record { known = refl; claims = refl; hidden = refl; attempts = refl }
