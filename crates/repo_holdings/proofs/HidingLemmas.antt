-- A publication that is hidden: what is stored, what the plan holds, and what is listed.
use Rattle.std.proofs.Common.{◌≡◌, ℕ, ◌+◌, ◌≤◌, Bool, true, false, cond, not, ◌||◌, List, [], ◌∷◌, length, refl, sym}
use Rattle.std.proofs.Common.{ap}
use Rattle.std.proofs.Common.{◌∙◌, Option, Some, None, option_map, is_some, subst, arith}
use Rattle.std.specs.Prelude.{filter}
use Rattle.std.specs.List.{All}
use Rattle.std.specs.Option.{option_and_then}
use Rattle.std.specs.Ordering.{eq_by_cmp}
use Rattle.std.proofs.lemmas.Bool.{true≢false, or_parts}
use Rattle.std.proofs.lemmas.List.Elements.{All-head, All-tail, All-cons, All-nil, All-weaker}
use Rattle.repo_plan.specs.declared.part.Part.{Part}
use Rattle.repo_plan.specs.declared.shape.Shape.{Shape}
use Rattle.sorted_lists.specs.SortedList.{keys, Rises, contains, value_of}
use Rattle.repo_plan.specs.Parts.{Pair, pair_cmp, part_cmp, pair_of, part_of}
use Rattle.repo_plan.specs.Plan.{PlanState, is_in, after_hide, uses_room}
use Rattle.repo_plan.proofs.Orders.{exact_pairs, exact_parts}
use Rattle.sorted_lists.proofs.Sets.{eq_same, eq_itself, eq_turned, keys-filter, rises_keys_filter, value_of-filter}
use Rattle.repo_object.specs.Publication.{Listed, shape_stated}
use Rattle.repo_object.specs.Verdict.{stated_in}
use Rattle.repo_store.specs.StoreList.{packets_outside, is_in_any, packets_outside_all}
use Rattle.repo_catalog.specs.declared.entry.Entry.{Entry}
use Rattle.repo_catalog.specs.Entries.{publication_of, is_of, without, without_all}
use Rattle.repo_catalog.proofs.ManyLemmas.{without_none}
use Rattle.repo_holdings.specs.Records.{Packet}
use Rattle.repo_holdings.specs.Listed.{stored_at, listing_in, stated_at, listing_at, shapes_in, withdrawn_by}
use Rattle.repo_holdings.specs.Listed.{is_withdrawn, is_withdrawal, whole_at, entry_listed, member_catalogue}
use Rattle.repo_holdings.specs.StoredParents.{index_count, lists_at, ListsAsMany}
use Rattle.repo_holdings.specs.Noted.{NotesState, AreNotes}
use Rattle.repo_holdings.specs.Gaining.{PlanFits}
use Rattle.repo_holdings.specs.Hiding.{outside_all, plan_hides, IsHiding}
use Rattle.repo_holdings.proofs.SortedMaps.{same_map}
use Rattle.repo_holdings.proofs.CatalogueLemmas.{shapes_value, shapes_rise, unlisted, same_whole}
use Rattle.repo_holdings.proofs.CatalogueLemmas.{same_entry, entry_of_none}
use Rattle.repo_holdings.proofs.WithdrawnLemmas.{withdrawn_less}

-- ---- what is stored

module _ (pair : Pair) (packets : List Packet) where
  pub value_outside : (t : Part)
      → value_of part_cmp (packets_outside pair packets) t
      ≡ cond (not (is_in pair t)) (value_of part_cmp packets t) None
  value_outside t = value_of-filter exact_parts (λ (u : Part). not (is_in pair u)) packets t

  pub rises_outside : Rises part_cmp (keys packets) → Rises part_cmp (keys (packets_outside pair packets))
  rises_outside r = rises_keys_filter exact_parts (λ (u : Part). not (is_in pair u)) packets r

  pub keys_outside : keys (packets_outside pair packets) ≡ filter (λ (t : Part). not (is_in pair t)) (keys packets)
  keys_outside = keys-filter exact_parts (λ (u : Part). not (is_in pair u)) packets

  pub nothing_inside : (x : ℕ) → stored_at (packets_outside pair packets) pair x ≡ None
  nothing_inside x =
      value_outside (part_of pair x)
      ∙ ap (λ (b : Bool). cond (not b) (stored_at packets pair x) None) (eq_itself exact_pairs pair)

  pub others_stay : (q : Pair) → eq_by_cmp pair_cmp pair q ≡ false → (x : ℕ)
      → stored_at (packets_outside pair packets) q x ≡ stored_at packets q x
  others_stay q other x =
      value_outside (part_of q x) ∙ ap (λ (b : Bool). cond (not b) (stored_at packets q x) None) other

  -- ---- what is said and listed

  nothing_stated : stated_at (packets_outside pair packets) pair ≡ None
  nothing_stated = ap (option_and_then stated_in) (nothing_inside 0)

  whole_gone : whole_at (packets_outside pair packets) pair ≡ None
  whole_gone =
      ap (λ (o : Option (List ℕ)). option_and_then (entry_listed (packets_outside pair packets) pair)
      (option_and_then listing_in o)) (nothing_inside 0)

  abbrev is_other : Pair → Bool
  is_other q = not (eq_by_cmp pair_cmp pair q)

  pub shapes_outside : Rises part_cmp (keys packets)
      → filter (λ e. is_other e.0) (shapes_in packets) ≡ shapes_in (packets_outside pair packets)
  shapes_outside r =
      same_map exact_pairs (filter (λ e. is_other e.0) (shapes_in packets)) (shapes_in (packets_outside pair packets))
      (rises_keys_filter exact_pairs is_other (shapes_in packets) (shapes_rise packets r))
      (shapes_rise (packets_outside pair packets) (rises_outside r))
      (λ q. value_of-filter exact_pairs is_other (shapes_in packets) q ∙ go q (eq_by_cmp pair_cmp pair q) refl
      ∙ sym (shapes_value (packets_outside pair packets) q (rises_outside r))) where
        go : (q : Pair) (b : Bool) → eq_by_cmp pair_cmp pair q ≡ b
            → cond (not b) (value_of pair_cmp (shapes_in packets) q) None
            ≡ option_map shape_stated (stated_at (packets_outside pair packets) q)
        go q true p =
            sym (ap (λ (k : Pair). option_map shape_stated (stated_at (packets_outside pair packets) k))
            (sym (eq_same exact_pairs pair q p))
            ∙ ap (option_map shape_stated) nothing_stated)
        go q false p =
            shapes_value packets q r
            ∙ ap (λ (o : Option (List ℕ)). option_map shape_stated (option_and_then stated_in o))
            (sym (others_stay q p 0))

  -- the publication is no withdrawal
  module _ (r : Rises part_cmp (keys packets)) (object : is_withdrawal packets pair ≡ false) where
    pub withdrawn_outside : (q : Pair) → is_withdrawn (packets_outside pair packets) q ≡ is_withdrawn packets q
    withdrawn_outside =
        withdrawn_less packets (packets_outside pair packets) pair r (rises_outside r)
        (λ q other. others_stay q (eq_turned exact_pairs pair q ∙ other) 0) (nothing_inside 0) object

    pub catalogue_outside : without pair (member_catalogue packets) ≡ member_catalogue (packets_outside pair packets)
    catalogue_outside =
        sym (unlisted packets (packets_outside pair packets) pair r (rises_outside r)
        (λ q other. same_entry packets (packets_outside pair packets) q
        (others_stay q (eq_turned exact_pairs pair q ∙ other)) (withdrawn_outside q))
        (entry_of_none (packets_outside pair packets) pair whole_gone))

    pub withdrawals_outside : (q : Pair) → is_withdrawal packets q ≡ false
        → is_withdrawal (packets_outside pair packets) q ≡ false
    withdrawals_outside q no_withdrawal = go (eq_by_cmp pair_cmp pair q) refl where
      says : Option (List ℕ) → Bool
      says o = is_some (option_and_then (withdrawn_by q) (option_and_then stated_in o))

      go : (b : Bool) → eq_by_cmp pair_cmp pair q ≡ b → is_withdrawal (packets_outside pair packets) q ≡ false
      go true p =
          ap says (ap (λ (k : Pair). stored_at (packets_outside pair packets) k 0) (sym (eq_same exact_pairs pair q p))
          ∙ nothing_inside 0)
      go false p = ap says (others_stay q p 0) ∙ no_withdrawal

-- ---- the plan

pub tied_hides : (pair : Pair) (plan : PlanState) (packets : List Packet) → PlanFits plan packets
    → PlanFits (uses_room (after_hide pair plan)) (packets_outside pair packets)
tied_hides pair plan packets tied = record {
  in_order = rises_outside pair packets tied.in_order;
  held = ap (filter (λ (t : Part). not (is_in pair t))) tied.held ∙ sym (keys_outside pair packets);
  shapes =
      ap (filter (λ (e : Pair × Shape). not (eq_by_cmp pair_cmp pair e.0))) tied.shapes
      ∙ shapes_outside pair packets tied.in_order;
  recorded = λ q x there. recorded q x there (eq_by_cmp pair_cmp pair q) refl;
  indexed = λ u o there. indexed u o there (eq_by_cmp pair_cmp pair (pair_of u)) refl;
} where
  outside : List Packet
  outside = packets_outside pair packets

  none_there : (o : Option (List ℕ)) → o ≡ None → is_some o ≡ true → ⊥
  none_there o n h = true≢false (sym h ∙ ap is_some n)

  recorded : (q : Pair) (x : ℕ) → is_some (stored_at outside q x) ≡ true → (b : Bool)
      → eq_by_cmp pair_cmp pair q ≡ b → is_some (stated_at outside q) ≡ true
  recorded q x there true p =
      absurd (none_there (stored_at outside q x)
      (ap (λ (k : Pair). stored_at outside k x) (sym (eq_same exact_pairs pair q p)) ∙ nothing_inside pair packets x)
      there)
  recorded q x there false p =
      ap (λ (o : Option (List ℕ)). is_some (option_and_then stated_in o)) (others_stay pair packets q p 0)
      ∙ tied.recorded q x (ap is_some (sym (others_stay pair packets q p x)) ∙ there)

  indexed : (u : Part) (o : List ℕ) → value_of part_cmp outside u ≡ Some o → (b : Bool)
      → eq_by_cmp pair_cmp pair (pair_of u) ≡ b → ListsAsMany o (lists_at outside u)
  indexed u o there true p =
      absurd (none_there (stored_at outside (pair_of u) u.part)
      (ap (λ (k : Pair). stored_at outside k u.part) (sym (eq_same exact_pairs pair (pair_of u) p))
      ∙ nothing_inside pair packets u.part)
      (ap is_some there))
  indexed u o there false p =
      subst (ListsAsMany o)
      (ap (λ (r : Option (List ℕ)). option_and_then (index_count u.part) (option_and_then listing_in r))
      (sym (others_stay pair packets (pair_of u) p 0)))
      (tied.indexed u o (sym (others_stay pair packets (pair_of u) p u.part) ∙ there))

-- ---- many publications

packets_more : (pair : Pair) (pairs : List Pair) (packets : List Packet)
    → packets_outside_all (pair ∷ pairs) packets ≡ packets_outside_all pairs (packets_outside pair packets)
packets_more pair pairs [] = refl
packets_more pair pairs (e ∷ es) =
    go (is_in pair e.0) refl (is_in_any pairs e.0) refl (packets_more pair pairs es) where
      go : (b : Bool) → is_in pair e.0 ≡ b → (c : Bool) → is_in_any pairs e.0 ≡ c
          → packets_outside_all (pair ∷ pairs) es ≡ packets_outside_all pairs (packets_outside pair es)
          → packets_outside_all (pair ∷ pairs) (e ∷ es) ≡ packets_outside_all pairs (packets_outside pair (e ∷ es))
      go true a c d h = rw a h
      go false a true d h = rw (a, d) h
      go false a false d h = rw (a, d) (ap (λ (rest : List Packet). e ∷ rest) h)

packets_all : (packets : List Packet) → packets_outside_all [] packets ≡ packets
packets_all [] = refl
packets_all (e ∷ es) = ap (λ (rest : List Packet). e ∷ rest) (packets_all es)

-- packets that remain when publications are dropped one after another are those that remain when all are dropped at
-- once
pub outside_at_once : (pairs : List Pair) (packets : List Packet)
    → outside_all pairs packets ≡ packets_outside_all pairs packets
outside_at_once [] packets = sym (packets_all packets)
outside_at_once (pair ∷ pairs) packets =
    outside_at_once pairs (packets_outside pair packets) ∙ sym (packets_more pair pairs packets)

entries_more : (pair : Pair) (pairs : List Pair) (entries : List Entry)
    → without_all (pair ∷ pairs) entries ≡ without_all pairs (without pair entries)
entries_more pair pairs [] = refl
entries_more pair pairs (e ∷ es) =
    go (is_of pair e) refl (contains pair_cmp pairs (publication_of e)) refl (entries_more pair pairs es) where
      go : (b : Bool) → is_of pair e ≡ b → (c : Bool) → contains pair_cmp pairs (publication_of e) ≡ c
          → without_all (pair ∷ pairs) es ≡ without_all pairs (without pair es)
          → without_all (pair ∷ pairs) (e ∷ es) ≡ without_all pairs (without pair (e ∷ es))
      go true a c d h = rw (eq_turned exact_pairs (publication_of e) pair, a) h
      go false a true d h = rw (eq_turned exact_pairs (publication_of e) pair, a, d) h
      go false a false d h =
          rw (eq_turned exact_pairs (publication_of e) pair, a, d) (ap (λ (rest : List Entry). e ∷ rest) h)

-- none of these publications is a withdrawal
abbrev pub AreObjects : List Packet → List Pair → Type 0
AreObjects packets pairs = All (λ pair. is_withdrawal packets pair ≡ false) pairs

objects_first : (pair : Pair) (pairs : List Pair) (packets : List Packet) → AreObjects packets (pair ∷ pairs)
    → is_withdrawal packets pair ≡ false
objects_first pair pairs packets all = All-head (λ (p : Pair). is_withdrawal packets p ≡ false) pair pairs all

objects_left : (pair : Pair) (pairs : List Pair) (packets : List Packet) → Rises part_cmp (keys packets)
    → AreObjects packets (pair ∷ pairs) → AreObjects (packets_outside pair packets) pairs
objects_left pair pairs packets r all =
    All-weaker (λ (p : Pair). is_withdrawal packets p ≡ false)
    (λ (p : Pair). is_withdrawal (packets_outside pair packets) p ≡ false)
    (λ q h. withdrawals_outside pair packets r (objects_first pair pairs packets all) q h) pairs
    (All-tail (λ (p : Pair). is_withdrawal packets p ≡ false) pair pairs all)

pub catalogue_outside_all : (pairs : List Pair) (packets : List Packet) → Rises part_cmp (keys packets)
    → AreObjects packets pairs
    → without_all pairs (member_catalogue packets) ≡ member_catalogue (outside_all pairs packets)
catalogue_outside_all [] packets r all = without_none (member_catalogue packets)
catalogue_outside_all (pair ∷ pairs) packets r all =
    entries_more pair pairs (member_catalogue packets)
    ∙ ap (without_all pairs) (catalogue_outside pair packets r (objects_first pair pairs packets all))
    ∙ catalogue_outside_all pairs (packets_outside pair packets) (rises_outside pair packets r)
    (objects_left pair pairs packets r all)

pub withdrawn_outside_all : (pairs : List Pair) (packets : List Packet) → Rises part_cmp (keys packets)
    → AreObjects packets pairs → (q : Pair) → is_withdrawn (outside_all pairs packets) q ≡ is_withdrawn packets q
withdrawn_outside_all [] packets r all q = refl
withdrawn_outside_all (pair ∷ pairs) packets r all q =
    withdrawn_outside_all pairs (packets_outside pair packets) (rises_outside pair packets r)
    (objects_left pair pairs packets r all) q
    ∙ withdrawn_outside pair packets r (objects_first pair pairs packets all) q

-- what is left of other publications, and of these
pub left_of_others : (pairs : List Pair) (packets : List Packet) (q : Pair) → contains pair_cmp pairs q ≡ false
    → (x : ℕ) → stored_at (outside_all pairs packets) q x ≡ stored_at packets q x
left_of_others [] packets q other x = refl
left_of_others (pair ∷ pairs) packets q other x =
    let both = or_parts (eq_by_cmp pair_cmp q pair) (contains pair_cmp pairs q) other in
    left_of_others pairs (packets_outside pair packets) q both.1 x
    ∙ others_stay pair packets q (eq_turned exact_pairs pair q ∙ both.0) x

none_left : (pairs : List Pair) (packets : List Packet) (q : Pair) (x : ℕ) → stored_at packets q x ≡ None
    → stored_at (outside_all pairs packets) q x ≡ None
none_left [] packets q x h = h
none_left (pair ∷ pairs) packets q x h =
    none_left pairs (packets_outside pair packets) q x
    (value_outside pair packets (part_of q x)
    ∙ ap (λ (o : Option (List ℕ)). cond (not (is_in pair (part_of q x))) o None) h
    ∙ go (not (is_in pair (part_of q x)))) where
      go : (b : Bool) → let n : Option (List ℕ) = None in cond b n None ≡ n
      go true = refl
      go false = refl

nothing_left : (pairs : List Pair) (packets : List Packet) (q : Pair) → contains pair_cmp pairs q ≡ true → (x : ℕ)
    → stored_at (outside_all pairs packets) q x ≡ None
nothing_left [] packets q h x = absurd (true≢false (sym h))
nothing_left (pair ∷ pairs) packets q h x =
    go (λ r. nothing_left pairs (packets_outside pair packets) q r x) (eq_by_cmp pair_cmp q pair) refl where
      go : (contains pair_cmp pairs q ≡ true
          → stored_at (outside_all pairs (packets_outside pair packets)) q x ≡ None)
          → (b : Bool) → eq_by_cmp pair_cmp q pair ≡ b
          → stored_at (outside_all pairs (packets_outside pair packets)) q x ≡ None
      go rest true p =
          let is : q ≡ pair = eq_same exact_pairs q pair p in
          none_left pairs (packets_outside pair packets) q x
          (ap (λ (k : Pair). stored_at (packets_outside pair packets) k x) is ∙ nothing_inside pair packets x)
      go rest false p = rest (sym (ap (λ (b : Bool). b || contains pair_cmp pairs q) p) ∙ h)

pub tied_hides_all : (pairs : List Pair) (plan : PlanState) (packets : List Packet) → PlanFits plan packets
    → PlanFits (plan_hides pairs plan) (outside_all pairs packets)
tied_hides_all [] plan packets tied = tied
tied_hides_all (pair ∷ pairs) plan packets tied =
    tied_hides_all pairs (uses_room (after_hide pair plan)) (packets_outside pair packets)
    (tied_hides pair plan packets tied)

pub noted_hides_all : (pairs : List Pair) (packets : List Packet) (old new : NotesState) → Rises part_cmp (keys packets)
    → AreObjects packets pairs → new.withdrawn ≡ old.withdrawn
    → ((q : Pair) → contains pair_cmp pairs q ≡ false
    → value_of pair_cmp new.names q ≡ value_of pair_cmp old.names q)
    → AreNotes old packets → AreNotes new (outside_all pairs packets)
noted_hides_all pairs packets old new r all withdrawn names are = record {
  withdrawn = λ q.
      ap (λ (ws : List Pair). contains pair_cmp ws q) withdrawn
      ∙ are.withdrawn q
      ∙ sym (withdrawn_outside_all pairs packets r all q);
  names = λ q l listed none. go q l listed none (contains pair_cmp pairs q) refl;
} where
  after : List Packet
  after = outside_all pairs packets

  go : (q : Pair) (l : Listed) → listing_at after q ≡ Some l → whole_at after q ≡ None → (b : Bool)
      → contains pair_cmp pairs q ≡ b → value_of pair_cmp new.names q ≡ Some l.name
  go q l listed none true p =
      absurd (none_is l (sym (ap (option_and_then listing_in) (nothing_left pairs packets q p 0)) ∙ listed)) where
        none_is : (m : Listed) → let n : Option Listed = None in n ≡ Some m → ⊥
        none_is m h = cc
  go q l listed none false p =
      names q p
      ∙ are.names q l (ap (option_and_then listing_in) (sym (left_of_others pairs packets q p 0)) ∙ listed)
      (sym (same_whole packets after q (left_of_others pairs packets q p)) ∙ none)

-- a publication that isn't among these is none of them
pub is_none_of : (pairs : List Pair) (q : Pair) → contains pair_cmp pairs q ≡ false
    → All (λ pair. eq_by_cmp pair_cmp q pair ≡ false) pairs
is_none_of [] q h = All-nil (λ (pair : Pair). eq_by_cmp pair_cmp q pair ≡ false)
is_none_of (pair ∷ pairs) q h =
    let both = or_parts (eq_by_cmp pair_cmp q pair) (contains pair_cmp pairs q) h in
    All-cons (λ (pair : Pair). eq_by_cmp pair_cmp q pair ≡ false) pair pairs both.0 (is_none_of pairs q both.1)

pub all_hidden : (pairs : List Pair) (plan : PlanState) → IsHiding pairs plan (plan_hides pairs plan)
all_hidden [] plan = record { known = refl; claims = refl; hidden = refl; attempts = refl }
all_hidden (pair ∷ pairs) plan =
    let h = all_hidden pairs (uses_room (after_hide pair plan)) in
    record { known = h.known; claims = h.claims; hidden = h.hidden; attempts = h.attempts }

-- how much room it takes
pub room_hidden : (pairs : List Pair) (plan : PlanState) → length pairs ≤ plan.spare
    → (plan_hides pairs plan).spare + length pairs ≡ plan.spare
room_hidden [] plan room = omega arith
room_hidden (pair ∷ pairs) plan room =
    let h = room_hidden pairs (uses_room (after_hide pair plan)) (omega (arith, room)) in omega (arith, h, room)
