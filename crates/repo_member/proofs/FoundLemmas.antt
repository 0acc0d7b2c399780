-- A catalogued publication: its parts are stored and no others, it is known, and no fetcher claims a part of it.
use Rattle.std.proofs.Common.{◌≡◌, ◌⊎◌, inl, inr, ℕ, zero, suc, ◌+◌, ◌<◌, ◌≤◌, Bool, true, false, cond, ◌==◌, List, []}
use Rattle.std.proofs.Common.{◌∷◌, ◌++◌, map, length, take, refl, sym, ap, ◌∙◌, subst, Option, Some, None, option_map}
use Rattle.std.proofs.Common.{is_some, arith}
use Rattle.std.specs.Prelude.{filter, slice_index_or, get_or, nat_le, ◌&&◌}
use Rattle.std.proofs.lemmas.Bool.{true≢false, and_parts, or_cases, cases_eq, eqb-true, leb-true}
use Rattle.std.proofs.lemmas.List.{length-map}
use Rattle.std.proofs.lemmas.Option.{none-some}
use Rattle.std.specs.List.{list_any}
use Rattle.std.specs.Option.{option_and_then}
use Rattle.std.specs.Ordering.{eq_by_cmp, is_eq}
use Rattle.std.specs.declared.cmp.Ordering.{Ordering}
use Rattle.std.specs.declared.cmp.Ordering.TheVariants.{Less}
use Rattle.ndn_name.specs.Names.{Component}
use Rattle.repo_plan.specs.declared.part.Part.{Part}
use Rattle.sorted_lists.specs.SortedList.{keys, IsBefore, Rises, contains, value_of}
use Rattle.sorted_lists.proofs.Orders.{Exact, less_back}
use Rattle.sorted_lists.specs.Range.{numbers_from}
use Rattle.repo_plan.specs.declared.shape.Shape.{Shape}
use Rattle.repo_plan.specs.Parts.{Pair, pair_cmp, part_cmp, pair_of, part_of, parts_of, last_part, parent}
use Rattle.repo_plan.specs.Parts.{shape_of_segments}
use Rattle.repo_plan.specs.Plan.{PlanState, holds, knows, is_in, may_be_asked_for, is_listed_part, shape_of}
use Rattle.repo_plan.specs.Plan.{is_claim_in}
use Rattle.repo_plan.specs.Plan.{claims_part_in, initial_plan}
use Rattle.repo_plan.specs.Sound.{PlanIsSound}
use Rattle.repo_plan.proofs.Orders.{exact_pairs, exact_parts}
use Rattle.sorted_lists.proofs.Ranges.{length-numbers}
use Rattle.sorted_lists.proofs.Sets.{In, eq_same, eq_itself, keys-filter, rises_filter, in_filter, contains_in}
use Rattle.sorted_lists.proofs.Sets.{in_contains, in_map, from_map, each_before}
use Rattle.sorted_lists.proofs.Members.{in_at, in_filtered}
use Rattle.repo_plan.proofs.Known.{in_numbers, rises_numbers, from_parts_of, in_parts_of}
use Rattle.repo_plan.proofs.Changes.{wanted_parts}
use Rattle.repo_plan.proofs.Whole.{each_all}
use Rattle.repo_object.specs.Publication.{Listed, RecordSays}
use Rattle.repo_object.specs.Publication.RecordSays.{Lists}
use Rattle.repo_store.specs.StoreList.{packets_in, packets_outside}
use Rattle.repo_store.proofs.StoreLemmas.{lengths_inside}
use Rattle.repo_catalog.specs.declared.entry.Entry.{Entry}
use Rattle.repo_catalog.specs.Entries.{publication_of, entry_has_name, all_named, IsCatalogue}
use Rattle.group_model.proofs.SortedSets.{same_set}
use Rattle.repo_holdings.specs.Records.{Packet}
use Rattle.repo_holdings.specs.Listed.{stored_at, listing_in, listing_at, stated_at, shapes_in, are_stored}
use Rattle.repo_object.specs.Publication.{shape_stated}
use Rattle.repo_holdings.specs.Listed.{whole_at, entry_at, entry_listed, entry_of_listing, entries_in, member_catalogue}
use Rattle.repo_holdings.specs.Listed.{is_withdrawn, is_withdrawal, withdrawn_by}
use Rattle.repo_holdings.specs.Hiding.{outside_all}
use Rattle.repo_holdings.proofs.CatalogueLemmas.{entries_value, entries_rise, Keyed, entries_keyed}
use Rattle.repo_holdings.proofs.CatalogueLemmas.{shapes_value}
use Rattle.repo_holdings.proofs.GainingLemmas.{contains-value, listing_says}
use Rattle.repo_holdings.proofs.AskedLemmas.{listing_sized}

-- ---- what is catalogued is stored whole

-- how many parts a publication of `n` segments has after its record
abbrev pub parts_counted : ℕ → ℕ
parts_counted n = last_part (shape_of_segments n)

-- an object of `n` segments whose record is stored, and every part after it
pub record IsWhole (packets : List Packet) (pair : Pair) (n : ℕ) : Type 0 where
  pub listing : Listed
  pub says : stated_at packets pair ≡ Some (Lists listing)
  pub counts : listing.segments ≡ n
  pub few : n ≤ 20000
  pub each : (x : ℕ) → x ≤ parts_counted n → is_some (stored_at packets pair x) ≡ true

whole_of_entry : (packets : List Packet) (pair : Pair) (e : Entry) → entry_at packets pair ≡ Some e
    → IsWhole packets pair e.segments
whole_of_entry packets pair e h = shown (is_withdrawn packets pair) h where
  record_there : (l : Listed) (o : Option (List ℕ)) → option_and_then listing_in o ≡ Some l → is_some o ≡ true
  record_there l None p = absurd (none-some l p)
  record_there l (Some octets) p = refl

  entry_segments : Option Entry → ℕ
  entry_segments None = 0
  entry_segments (Some y) = y.segments

  of_listing : (l : Listed) → listing_at packets pair ≡ Some l → (b : Bool)
      → are_stored packets pair (parts_counted l.segments) ≡ b
      → cond b (Some (entry_of_listing packets pair l)) None ≡ Some e
      → IsWhole packets pair e.segments
  of_listing l p false q h = absurd (none-some e h)
  of_listing l p true q h =
      let long : l.segments ≡ e.segments = ap entry_segments h in
      record {
        listing = l;
        says = listing_says (stored_at packets pair 0) l p;
        counts = long;
        few = omega (arith, long, (listing_sized (stored_at packets pair 0) l p).segments);
        each = λ x below. at x below (cases_eq x 0);
      } where
        at : (x : ℕ) → x ≤ parts_counted e.segments → ((x ≡ 0) ⊎ (x ≡ 0 → ⊥))
            → is_some (stored_at packets pair x) ≡ true
        at x below (inl z) =
            ap (λ (y : ℕ). is_some (stored_at packets pair y)) z ∙ record_there l (stored_at packets pair 0) p
        at x below (inr nz) =
            let counted : parts_counted l.segments ≡ parts_counted e.segments =
            ap (λ o. parts_counted (entry_segments o)) h in
            each_all (λ (y : ℕ). is_some (stored_at packets pair y)) (numbers_from 1 (parts_counted l.segments)) q x
            (in_numbers 1 (parts_counted l.segments) x (omega (arith, nz)) (omega (arith, below, counted)))

  go : (o : Option Listed) → listing_at packets pair ≡ o → option_and_then (entry_listed packets pair) o ≡ Some e
      → IsWhole packets pair e.segments
  go None p q = absurd (none-some e q)
  go (Some l) p q = of_listing l p (are_stored packets pair (parts_counted l.segments)) refl q

  shown : (b : Bool) → cond b None (whole_at packets pair) ≡ Some e → IsWhole packets pair e.segments
  shown true q = absurd (none-some e q)
  shown false q = go (listing_at packets pair) refl q

-- what stands in a map in order is found
pub value_in : {K V : Type 0} {R : K → K → Ordering} (e : Exact R) (es : List (K × V)) (x : K × V) → Rises R (keys es)
    → In x es → value_of R es x.0 ≡ Some x.1
value_in e [] x r i = absurd i
value_in {K} {V} {R} e (y ∷ ys) x r (inl same) =
    subst (λ (z : K × V). value_of R (y ∷ ys) z.0 ≡ Some z.1) (sym same)
    (ap (λ (b : Bool). cond b (Some y.1) (value_of R ys y.0)) (eq_itself e y.0))
value_in {K} {V} {R} e (y ∷ ys) x r (inr i) =
    let before = each_before e.total y.0 (keys ys) r.0 x.0 (in_map (λ (z : K × V). z.0) ys x i) in
    ap (λ (o : Ordering). cond (is_eq o) (Some y.1) (value_of R ys x.0)) (less_back e.total y.0 x.0 before)
    ∙ value_in e ys x r.1 i

keyed_at : (es : List (Pair × Entry)) (x : Pair × Entry) → Keyed es → In x es → publication_of x.1 ≡ x.0
keyed_at [] x k i = absurd i
keyed_at (y ∷ es) x k (inl same) = subst (λ (z : Pair × Entry). publication_of z.1 ≡ z.0) (sym same) k.0
keyed_at (y ∷ es) x k (inr i) = keyed_at es x k.1 i

-- an entry of the catalogue is that of its publication
entry_of_listed : (packets : List Packet) (e : Entry) → Rises part_cmp (keys packets) → In e (member_catalogue packets)
    → entry_at packets (publication_of e) ≡ Some e
entry_of_listed packets e r i =
    let x : (x : Pair × Entry) × (In x (entries_in packets)) × (e ≡ x.1) =
    from_map (λ (y : Pair × Entry). y.1) (entries_in packets) e i in
    let key : publication_of x.0.1 ≡ x.0.0 = keyed_at (entries_in packets) x.0 (entries_keyed packets) x.1 in
    let value : entry_at packets x.0.0 ≡ Some x.0.1 =
    sym (entries_value packets x.0.0 r) ∙ value_in exact_pairs (entries_in packets) x.0 (entries_rise packets r) x.1 in
    let pair : x.0.0 ≡ publication_of e = sym key ∙ ap publication_of (sym x.2) in
    ap (entry_at packets) (sym pair) ∙ value ∙ ap (λ (y : Entry). Some y) (sym x.2)

pub entry_listed_whole : (packets : List Packet) (e : Entry) → Rises part_cmp (keys packets)
    → In e (member_catalogue packets) → IsWhole packets (publication_of e) e.segments
entry_listed_whole packets e r i = whole_of_entry packets (publication_of e) e (entry_of_listed packets e r i)

-- ---- such a publication in a sound plan

-- a plan holds what is stored, and knows what the stored records tell
pub record IsReadFrom (packets : List Packet) (p : PlanState) : Type 0 where
  pub in_order : Rises part_cmp (keys packets)
  pub held : p.held ≡ keys packets
  pub shapes : p.shapes ≡ shapes_in packets

module _ (p : PlanState) (packets : List Packet) (pair : Pair) (n : ℕ) (s : PlanIsSound p)
    (read : IsReadFrom packets p) (whole : IsWhole packets pair n) where
  pub held_each : (x : ℕ) → x ≤ parts_counted n → holds p (part_of pair x) ≡ true
  held_each x below =
      ap (λ (ts : List Part). contains part_cmp ts (part_of pair x)) read.held
      ∙ contains-value packets (part_of pair x)
      ∙ whole.each x below

  shaped : shape_of p pair ≡ Some (shape_of_segments n)
  shaped =
      ap (λ (es : List (Pair × Shape)). value_of pair_cmp es pair) read.shapes
      ∙ shapes_value packets pair read.in_order
      ∙ ap (option_map shape_stated) whole.says
      ∙ ap (λ (k : ℕ). Some (shape_of_segments k)) whole.counts

  counted : (t : Part) → may_be_asked_for p t ≡ true → pair_of t ≡ pair → t.part ≤ parts_counted n
  counted t asked here =
      let can : is_listed_part p.held (shape_of p (pair_of t)) t ≡ true =
      (and_parts (knows p (pair_of t)) (is_listed_part p.held (shape_of p (pair_of t)) t) asked).1 in
      let received : is_listed_part p.held (Some (shape_of_segments n)) t ≡ true =
      ap (λ (o : Option Shape). is_listed_part p.held o t) (sym shaped ∙ ap (shape_of p) (sym here)) ∙ can in
      elim (or_cases (t.part == 0)
      (nat_le t.part (parts_counted n) && contains part_cmp p.held (parent (shape_of_segments n) t)) received) [
        | inl first ↦ omega (arith, eqb-true t.part 0 first)
        | inr after ↦
            leb-true t.part (parts_counted n)
            (and_parts (nat_le t.part (parts_counted n))
            (contains part_cmp p.held (parent (shape_of_segments n) t)) after).0
      ]

  pub whole_object : is_withdrawal packets pair ≡ false
  whole_object = ap (λ (o : Option RecordSays). is_some (option_and_then (withdrawn_by pair) o)) whole.says

  pub whole_known : knows p pair ≡ true
  whole_known =
      (and_parts (knows p pair) (is_listed_part p.held (shape_of p pair) (part_of pair 0))
      (s.held (part_of pair 0) (held_each 0 (omega arith))).asked).0

  -- no fetcher claims a part of it
  pub whole_unclaimed : claims_part_in p pair ≡ false
  whole_unclaimed = none p.claims differs where
    free : (t : Part) → (b : Bool) → is_in pair t ≡ b → (may_be_asked_for p t ≡ true) × (holds p t ≡ false) → b ≡ false
    free t true q w =
        let here : pair ≡ pair_of t = eq_same exact_pairs pair (pair_of t) q in
        let there : holds p (part_of pair t.part) ≡ true = held_each t.part (counted t w.0 (sym here)) in
        absurd (true≢false (sym (ap (λ (k : Pair). holds p (part_of k t.part)) (sym here) ∙ there) ∙ w.1))
    free t false q w = refl

    head : (c : Option Part) → ((t : Part) → c ≡ Some t → is_in pair t ≡ false) → is_claim_in pair c ≡ false
    head None h = refl
    head (Some t) h = h t refl

    none : (claims : List (Option Part))
        → ((f : ℕ) (t : Part) → slice_index_or claims f None ≡ Some t → is_in pair t ≡ false)
        → list_any (is_claim_in pair) claims ≡ false
    none [] h = refl
    none (c ∷ claims) h = rw (head c (h 0)) (none claims (λ f t e. h (suc f) t e))

    differs : (f : ℕ) (t : Part) → slice_index_or p.claims f None ≡ Some t → is_in pair t ≡ false
    differs f t e = let w = wanted_parts p t (s.claimed f t e) in free t (is_in pair t) refl (w.asked, w.not_held)

  -- ---- how many packets it has

  from_inside : (q : Part) → In q (filter (is_in pair) (keys packets)) → In q (parts_of pair (parts_counted n))
  from_inside q i =
      let both = in_filtered (is_in pair) (keys packets) q i in
      let here : pair ≡ pair_of q = eq_same exact_pairs pair (pair_of q) both.1 in
      let held : holds p q ≡ true =
      ap (λ (ts : List Part). contains part_cmp ts q) read.held ∙ contains_in exact_parts (keys packets) q both.0 in
      subst (λ (k : Pair). In q (parts_of k (parts_counted n))) (sym here)
      (in_parts_of (parts_counted n) q (counted q (s.held q held).asked (sym here)))

  to_inside : (q : Part) → In q (parts_of pair (parts_counted n)) → In q (filter (is_in pair) (keys packets))
  to_inside q i =
      let both = from_parts_of pair (parts_counted n) q i in
      let there : contains part_cmp (keys packets) (part_of pair q.part) ≡ true =
      contains-value packets (part_of pair q.part) ∙ whole.each q.part both.1 in
      let same : part_of pair q.part ≡ q = ap (λ (k : Pair). part_of k q.part) (sym both.0) in
      in_filter (is_in pair) (keys packets) q
      (in_contains exact_parts (keys packets) q (ap (contains part_cmp (keys packets)) (sym same) ∙ there))
      (ap (eq_by_cmp pair_cmp pair) both.0 ∙ eq_itself exact_pairs pair)

  inside_is : filter (is_in pair) (keys packets) ≡ parts_of pair (parts_counted n)
  inside_is = same_set exact_parts (filter (is_in pair) (keys packets)) (parts_of pair (parts_counted n))
      (rises_filter exact_parts.total (is_in pair) (keys packets) read.in_order)
      (rises_numbers (initial_plan 0) pair 0 (parts_counted n + 1)) from_inside to_inside

  pub packets_counted : length (packets_in pair packets) ≡ parts_counted n + 1
  packets_counted =
      sym (length-map (packets_in pair packets) (λ (e : Packet). e.0))
      ∙ ap length (keys-filter exact_parts (is_in pair) packets ∙ inside_is)
      ∙ length-map (numbers_from 0 (parts_counted n + 1)) (part_of pair) ∙ length-numbers 0 (parts_counted n + 1)

-- ---- one publication after another

pub outside_append : (pairs : List Pair) (q : Pair) (packets : List Packet)
    → outside_all (pairs ++ q ∷ []) packets ≡ packets_outside q (outside_all pairs packets)
outside_append [] q packets = refl
outside_append (k ∷ pairs) q packets = outside_append pairs q (packets_outside k packets)

inside_outside : (pair q : Pair) (packets : List Packet) → eq_by_cmp pair_cmp q pair ≡ false
    → packets_in pair (packets_outside q packets) ≡ packets_in pair packets
inside_outside pair q [] other = refl
inside_outside pair q (e ∷ es) other =
    go (is_in q e.0) refl (is_in pair e.0) refl (inside_outside pair q es other) where
      both : is_in q e.0 ≡ true → is_in pair e.0 ≡ true → ⊥
      both a b =
          let same : q ≡ pair =
          eq_same exact_pairs q (pair_of e.0) a ∙ sym (eq_same exact_pairs pair (pair_of e.0) b) in
          true≢false (sym (eq_itself exact_pairs q) ∙ ap (eq_by_cmp pair_cmp q) same ∙ other)

      go : (b : Bool) → is_in q e.0 ≡ b → (c : Bool) → is_in pair e.0 ≡ c
          → packets_in pair (packets_outside q es) ≡ packets_in pair es
          → packets_in pair (packets_outside q (e ∷ es)) ≡ packets_in pair (e ∷ es)
      go true a true c h = absurd (both a c)
      go true a false c h = rw (a, c) h
      go false a true c h = rw (a, c) (ap (λ (rest : List Packet). e ∷ rest) h)
      go false a false c h = rw (a, c) h

inside_all : (pair : Pair) (pairs : List Pair) (packets : List Packet)
    → ((q : Pair) → In q pairs → eq_by_cmp pair_cmp q pair ≡ false)
    → packets_in pair (outside_all pairs packets) ≡ packets_in pair packets
inside_all pair [] packets others = refl
inside_all pair (k ∷ pairs) packets others =
    inside_all pair pairs (packets_outside k packets) (λ q i. others q (inr i))
    ∙ inside_outside pair k packets (others k (inl refl))

-- ---- the publications of a name

before_named : (name : List Component) (k : Pair) (es : List Entry) → IsBefore pair_cmp k (map publication_of es)
    → IsBefore pair_cmp k (all_named name es)
before_named name k [] b = tt
before_named name k (e ∷ es) b = go (entry_has_name name e) (before_named name k es b.1) where
  go : (c : Bool) → IsBefore pair_cmp k (all_named name es)
      → IsBefore pair_cmp k
      (map publication_of (cond c (e ∷ filter (entry_has_name name) es) (filter (entry_has_name name) es)))
  go true h = (b.0, h)
  go false h = h

-- they are in order, as the entries are
pub named_rises : (name : List Component) (es : List Entry) → IsCatalogue es → Rises pair_cmp (all_named name es)
named_rises name [] r = tt
named_rises name (e ∷ es) r = go (entry_has_name name e) (named_rises name es r.1) where
  go : (c : Bool) → Rises pair_cmp (all_named name es)
      → Rises pair_cmp
      (map publication_of (cond c (e ∷ filter (entry_has_name name) es) (filter (entry_has_name name) es)))
  go true h = (before_named name (publication_of e) es r.0, h)
  go false h = h

-- each has its entry
pub named_entry : (packets : List Packet) (name : List Component) (pair : Pair) → Rises part_cmp (keys packets)
    → In pair (all_named name (member_catalogue packets)) → is_some (entry_at packets pair) ≡ true
named_entry packets name pair r i =
    let e : (e : Entry) × (In e (filter (entry_has_name name) (member_catalogue packets))) × (pair ≡ publication_of e) =
    from_map publication_of (filter (entry_has_name name) (member_catalogue packets)) pair i in
    let there = in_filtered (entry_has_name name) (member_catalogue packets) e.0 e.1 in
    ap (λ (q : Pair). is_some (entry_at packets q)) e.2 ∙ ap is_some (entry_of_listed packets e.0 r there.0)

-- each that stands before another is another
each_earlier : (ps : List Pair) (i : ℕ) (d q : Pair) → Rises pair_cmp ps → i < length ps → In q (take i ps)
    → pair_cmp q (get_or ps i d) ≡ Less
each_earlier [] i d q r l j = absurd (omega (arith, l))
each_earlier (p ∷ ps) zero d q r l j = absurd j
each_earlier (p ∷ ps) (suc i) d q r l (inl same) =
    ap (λ (k : Pair). pair_cmp k (get_or ps i d)) same
    ∙ each_before exact_pairs.total p ps r.0 (get_or ps i d) (in_at ps i d (omega (arith, l)))
each_earlier (p ∷ ps) (suc i) d q r l (inr j) = each_earlier ps i d q r.1 (omega (arith, l)) j

-- one more publication to drop is one record and its other parts fewer
pub one_more_dropped : (p : PlanState) (packets : List Packet) (pair : Pair) (n : ℕ) (pairs : List Pair) → PlanIsSound p
    → IsReadFrom packets p → IsWhole packets pair n
    → ((q : Pair) → In q pairs → eq_by_cmp pair_cmp q pair ≡ false)
    → length (outside_all (pairs ++ pair ∷ []) packets) + (parts_counted n + 1) ≡ length (outside_all pairs packets)
one_more_dropped p packets pair n pairs s read whole others =
    let prefix = outside_all pairs packets in
    let split = lengths_inside pair prefix in
    let inside : length (packets_in pair prefix) ≡ parts_counted n + 1 =
    ap length (inside_all pair pairs packets others) ∙ packets_counted p packets pair n s read whole in
    let more : length (outside_all (pairs ++ pair ∷ []) packets) ≡ length (packets_outside pair prefix) =
    ap length (outside_append pairs pair packets) in
    omega (arith, split, inside, more)

-- hiding publications adds no packet
pub outside_shorter : (pairs : List Pair) (packets : List Packet) → length (outside_all pairs packets) ≤ length packets
outside_shorter [] packets = omega arith
outside_shorter (pair ∷ pairs) packets =
    let split = lengths_inside pair packets in
    let shorter = outside_shorter pairs (packets_outside pair packets) in
    omega (arith, split, shorter)

-- ---- a publication among those of a name

-- what a loop over the publications of a name finds of one
pub record IsNamedAt (p : PlanState) (packets : List Packet) (pairs : List Pair) (i : ℕ) (pair : Pair) (n : ℕ) : Type 0
  where
    pub held : holds p (part_of pair 0) ≡ true
    pub known : knows p pair ≡ true
    pub unclaimed : claims_part_in p pair ≡ false
    pub object : is_withdrawal packets pair ≡ false
    pub few : n ≤ 20000
    pub fewer : length (outside_all (take i pairs ++ pair ∷ []) packets) + (parts_counted n + 1)
        ≡ length (outside_all (take i pairs) packets)

pub named_is_at : (p : PlanState) (packets : List Packet) (pairs : List Pair) (i : ℕ) (d : Pair) (e : Entry)
    → PlanIsSound p → IsReadFrom packets p → Rises pair_cmp pairs → i < length pairs
    → entry_at packets (get_or pairs i d) ≡ Some e
    → IsNamedAt p packets pairs i (get_or pairs i d) e.segments
named_is_at p packets pairs i d e sound read order low there =
    let pair : Pair = get_or pairs i d in
    let whole : IsWhole packets pair e.segments = whole_of_entry packets pair e there in
    record {
      held = held_each p packets pair e.segments sound read whole 0 (omega arith);
      known = whole_known p packets pair e.segments sound read whole;
      object = whole_object p packets pair e.segments sound read whole;
      few = whole.few;
      unclaimed = whole_unclaimed p packets pair e.segments sound read whole;
      fewer =
          one_more_dropped p packets pair e.segments (take i pairs) sound read whole
          (λ q j. ap is_eq (each_earlier pairs i d q order low j));
    }
