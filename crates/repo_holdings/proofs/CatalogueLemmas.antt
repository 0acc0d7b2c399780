-- The catalogue of stored packets after one publication changed.
use Rattle.std.proofs.Common.{◌≡◌, ℕ, ◌+◌, not, Bool, true, false, cond, List, [], ◌∷◌, map, refl, sym, ap, ◌∙◌}
use Rattle.std.proofs.Common.{Option, Some}
use Rattle.std.proofs.Common.{None, option_map, is_some, unwrap_or, length, subst}
use Rattle.std.specs.Prelude.{filter}
use Rattle.std.specs.List.{flat_map, list_all}
use Rattle.std.specs.Option.{option_and_then}
use Rattle.std.specs.Ordering.{eq_by_cmp, is_eq}
use Rattle.std.specs.declared.cmp.Ordering.{Ordering}
use Rattle.std.specs.declared.cmp.Ordering.TheVariants.{Less, Equal, Greater}
use Rattle.sha2.specs.Sha256.{sha256}
use Rattle.sorted_lists.specs.SortedList.{by_order, keys, Rises, value_of, with_value}
use Rattle.sorted_lists.specs.Range.{numbers_from}
use Rattle.repo_plan.specs.Parts.{Pair, pair_cmp, part_cmp, last_part}
use Rattle.repo_plan.proofs.Orders.{exact_pairs}
use Rattle.sorted_lists.proofs.Sets.{eq_same, eq_itself, rises_with_value, value_of-with_value, rises_keys_filter}
use Rattle.sorted_lists.proofs.Sets.{value_of-filter, eq_turned}
use Rattle.repo_object.specs.Publication.{Listed, shape_stated}
use Rattle.repo_object.specs.Verdict.{stated_in}
use Rattle.repo_catalog.specs.declared.entry.Entry.{Entry}
use Rattle.repo_catalog.specs.Entries.{publication_of, entry_of, with_entry, without, IsCatalogue}
use Rattle.repo_holdings.specs.KeptValues.{with_kept, kept_values}
use Rattle.repo_holdings.specs.Records.{Packet, records_in}
use Rattle.repo_holdings.specs.Listed.{listing_in, listing_at, stored_at, stated_at, listed_shape, shapes_in}
use Rattle.repo_object.specs.Packets.{packet_content}
use Rattle.repo_holdings.specs.Listed.{entry_listed, are_stored, entry_of_listing, whole_at, entry_at}
use Rattle.repo_holdings.specs.Listed.{is_withdrawn, entries_in, member_catalogue}
use Rattle.repo_holdings.specs.Gaining.{with_listed}
use Rattle.repo_holdings.proofs.SortedMaps.{same_map, rises_kept, value_of-kept}
use Rattle.repo_holdings.proofs.RecordLemmas.{rises_records, value_of-records}

pub fun_ext : {A B : Type 0} (f g : A → B) → ((x : A) → f x ≡ g x) → f ≡ g
fun_ext f g h = λ i x. h x i

-- ---- by publication

and_then_map : {A B C : Type 0} (f : A → Option B) (g : B → C) (o : Option A)
    → option_and_then (λ x. option_map g (f x)) o ≡ option_map g (option_and_then f o)
and_then_map f g None = refl
and_then_map f g (Some x) = refl

and_then_twice : {A B C : Type 0} (f : A → Option B) (g : B → Option C) (o : Option A)
    → option_and_then (λ x. option_and_then g (f x)) o ≡ option_and_then g (option_and_then f o)
and_then_twice f g None = refl
and_then_twice f g (Some x) = refl

-- what a plan is given of a publication
pub shapes_value : (packets : List Packet) (pair : Pair) → Rises part_cmp (keys packets)
    → value_of pair_cmp (shapes_in packets) pair ≡ option_map shape_stated (stated_at packets pair)
shapes_value packets pair r =
    value_of-kept exact_pairs (λ q octets. option_map shape_stated (stated_in octets)) (records_in packets) pair
    (rises_records packets r)
    ∙ ap (option_and_then (λ octets. option_map shape_stated (stated_in octets))) (value_of-records packets pair)
    ∙ and_then_map stated_in shape_stated (stored_at packets pair 0)

pub shapes_rise : (packets : List Packet) → Rises part_cmp (keys packets) → Rises pair_cmp (keys (shapes_in packets))
shapes_rise packets r =
    rises_kept exact_pairs (λ q octets. option_map shape_stated (stated_in octets)) (records_in packets)
    (rises_records packets r)

abbrev listed_entry : List Packet → Pair → List ℕ → Option Entry
listed_entry packets pair octets =
    cond (is_withdrawn packets pair) None (option_and_then (entry_listed packets pair) (listing_in octets))

unless : {A B : Type 0} (b : Bool) (f : A → Option B) (o : Option A)
    → option_and_then (λ x. cond b None (f x)) o ≡ cond b None (option_and_then f o)
unless true f None = refl
unless true f (Some x) = refl
unless false f o = refl

pub entries_value : (packets : List Packet) (pair : Pair) → Rises part_cmp (keys packets)
    → value_of pair_cmp (entries_in packets) pair ≡ entry_at packets pair
entries_value packets pair r =
    value_of-kept exact_pairs (listed_entry packets) (records_in packets) pair (rises_records packets r)
    ∙ ap (option_and_then (listed_entry packets pair)) (value_of-records packets pair)
    ∙ unless (is_withdrawn packets pair) (λ octets. option_and_then (entry_listed packets pair) (listing_in octets))
    (stored_at packets pair 0)
    ∙ ap (cond (is_withdrawn packets pair) None)
    (and_then_twice listing_in (entry_listed packets pair) (stored_at packets pair 0))

pub entries_rise : (packets : List Packet) → Rises part_cmp (keys packets) → Rises pair_cmp (keys (entries_in packets))
entries_rise packets r = rises_kept exact_pairs (listed_entry packets) (records_in packets) (rises_records packets r)

-- ---- entries stand under their publications

abbrev pub Keyed : List (Pair × Entry) → Type 0
Keyed [] = Unit {0}
Keyed (x ∷ xs) = (publication_of x.1 ≡ x.0) × Keyed xs

keyed_kept : {V : Type 0} (f : Pair → V → Option Entry)
    → ((k : Pair) (v : V) (e : Entry) → f k v ≡ Some e → publication_of e ≡ k) → (es : List (Pair × V))
    → Keyed (kept_values f es)
keyed_kept f h [] = tt
keyed_kept f h (x ∷ es) = go (f x.0 x.1) refl (keyed_kept f h es) where
  go : (o : Option Entry) → f x.0 x.1 ≡ o → Keyed (kept_values f es) → Keyed (with_kept x.0 o (kept_values f es))
  go None p k = k
  go (Some e) p k = (h x.0 x.1 e p, k)

pub none_is_some : (e : Entry) → let n : Option Entry = None in n ≡ Some e → ⊥
none_is_some e h = cc

entry_keyed : (packets : List Packet) (pair : Pair) (l : Listed) (e : Entry) → entry_listed packets pair l ≡ Some e
    → publication_of e ≡ pair
entry_keyed packets pair l e h =
    go (are_stored packets pair (last_part (listed_shape l))) h where
      go : (b : Bool) → cond b (Some (entry_of_listing packets pair l)) None ≡ Some e → publication_of e ≡ pair
      go true p = let same : entry_of_listing packets pair l ≡ e = cc in ap publication_of (sym same)
      go false p = absurd (none_is_some e p)

-- an entry is of its publication
pub whole_is_of : (packets : List Packet) (pair : Pair) (e : Entry) → whole_at packets pair ≡ Some e
    → publication_of e ≡ pair
whole_is_of packets pair e h = go (listing_at packets pair) h where
  go : (o : Option Listed) → option_and_then (entry_listed packets pair) o ≡ Some e → publication_of e ≡ pair
  go None p = absurd (none_is_some e p)
  go (Some l) p = entry_keyed packets pair l e p

pub entry_is_of : (packets : List Packet) (pair : Pair) (e : Entry) → entry_at packets pair ≡ Some e
    → publication_of e ≡ pair
entry_is_of packets pair e h = go (is_withdrawn packets pair) h where
  go : (b : Bool) → cond b None (whole_at packets pair) ≡ Some e → publication_of e ≡ pair
  go true p = absurd (none_is_some e p)
  go false p = whole_is_of packets pair e p

-- an object that is listed is not withdrawn, and stored whole
pub entry_not_withdrawn : (packets : List Packet) (pair : Pair) (e : Entry) → entry_at packets pair ≡ Some e
    → is_withdrawn packets pair ≡ false
entry_not_withdrawn packets pair e h = go (is_withdrawn packets pair) h where
  go : (b : Bool) → cond b None (whole_at packets pair) ≡ Some e → b ≡ false
  go true p = absurd (none_is_some e p)
  go false p = refl

-- where nothing is stored whole, nothing is listed
pub entry_of_none : (packets : List Packet) (pair : Pair) → whole_at packets pair ≡ None → entry_at packets pair ≡ None
entry_of_none packets pair h = go (is_withdrawn packets pair) where
  go : (b : Bool) → cond b None (whole_at packets pair) ≡ None
  go true = refl
  go false = h

listed_keyed : (packets : List Packet) (pair : Pair) (octets : List ℕ) (e : Entry)
    → listed_entry packets pair octets ≡ Some e → publication_of e ≡ pair
listed_keyed packets pair octets e h = kept (is_withdrawn packets pair) h where
  go : (o : Option Listed) → option_and_then (entry_listed packets pair) o ≡ Some e → publication_of e ≡ pair
  go None p = absurd (none_is_some e p)
  go (Some l) p = entry_keyed packets pair l e p

  kept : (b : Bool) → cond b None (option_and_then (entry_listed packets pair) (listing_in octets)) ≡ Some e
      → publication_of e ≡ pair
  kept true p = absurd (none_is_some e p)
  kept false p = go (listing_in octets) p

pub entries_keyed : (packets : List Packet) → Keyed (entries_in packets)
entries_keyed packets = keyed_kept (listed_entry packets) (listed_keyed packets) (records_in packets)

find_keyed : (pair : Pair) (es : List (Pair × Entry)) → Keyed es
    → entry_of pair (map (λ x. x.1) es) ≡ value_of pair_cmp es pair
find_keyed pair [] k = refl
find_keyed pair (x ∷ es) k =
    ap (λ (q : Pair). cond (eq_by_cmp pair_cmp pair q) (Some x.1) (entry_of pair (map (λ y. y.1) es))) k.0
    ∙ ap (λ (o : Option Entry). cond (eq_by_cmp pair_cmp pair x.0) (Some x.1) o) (find_keyed pair es k.1)

-- the catalogue has the entry of a publication, if that has one
pub entry_of_alone : (packets : List Packet) (pair : Pair) → Rises part_cmp (keys packets)
    → entry_of pair (member_catalogue packets) ≡ entry_at packets pair
entry_of_alone packets pair r =
    find_keyed pair (entries_in packets) (entries_keyed packets) ∙ entries_value packets pair r

publications_keyed : (es : List (Pair × Entry)) → Keyed es → map publication_of (map (λ x. x.1) es) ≡ keys es
publications_keyed [] k = refl
publications_keyed (x ∷ es) k =
    ap (λ (q : Pair). q ∷ map publication_of (map (λ y. y.1) es)) k.0
    ∙ ap (λ (rest : List Pair). x.0 ∷ rest) (publications_keyed es k.1)

pub alone_in_order : (packets : List Packet) → Rises part_cmp (keys packets) → IsCatalogue (member_catalogue packets)
alone_in_order packets r =
    subst (Rises pair_cmp) (sym (publications_keyed (entries_in packets) (entries_keyed packets)))
    (entries_rise packets r)

-- a new entry goes to its place
with_entry-map : (e : Entry) (es : List (Pair × Entry)) → Keyed es → value_of pair_cmp es (publication_of e) ≡ None
    → map (λ x. x.1) (with_value pair_cmp (publication_of e) e es) ≡ with_entry e (map (λ x. x.1) es)
with_entry-map e [] k none = refl
with_entry-map e (x ∷ es) k none = go (λ p. with_entry-map e es k.1 p) (pair_cmp (publication_of e) x.0) refl where
  there : pair_cmp (publication_of e) x.0 ≡ pair_cmp (publication_of e) (publication_of x.1)
  there = ap (pair_cmp (publication_of e)) (sym k.0)

  go : (value_of pair_cmp es (publication_of e) ≡ None
      → map (λ y. y.1) (with_value pair_cmp (publication_of e) e es) ≡ with_entry e (map (λ y. y.1) es))
      → (o : Ordering) → pair_cmp (publication_of e) x.0 ≡ o
      → map (λ y. y.1)
      (by_order o ((publication_of e, e) ∷ x ∷ es) ((publication_of e, e) ∷ es)
      (x ∷ with_value pair_cmp (publication_of e) e es))
      ≡ by_order (pair_cmp (publication_of e) (publication_of x.1)) (e ∷ x.1 ∷ map (λ y. y.1) es)
      (x.1 ∷ map (λ y. y.1) es) (x.1 ∷ with_entry e (map (λ y. y.1) es))
  go h Less p = rw (← there, p) refl
  go h Equal p =
      absurd (none_is_some x.1
      (sym none ∙ ap (λ (o : Ordering). cond (is_eq o) (Some x.1) (value_of pair_cmp es (publication_of e))) p))
  go h Greater p =
      let later : value_of pair_cmp es (publication_of e) ≡ None =
      sym (ap (λ (o : Ordering). cond (is_eq o) (Some x.1) (value_of pair_cmp es (publication_of e))) p) ∙ none in
      rw (← there, p) (ap (λ (rest : List Entry). x.1 ∷ rest) (h later))

-- and what is removed goes
without_keyed : (pair : Pair) (es : List (Pair × Entry)) → Keyed es
    → without pair (map (λ x. x.1) es) ≡ map (λ x. x.1) (filter (λ e. not (eq_by_cmp pair_cmp pair e.0)) es)
without_keyed pair [] k = refl
without_keyed pair (x ∷ es) k =
    ap (λ (q : Pair). cond (not (eq_by_cmp pair_cmp pair q)) (x.1 ∷ without pair (map (λ y. y.1) es))
    (without pair (map (λ y. y.1) es))) k.0
    ∙ go (not (eq_by_cmp pair_cmp pair x.0)) (without_keyed pair es k.1) where
      go : (b : Bool)
          → without pair (map (λ y. y.1) es) ≡ map (λ y. y.1) (filter (λ e. not (eq_by_cmp pair_cmp pair e.0)) es)
          → cond b (x.1 ∷ without pair (map (λ y. y.1) es)) (without pair (map (λ y. y.1) es))
          ≡ map (λ y. y.1)
          (cond b (x ∷ filter (λ e. not (eq_by_cmp pair_cmp pair e.0)) es)
          (filter (λ e. not (eq_by_cmp pair_cmp pair e.0)) es))
      go true h = ap (λ (rest : List Entry). x.1 ∷ rest) h
      go false h = h

-- ---- what an entry depends on

abbrev stored_entry : (ℕ → Option (List ℕ)) → Pair → Listed → Option Entry
stored_entry at pair l =
    cond (list_all (λ x. is_some (at x)) (numbers_from 1 (last_part (listed_shape l))))
    (Some
    (let joined =
    flat_map (λ x. packet_content (unwrap_or (at x) []))
    (numbers_from ((listed_shape l).index + 1) (listed_shape l).segments) in record {
      publisher = pair.0;
      seq = pair.1;
      name = l.name;
      segments = l.segments;
      octets = length joined;
      digest = sha256 joined;
    })) None

abbrev entry_from : (ℕ → Option (List ℕ)) → Pair → Option Entry
entry_from at pair = option_and_then (stored_entry at pair) (option_and_then listing_in (at 0))

-- publications with the same packets are stored alike
pub same_whole : (old new : List Packet) (pair : Pair) → ((x : ℕ) → stored_at new pair x ≡ stored_at old pair x)
    → whole_at new pair ≡ whole_at old pair
same_whole old new pair h =
    ap (λ (at : ℕ → Option (List ℕ)). entry_from at pair) (fun_ext (stored_at new pair) (stored_at old pair) h)

-- publications with the same packets have the same entry, where they are withdrawn or not as before
pub same_entry : (old new : List Packet) (pair : Pair) → ((x : ℕ) → stored_at new pair x ≡ stored_at old pair x)
    → is_withdrawn new pair ≡ is_withdrawn old pair → entry_at new pair ≡ entry_at old pair
same_entry old new pair h w =
    ap (λ (b : Bool). cond b None (whole_at new pair)) w
    ∙ ap (cond (is_withdrawn old pair) None) (same_whole old new pair h)

-- where the entry of one publication alone changed
module _ (old new : List Packet) (pair : Pair) (old_order : Rises part_cmp (keys old))
    (new_order : Rises part_cmp (keys new))
    (others : (q : Pair) → eq_by_cmp pair_cmp q pair ≡ false → entry_at new q ≡ entry_at old q) where
  same_entries : (entries : List (Pair × Entry)) → Rises pair_cmp (keys entries)
      → ((q : Pair) → eq_by_cmp pair_cmp q pair ≡ false
      → value_of pair_cmp entries q ≡ value_of pair_cmp (entries_in old) q)
      → value_of pair_cmp entries pair ≡ entry_at new pair → entries_in new ≡ entries
  same_entries entries r there here =
      same_map exact_pairs (entries_in new) entries (entries_rise new new_order) r
      (λ q. go q (eq_by_cmp pair_cmp q pair) refl) where
        go : (q : Pair) (b : Bool) → eq_by_cmp pair_cmp q pair ≡ b
            → value_of pair_cmp (entries_in new) q ≡ value_of pair_cmp entries q
        go q true p =
            let is = eq_same exact_pairs q pair p in
            entries_value new q new_order ∙ ap (entry_at new) is ∙ sym here ∙ ap (value_of pair_cmp entries) (sym is)
        go q false p =
            entries_value new q new_order ∙ others q p ∙ sym (entries_value old q old_order) ∙ sym (there q p)

  -- it has none any more
  pub unlisted : entry_at new pair ≡ None → member_catalogue new ≡ without pair (member_catalogue old)
  unlisted none =
      ap (map (λ x. x.1))
      (same_entries (filter (λ e. not (eq_by_cmp pair_cmp pair e.0)) (entries_in old))
      (rises_keys_filter exact_pairs (λ q. not (eq_by_cmp pair_cmp pair q)) (entries_in old)
      (entries_rise old old_order))
      (λ q other. value q ∙ ap (λ (b : Bool). cond (not b) (value_of pair_cmp (entries_in old) q) None)
      (eq_turned exact_pairs pair q ∙ other))
      (value pair
      ∙ ap (λ (b : Bool). cond (not b) (value_of pair_cmp (entries_in old) pair) None) (eq_itself exact_pairs pair)
      ∙ sym none))
      ∙ sym (without_keyed pair (entries_in old) (entries_keyed old)) where
        value : (q : Pair)
            → value_of pair_cmp (filter (λ e. not (eq_by_cmp pair_cmp pair e.0)) (entries_in old)) q
            ≡ cond (not (eq_by_cmp pair_cmp pair q)) (value_of pair_cmp (entries_in old) q) None
        value q = value_of-filter exact_pairs (λ (k : Pair). not (eq_by_cmp pair_cmp pair k)) (entries_in old) q

  -- it had none before
  module _ (before : entry_at old pair ≡ None) where
    none_more : entry_at new pair ≡ None → entries_in new ≡ entries_in old
    none_more none =
        same_entries (entries_in old) (entries_rise old old_order) (λ q other. refl)
        (entries_value old pair old_order ∙ before ∙ sym none)

    one_more : (e : Entry) → entry_at new pair ≡ Some e → entries_in new ≡ with_value pair_cmp pair e (entries_in old)
    one_more e some =
        same_entries (with_value pair_cmp pair e (entries_in old))
        (rises_with_value exact_pairs pair e (entries_in old) (entries_rise old old_order))
        (λ q other. value_of-with_value exact_pairs pair e (entries_in old) q
        ∙ ap (λ (b : Bool). cond b (Some e) (value_of pair_cmp (entries_in old) q)) other)
        (value_of-with_value exact_pairs pair e (entries_in old) pair
        ∙ ap (λ (b : Bool). cond b (Some e) (value_of pair_cmp (entries_in old) pair)) (eq_itself exact_pairs pair)
        ∙ sym some)

    pub relisted : member_catalogue new ≡ with_listed (entry_at new pair) (member_catalogue old)
    relisted = go (entry_at new pair) refl where
      go : (o : Option Entry) → entry_at new pair ≡ o → member_catalogue new ≡ with_listed o (member_catalogue old)
      go None p = ap (map (λ x. x.1)) (none_more p)
      go (Some e) p =
          let is = entry_is_of new pair e p in
          let absent : value_of pair_cmp (entries_in old) (publication_of e) ≡ None =
          ap (value_of pair_cmp (entries_in old)) is ∙ entries_value old pair old_order ∙ before in
          ap (map (λ x. x.1)) (one_more e p ∙ ap (λ (k : Pair). with_value pair_cmp k e (entries_in old)) (sym is))
          ∙ with_entry-map e (entries_in old) (entries_keyed old) absent
