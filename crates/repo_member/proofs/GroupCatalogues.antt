-- The catalogue of a member by itself is its group's catalogue of it.
use Rattle.std.proofs.Common.{◌≡◌, inl, inr, ℕ, suc, ◌+◌, ◌<◌, Bool, true, false, cond, not, ◌&&◌, ◌==◌, List, [], ◌∷◌}
use Rattle.std.proofs.Common.{◌++◌, map}
use Rattle.std.proofs.Common.{length, get_or, Option, Some, None, is_some, unwrap_or, refl, sym, ap, ◌∙◌, subst, arith}
use Rattle.std.specs.List.{flat_map, list_all, list_any, concat}
use Rattle.std.specs.Option.{option_and_then}
use Rattle.std.specs.Ordering.{eq_by_cmp}
use Rattle.std.specs.declared.cmp.Ordering.{Ordering}
use Rattle.std.proofs.lemmas.Bool.{true≢false, and_parts, and_from, or_cases, or_left, or_right, not-true, eq-eqb}
use Rattle.std.proofs.lemmas.Bool.{eqb-true}
use Rattle.std.specs.Cmp.{both_ways}
use Rattle.std.proofs.lemmas.Option.{same_Some}
use Rattle.sha2.specs.Sha256.{sha256}
use Rattle.repo_plan.specs.declared.part.Part.{Part}
use Rattle.sorted_lists.specs.SortedList.{keys, Rises, value_of}
use Rattle.sorted_lists.specs.Range.{numbers_from}
use Rattle.repo_plan.specs.Parts.{Pair, pair_cmp, part_cmp, part_of, parts_of, last_part, shape_of_segments}
use Rattle.repo_plan.specs.Parts.{index_packets}
use Rattle.sorted_lists.proofs.Orders.{Exact}
use Rattle.repo_plan.proofs.Orders.{exact_pairs}
use Rattle.sorted_lists.proofs.Sets.{In, in_map, from_map, in_filter, eq_same, eq_itself}
use Rattle.sorted_lists.proofs.Members.{in_filtered}
use Rattle.repo_plan.proofs.Known.{in_numbers, in_parts_of}
use Rattle.repo_plan.proofs.Whole.{each_all}
use Rattle.repo_object.specs.Objects.{NamedContents, Post, IsObject, IsPost, offered, shape_in, withdraws_number}
use Rattle.repo_object.specs.Objects.Post.{Offers, Withdraws}
use Rattle.repo_object.specs.Publication.{Listed, RecordSays, published_listing, published_record, packet_at}
use Rattle.repo_object.specs.Verdict.{stated_in}
use Rattle.repo_catalog.specs.declared.entry.Entry.{Entry}
use Rattle.repo_catalog.specs.Entries.{publication_of}
use Rattle.group_model.specs.Publications.{Logs, Publication, pair_in, parts_in, published, post_at, published_entry}
use Rattle.group_model.specs.Publications.{is_object, withdraws}
use Rattle.group_model.specs.Member.{Member, member_holds, holds_all, knows_withdrawn, is_listed, catalogued}
use Rattle.group_model.specs.Sound.{IsPublished}
use Rattle.group_model.proofs.Parts.{IsIn, in_published}
use Rattle.group_model.proofs.Among.{at_pair, is_published}
use Rattle.group_model.proofs.Catalogues.{lists_in_order}
use Rattle.repo_holdings.specs.Records.{records_in}
use Rattle.repo_holdings.specs.Listed.{stored_at, object_stated, withdrawn_by, listing_in, listing_at, is_that}
use Rattle.repo_holdings.specs.Listed.{is_withdrawn}
use Rattle.repo_object.specs.Packets.{packet_content}
use Rattle.repo_holdings.specs.Listed.{stored_content, contents_joined, are_stored, entry_of_listing}
use Rattle.repo_holdings.specs.Listed.{entry_listed, whole_at, entry_at, entries_in}
use Rattle.repo_holdings.specs.Listed.{withdraws as withdraws_record}
use Rattle.repo_member.specs.Groups.{GroupKeys, publisher_at}
use Rattle.repo_member.specs.MemberState.{MemberState}
use Rattle.repo_member.specs.InGroup.{in_group, AreLogs, StoresConsistently, ListsAlike}
use Rattle.repo_holdings.proofs.SortedMaps.{same_map}
use Rattle.repo_holdings.proofs.RecordLemmas.{rises_records, value_of-records}
use Rattle.repo_holdings.proofs.CatalogueLemmas.{entries_value, entries_rise}
use Rattle.repo_holdings.proofs.GainingLemmas.{contains-value}
use Rattle.repo_member.proofs.FoundLemmas.{value_in}
use Rattle.repo_member.proofs.ConsistentPackets.{is_there, record_says, segment_content, published_post, published_by}
use Rattle.repo_member.proofs.ConsistentPackets.{published_low}

-- ---- maps in order that have the same entries

in_value : {K V : Type 0} {R : K → K → Ordering} (e : Exact R) (es : List (K × V)) (k : K) (v : V)
    → value_of R es k ≡ Some v → In (k, v) es
in_value e [] k v h = absurd cc
in_value {K} {V} {R} e (x ∷ es) k v h = go (eq_by_cmp R k x.0) refl h (in_value e es k v) where
  go : (b : Bool) → eq_by_cmp R k x.0 ≡ b → cond b (Some x.1) (value_of R es k) ≡ Some v
      → (value_of R es k ≡ Some v → In (k, v) es) → In (k, v) (x ∷ es)
  go true p q later =
      let key : k ≡ x.0 = eq_same e k x.0 p in
      let value : v ≡ x.1 = cc in
      inl (λ i. (key i, value i))
  go false p q later = inr (later q)

same_entries : {K V : Type 0} {R : K → K → Ordering} (e : Exact R) (xs ys : List (K × V)) → Rises R (keys xs)
    → Rises R (keys ys)
    → ((k : K) (v : V) → value_of R xs k ≡ Some v → In (k, v) ys)
    → ((k : K) (v : V) → In (k, v) ys → value_of R xs k ≡ Some v) → xs ≡ ys
same_entries {K} {V} {R} e xs ys a b there back =
    same_map e xs ys a b (λ k. go k (value_of R xs k) refl (value_of R ys k) refl) where
      go : (k : K) (o : Option V) → value_of R xs k ≡ o → (p : Option V) → value_of R ys k ≡ p
          → value_of R xs k ≡ value_of R ys k
      go k (Some v) h p i = h ∙ sym (value_in e ys (k, v) b (there k v h))
      go k None h (Some w) i = back k w (in_value e ys k w i) ∙ sym i
      go k None h None i = h ∙ sym i

-- ---- the group's catalogue, each entry under its publication

abbrev keyed : Publication → Pair × Entry
keyed q = (pair_in q, published_entry q)

keys_keyed : (qs : List Publication) → keys (map keyed qs) ≡ map publication_of (map published_entry qs)
keys_keyed [] = refl
keys_keyed (q ∷ qs) = ap (λ (ps : List Pair). pair_in q ∷ ps) (keys_keyed qs)

values_keyed : (qs : List Publication) → map (λ (x : Pair × Entry). x.1) (map keyed qs) ≡ map published_entry qs
values_keyed [] = refl
values_keyed (q ∷ qs) = ap (λ (es : List Entry). published_entry q ∷ es) (values_keyed qs)

-- ---- contents

joined : (f : ℕ → List ℕ) (first : ℕ) (contents : List (List ℕ))
    → ((k : ℕ) → k < length contents → f (first + k) ≡ get_or contents k [])
    → flat_map f (numbers_from first (length contents)) ≡ concat contents
joined f first [] each = refl
joined f first (content ∷ contents) each =
    let here : f first ≡ content = let e : first ≡ first + 0 = omega arith in ap f e ∙ each 0 (omega arith) in
    let later : flat_map f (numbers_from (first + 1) (length contents)) ≡ concat contents =
    joined f (first + 1) contents (λ k inside.
    let e : (first + 1) + k ≡ first + suc k = omega arith in ap f e ∙ each (suc k) (omega (arith, inside))) in
    ap (λ (octets : List ℕ). octets ++ flat_map f (numbers_from (first + 1) (length contents))) here
    ∙ ap (λ (rest : List ℕ). content ++ rest) later

-- ---- tests of lists

any_in : {A : Type 0} (p : A → Bool) (xs : List A) → list_any p xs ≡ true → (x : A) × In x xs × (p x ≡ true)
any_in p [] h = absurd (true≢false (sym h))
any_in p (x ∷ xs) h = elim (or_cases (p x) (list_any p xs) h) [
  | inl here ↦ (x, inl refl, here)
  | inr later ↦ let found = any_in p xs later in (found.0, inr found.1, found.2)
]

in_any : {A : Type 0} (p : A → Bool) (xs : List A) (x : A) → In x xs → p x ≡ true → list_any p xs ≡ true
in_any p [] x i h = absurd i
in_any p (y ∷ xs) x (inl same) h = or_left (p y) (list_any p xs) (ap p (sym same) ∙ h)
in_any p (y ∷ xs) x (inr i) h = or_right (p y) (list_any p xs) (in_any p xs x i h)

none_entry : (e : Entry) → (let o : Option Entry = None in o) ≡ Some e → ⊥
none_entry e h = cc

-- ---- what is stored of a publication

module _ (g : GroupKeys) (logs : Logs) (a : MemberState) (are : AreLogs g logs)
    (consistent : StoresConsistently g logs a) where
  abbrev m : Member
  m = in_group a

  held_of : (t : Part) → member_holds m t ≡ is_some (value_of part_cmp a.store t)
  held_of t = contains-value a.store t

  published_of : (pair : Pair) (x : ℕ) → is_some (stored_at a.store pair x) ≡ true → IsPublished logs pair
  published_of pair x h = consistent.published (part_of pair x) (held_of (part_of pair x) ∙ h)

  -- a stored record says what was published
  says : (pair : Pair) (octets : List ℕ) → stored_at a.store pair 0 ≡ Some octets
      → stated_in octets ≡ Some (published_record (publisher_at g pair.0) pair.1 (post_at logs pair))
  says pair octets h =
      let there = published_of pair 0 (ap is_some h) in
      record_says (publisher_at g pair.0) pair.1 (post_at logs pair) (published_by g logs are pair there)
      (published_post g logs are pair there) (published_low g logs are pair there) octets
      (consistent.packets (part_of pair 0) octets h)

  -- ---- withdrawals

  that_number : (pair q : Pair) (post : Post)
      → is_that pair (withdrawn_by q (published_record (publisher_at g q.0) q.1 post)) ≡ true
      → (q.0 == pair.0 && withdraws_number post pair.1) ≡ true
  that_number pair q (Offers object) h = absurd (true≢false (sym h))
  that_number pair q (Withdraws seq) h =
      let same : pair ≡ (q.0, seq) = eq_same exact_pairs pair (q.0, seq) h in
      and_from (q.0 == pair.0) (seq == pair.1) (eq-eqb q.0 pair.0 (sym (ap (λ (k : Pair). k.0) same)))
      (eq-eqb seq pair.1 (sym (ap (λ (k : Pair). k.1) same)))

  number_that : (pair q : Pair) (post : Post) → (q.0 == pair.0 && withdraws_number post pair.1) ≡ true
      → is_that pair (withdrawn_by q (published_record (publisher_at g q.0) q.1 post)) ≡ true
  number_that pair q (Offers object) h =
      absurd (true≢false (sym (and_parts (q.0 == pair.0) false h).1))
  number_that pair q (Withdraws seq) h =
      let both = and_parts (q.0 == pair.0) (seq == pair.1) h in
      let same : (q.0, seq) ≡ pair = λ i. (eqb-true q.0 pair.0 both.0 i, eqb-true seq pair.1 both.1 i) in
      ap (eq_by_cmp pair_cmp pair) same ∙ eq_itself exact_pairs pair

  withdrawn_there : (pair : Pair) → is_withdrawn a.store pair ≡ true → knows_withdrawn (published logs) m pair ≡ true
  withdrawn_there pair h =
      let found = any_in (withdraws_record pair) (records_in a.store) h in
      let q : Pair = found.0.0 in
      let stored : stored_at a.store q 0 ≡ Some found.0.1 =
      sym (value_of-records a.store q)
      ∙ value_in exact_pairs (records_in a.store) found.0 (rises_records a.store consistent.in_order) found.1 in
      let there = published_of q 0 (ap is_some stored) in
      in_any (λ (p : Publication). withdraws pair p && member_holds m (part_of (pair_in p) 0)) (published logs)
      (at_pair logs q) (is_published logs q there)
      (and_from (withdraws pair (at_pair logs q)) (member_holds m (part_of q 0))
      (that_number pair q (post_at logs q)
      (sym (ap (λ (o : Option RecordSays). is_that pair (option_and_then (withdrawn_by q) o)) (says q found.0.1 stored))
      ∙ found.2))
      (held_of (part_of q 0) ∙ ap is_some stored))

  withdrawn_back : (pair : Pair) → knows_withdrawn (published logs) m pair ≡ true → is_withdrawn a.store pair ≡ true
  withdrawn_back pair h =
      let found =
      any_in (λ (p : Publication). withdraws pair p && member_holds m (part_of (pair_in p) 0)) (published logs) h in
      let q : Pair = pair_in found.0 in
      let both = and_parts (withdraws pair found.0) (member_holds m (part_of q 0)) found.2 in
      let record_there = is_there (stored_at a.store q 0) (sym (held_of (part_of q 0)) ∙ both.1) in
      let is : IsIn logs found.0 = in_published logs found.0 found.1 in
      let number : (q.0 == pair.0 && withdraws_number (post_at logs q) pair.1) ≡ true =
      ap (λ (post : Post). q.0 == pair.0 && withdraws_number post pair.1) (sym is.post) ∙ both.0 in
      in_any (withdraws_record pair) (records_in a.store) (q, record_there.0)
      (in_value exact_pairs (records_in a.store) q record_there.0 (value_of-records a.store q ∙ record_there.1))
      (ap (λ (o : Option RecordSays). is_that pair (option_and_then (withdrawn_by q) o))
      (says q record_there.0 record_there.1)
      ∙ number_that pair q (post_at logs q) number)

  withdrawn_alike : (pair : Pair) → is_withdrawn a.store pair ≡ knows_withdrawn (published logs) m pair
  withdrawn_alike pair =
      both_ways (is_withdrawn a.store pair) (knows_withdrawn (published logs) m pair) (withdrawn_there pair)
      (withdrawn_back pair)

  -- ---- objects

  all_held : (pair : Pair) (xs : List ℕ)
      → list_all (member_holds m) (map (part_of pair) xs) ≡ list_all (λ x. is_some (stored_at a.store pair x)) xs
  all_held pair [] = refl
  all_held pair (x ∷ xs) = rw (held_of (part_of pair x), all_held pair xs) refl

  module _ (pair : Pair) (there : IsPublished logs pair) (object : NamedContents)
      (is : post_at logs pair ≡ Offers object) (octets : List ℕ) (stored : stored_at a.store pair 0 ≡ Some octets) where
    abbrev lists : Listed
    lists = published_listing (publisher_at g pair.0) pair.1 object

    abbrev after : ℕ
    after = last_part (shape_of_segments (length object.contents))

    is_object_there : IsObject object
    is_object_there = subst (IsPost pair.1) is (published_post g logs are pair there)

    listed : listing_at a.store pair ≡ Some lists
    listed =
        ap (option_and_then listing_in) stored
        ∙ ap (option_and_then object_stated) (says pair octets stored)
        ∙ ap (λ (post : Post). object_stated (published_record (publisher_at g pair.0) pair.1 post)) is

    parts_are : parts_in (at_pair logs pair) ≡ map (part_of pair) (0 ∷ numbers_from 1 after)
    parts_are =
        ap (λ (post : Post). parts_of pair (last_part (shape_in post))) is
        ∙ (let more : after + 1 ≡ suc after = omega arith in
        ap (λ (n : ℕ). map (part_of pair) (numbers_from 0 n)) more)

    whole_stored : holds_all m (at_pair logs pair) ≡ are_stored a.store pair after
    whole_stored =
        ap (list_all (member_holds m)) parts_are
        ∙ all_held pair (0 ∷ numbers_from 1 after)
        ∙ ap (λ (o : Option (List ℕ)). is_some o && are_stored a.store pair after) stored

    content_stored : holds_all m (at_pair logs pair) ≡ true → (k : ℕ) → k < length object.contents
        → stored_content a.store pair (index_packets (length object.contents) + 1 + k) ≡ get_or object.contents k []
    content_stored whole k inside =
        let x : ℕ = index_packets (length object.contents) + 1 + k in
        let next : x ≡ index_packets (length object.contents) + k + 1 = omega arith in
        let held : is_some (stored_at a.store pair x) ≡ true =
        each_all (λ y. is_some (stored_at a.store pair y)) (numbers_from 1 after) (sym whole_stored ∙ whole) x
        (in_numbers 1 after x (omega arith) (omega (arith, inside))) in
        let found = is_there (stored_at a.store pair x) held in
        ap (λ (o : Option (List ℕ)). packet_content (unwrap_or o [])) found.1
        ∙ segment_content (publisher_at g pair.0) pair.1 object k found.0 (published_by g logs are pair there)
        is_object_there
        (ap (packet_at (publisher_at g pair.0) pair.1 (Offers object)) (sym next)
        ∙ ap (λ (post : Post). packet_at (publisher_at g pair.0) pair.1 post x) (sym is)
        ∙ consistent.packets (part_of pair x) found.0 found.1)

    same_entry : holds_all m (at_pair logs pair) ≡ true
        → entry_of_listing a.store pair lists ≡ published_entry (at_pair logs pair)
    same_entry whole =
        let contents : contents_joined a.store pair (shape_of_segments (length object.contents))
        ≡ concat object.contents =
        joined (stored_content a.store pair) (index_packets (length object.contents) + 1) object.contents
        (content_stored whole) in
        let made : List ℕ → Entry = λ all. record {
          publisher = pair.0;
          seq = pair.1;
          name = object.name;
          segments = length object.contents;
          octets = length all;
          digest = sha256 all;
        } in
        ap made contents
        ∙ ap (λ (post : Post). let q : Publication = record { publisher = pair.0; seq = pair.1; post = post } in
        published_entry q) (sym is)

    -- the entry of an object whose record is stored
    entry_is : entry_at a.store pair
        ≡ cond (knows_withdrawn (published logs) m pair) None
        (cond (holds_all m (at_pair logs pair)) (Some (entry_of_listing a.store pair lists)) None)
    entry_is =
        ap (λ (b : Bool). cond b None (whole_at a.store pair)) (withdrawn_alike pair)
        ∙ ap (λ (o : Option Entry). cond (knows_withdrawn (published logs) m pair) None o)
        (ap (option_and_then (entry_listed a.store pair)) listed
        ∙ ap (λ (b : Bool). cond b (Some (entry_of_listing a.store pair lists)) None) (sym whole_stored))

    object_is : is_object (at_pair logs pair) ≡ true
    object_is = ap (λ (post : Post). is_some (offered post)) is

    listed_is : is_listed (published logs) m (at_pair logs pair)
        ≡ (holds_all m (at_pair logs pair) && not (knows_withdrawn (published logs) m pair))
    listed_is = ap (λ (b : Bool). b && (holds_all m (at_pair logs pair)
        && not (knows_withdrawn (published logs) m pair))) object_is

    listed_entry : is_listed (published logs) m (at_pair logs pair) ≡ true
        → entry_at a.store pair ≡ Some (published_entry (at_pair logs pair))
    listed_entry h =
        let both =
        and_parts (holds_all m (at_pair logs pair)) (not (knows_withdrawn (published logs) m pair))
        (sym listed_is ∙ h) in
        entry_is
        ∙ ap (λ (b : Bool). cond b None
        (cond (holds_all m (at_pair logs pair)) (Some (entry_of_listing a.store pair lists)) None))
        (not-true (knows_withdrawn (published logs) m pair) both.1)
        ∙ ap (λ (b : Bool). cond b (Some (entry_of_listing a.store pair lists)) None) both.0
        ∙ ap (λ (e : Entry). Some e) (same_entry both.0)

    entry_listed_there : (e : Entry) → entry_at a.store pair ≡ Some e
        → is_listed (published logs) m (at_pair logs pair) ≡ true
    entry_listed_there e h =
        listed_is
        ∙ go (knows_withdrawn (published logs) m pair) (holds_all m (at_pair logs pair)) (sym entry_is ∙ h) where
          go : (b c : Bool) → cond b None (cond c (Some (entry_of_listing a.store pair lists)) None) ≡ Some e
              → (c && not b) ≡ true
          go true c q = absurd (none_entry e q)
          go false true q = refl
          go false false q = absurd (none_entry e q)

  -- ---- all entries

  no_object_stated : (pair : Pair) (seq : ℕ) (octets : List ℕ) → stored_at a.store pair 0 ≡ Some octets
      → post_at logs pair ≡ Withdraws seq → entry_at a.store pair ≡ None
  no_object_stated pair seq octets stored is =
      ap (λ (o : Option Entry). cond (is_withdrawn a.store pair) None o)
      (ap (option_and_then (entry_listed a.store pair))
      (ap (option_and_then listing_in) stored
      ∙ ap (option_and_then object_stated) (says pair octets stored)
      ∙ ap (λ (post : Post). object_stated (published_record (publisher_at g pair.0) pair.1 post)) is))
      ∙ none_either (is_withdrawn a.store pair) where
        none_either : (b : Bool) → let n : Option Entry = None in cond b n n ≡ n
        none_either true = refl
        none_either false = refl

  no_record : (pair : Pair) → stored_at a.store pair 0 ≡ None → entry_at a.store pair ≡ None
  no_record pair none =
      ap (λ (o : Option (List ℕ)). cond (is_withdrawn a.store pair) None
      (option_and_then (entry_listed a.store pair) (option_and_then listing_in o))) none
      ∙ none_either (is_withdrawn a.store pair) where
        none_either : (b : Bool) → let n : Option Entry = None in cond b n n ≡ n
        none_either true = refl
        none_either false = refl

  entry_there : (pair : Pair) (e : Entry) → entry_at a.store pair ≡ Some e
      → IsPublished logs pair × (is_listed (published logs) m (at_pair logs pair) ≡ true)
      × (entry_at a.store pair ≡ Some (published_entry (at_pair logs pair)))
  entry_there pair e h = go (stored_at a.store pair 0) refl where
    of_post : (octets : List ℕ) → stored_at a.store pair 0 ≡ Some octets → (post : Post) → post_at logs pair ≡ post
        → IsPublished logs pair × (is_listed (published logs) m (at_pair logs pair) ≡ true)
        × (entry_at a.store pair ≡ Some (published_entry (at_pair logs pair)))
    of_post octets p (Withdraws seq) is = absurd (none_entry e (sym (no_object_stated pair seq octets p is) ∙ h))
    of_post octets p (Offers object) is =
        let there = published_of pair 0 (ap is_some p) in
        let listed_so = entry_listed_there pair there object is octets p e h in
        (there, listed_so, listed_entry pair there object is octets p listed_so)

    go : (o : Option (List ℕ)) → stored_at a.store pair 0 ≡ o
        → IsPublished logs pair × (is_listed (published logs) m (at_pair logs pair) ≡ true)
        × (entry_at a.store pair ≡ Some (published_entry (at_pair logs pair)))
    go None p = absurd (none_entry e (sym (no_record pair p) ∙ h))
    go (Some octets) p = of_post octets p (post_at logs pair) refl

  there_too : (pair : Pair) (e : Entry) → value_of pair_cmp (entries_in a.store) pair ≡ Some e
      → In (pair, e) (map keyed (catalogued logs m))
  there_too pair e h =
      let entry : entry_at a.store pair ≡ Some e = sym (entries_value a.store pair consistent.in_order) ∙ h in
      let all = entry_there pair e entry in
      let same : published_entry (at_pair logs pair) ≡ e =
      same_Some (published_entry (at_pair logs pair)) e (sym all.2 ∙ entry) in
      subst (λ (x : Entry). In (pair, x) (map keyed (catalogued logs m))) same
      (in_map keyed (catalogued logs m) (at_pair logs pair)
      (in_filter (is_listed (published logs) m) (published logs) (at_pair logs pair)
      (is_published logs pair all.0) all.1))

  -- what is listed has its record stored
  listed_has : (pair : Pair) → IsPublished logs pair → is_listed (published logs) m (at_pair logs pair) ≡ true
      → entry_at a.store pair ≡ Some (published_entry (at_pair logs pair))
  listed_has pair there h = of_post (post_at logs pair) refl where
    object_there : is_object (at_pair logs pair) ≡ true
    object_there =
        (and_parts (is_object (at_pair logs pair))
        (holds_all m (at_pair logs pair) && not (knows_withdrawn (published logs) m pair)) h).0

    whole : holds_all m (at_pair logs pair) ≡ true
    whole =
        (and_parts (holds_all m (at_pair logs pair)) (not (knows_withdrawn (published logs) m pair))
        (and_parts (is_object (at_pair logs pair))
        (holds_all m (at_pair logs pair) && not (knows_withdrawn (published logs) m pair)) h).1).0

    record_there : is_some (stored_at a.store pair 0) ≡ true
    record_there =
        sym (held_of (part_of pair 0))
        ∙ each_all (member_holds m) (parts_in (at_pair logs pair)) whole (part_of pair 0)
        (in_parts_of (last_part (shape_in (post_at logs pair))) (part_of pair 0) (omega arith))

    of_post : (post : Post) → post_at logs pair ≡ post
        → entry_at a.store pair ≡ Some (published_entry (at_pair logs pair))
    of_post (Withdraws seq) is =
        absurd (true≢false (sym object_there ∙ ap (λ (post : Post). is_some (offered post)) is))
    of_post (Offers object) is =
        let found = is_there (stored_at a.store pair 0) record_there in
        listed_entry pair there object is found.0 found.1 h

  here_too : (pair : Pair) (e : Entry) → In (pair, e) (map keyed (catalogued logs m))
      → value_of pair_cmp (entries_in a.store) pair ≡ Some e
  here_too pair e i =
      let from : (q : Publication) × (In q (catalogued logs m)) × ((pair, e) ≡ keyed q) =
      from_map keyed (catalogued logs m) (pair, e) i in
      let q : Publication = from.0 in
      let passes : In q (published logs) × (is_listed (published logs) m q ≡ true) =
      in_filtered (is_listed (published logs) m) (published logs) q from.1 in
      let is : IsIn logs q = in_published logs q passes.0 in
      let post_same = is.post in
      let same : q ≡ at_pair logs (pair_in q) =
      λ k. record { publisher = q.publisher; seq = q.seq; post = post_same k } in
      let entry =
      listed_has (pair_in q) is.there
      (subst (λ (x : Publication). is_listed (published logs) m x ≡ true) same passes.1) in
      let both : (pair, e) ≡ keyed q = from.2 in
      let key : pair ≡ pair_in q = ap (λ (x : Pair × Entry). x.0) both in
      let value : e ≡ published_entry q = ap (λ (x : Pair × Entry). x.1) both in
      entries_value a.store pair consistent.in_order
      ∙ ap (entry_at a.store) key
      ∙ entry
      ∙ ap (λ (x : Publication). Some (published_entry x)) (sym same)
      ∙ ap (λ (x : Entry). Some x) (sym value)

  entries_alike : entries_in a.store ≡ map keyed (catalogued logs m)
  entries_alike =
      same_entries exact_pairs (entries_in a.store) (map keyed (catalogued logs m))
      (entries_rise a.store consistent.in_order)
      (subst (Rises pair_cmp) (sym (keys_keyed (catalogued logs m))) (lists_in_order logs m))
      there_too here_too

pub lists_alike : ListsAlike
lists_alike g logs a are consistent =
    ap (map (λ (x : Pair × Entry). x.1)) (entries_alike g logs a are consistent)
    ∙ values_keyed (catalogued logs (in_group a))
