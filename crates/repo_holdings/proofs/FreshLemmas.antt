-- Entries that wait to be put among the others or to be removed, and digests that are reported before an entry is made.
use Rattle.std.proofs.Common.{◌≡◌, ℕ, ◌+◌, ◌≤◌, Bool, true, false, cond, not, ◌&&◌, ◌||◌, List, [], ◌∷◌, ◌++◌, length}
use Rattle.std.proofs.Common.{refl, length-append, vec_capacity}
use Rattle.std.proofs.Common.{sym, ap, ◌∙◌, subst, Option, Some, None, is_some, unwrap_or, zero, suc, arith}
use Rattle.std.specs.Prelude.{IfSome, filter}
use Rattle.std.specs.List.{All, flat_map, list_all}
use Rattle.std.specs.Option.{option_and_then, option_or}
use Rattle.std.specs.Ordering.{eq_by_cmp}
use Rattle.std.proofs.lemmas.Bool.{true≢false, and_parts, and_from, or_left, or_right, or_parts}
use Rattle.std.proofs.lemmas.List.{append-nil}
use Rattle.std.proofs.lemmas.List.Elements.{All-weaker, filter-append}
use Rattle.sha2.specs.Sha256.{sha256}
use Rattle.sorted_lists.specs.SortedList.{keys, Rises, contains, value_of, with_value}
use Rattle.sorted_lists.specs.Range.{numbers_from}
use Rattle.sorted_lists.proofs.Sets.{eq_same, eq_itself, value_of-with_value, contains_append}
use Rattle.repo_plan.specs.declared.part.Part.{Part}
use Rattle.repo_plan.specs.declared.shape.Shape.{Shape}
use Rattle.repo_plan.specs.Parts.{Pair, pair_cmp, part_cmp, pair_of, part_of, last_part}
use Rattle.repo_plan.proofs.Orders.{exact_pairs, exact_parts}
use Rattle.repo_object.specs.Publication.{Listed}
use Rattle.repo_store.specs.StoreList.{with_packet}
use Rattle.repo_catalog.specs.declared.entry.Entry.{Entry}
use Rattle.repo_catalog.specs.Entries.{publication_of, is_of, entry_of, with_entry, with_entries, without, without_all}
use Rattle.repo_catalog.specs.Entries.{IsCatalogue}
use Rattle.repo_catalog.proofs.EntryLemmas.{with_entry_rises}
use Rattle.repo_catalog.proofs.LawLemmas.{adds_one, removes_one, entries_tell_all}
use Rattle.repo_catalog.proofs.ManyLemmas.{adds_all, apart_more, with_entries_rises, removes_all, without_all_rises}
use Rattle.repo_object.specs.Packets.{packet_content}
use Rattle.repo_holdings.specs.declared.changes.Change.{Change}
use Rattle.repo_holdings.specs.declared.changes.Change.TheVariants.{Nothing, Lists, Removes}
use Rattle.repo_holdings.specs.declared.record_summary.RecordSummary.{RecordSummary}
use Rattle.repo_holdings.specs.declared.record_summary.RecordSummary.TheVariants.{Object, Withdrawal}
use Rattle.repo_holdings.specs.Records.{Packet}
use Rattle.repo_holdings.specs.Listed.{stored_at, listing_in, listed_shape, stored_content, are_stored}
use Rattle.repo_holdings.specs.Listed.{entry_of_listing, entry_listed, whole_at, is_withdrawn, entry_at}
use Rattle.repo_holdings.specs.Listed.{member_catalogue}
use Rattle.repo_holdings.specs.declared.contents.ContentsDigest.{ContentsDigest}
use Rattle.repo_holdings.specs.Contents.{IsDigestOfEntry, IsDigestIn}
use Rattle.repo_holdings.specs.declared.holdings.pending.Pending.{Pending}
use Rattle.repo_holdings.specs.declared.holdings.stock.Stock.{Stock}
use Rattle.repo_holdings.specs.Noted.{NotesState}
use Rattle.repo_holdings.specs.Gaining.{IsArrival, IsMissing}
use Rattle.repo_holdings.specs.Stock.{IsSound}
use Rattle.repo_holdings.specs.Changing.{changed, change_by, lists_entry, withdraws_too, fresh_with, gone_with}
use Rattle.repo_holdings.specs.Taking.{Fetched, with_fetched, with_all_fetched, AreApartPairs, AreListedWith, IsChange}
use Rattle.repo_holdings.specs.Taking.{HaveWaited}
use Rattle.repo_holdings.proofs.CatalogueLemmas.{entry_of_alone, entry_is_of, entry_of_none, entry_not_withdrawn}
use Rattle.repo_holdings.proofs.CatalogueLemmas.{none_is_some, alone_in_order}
use Rattle.repo_holdings.proofs.GainingLemmas.{contains-value}
use Rattle.repo_holdings.proofs.StepLemmas.{rises_now, before_now, withdrawn_now, changed_now}

-- ---- entries that wait

with_entries-push : (fs : List Entry) (e : Entry) (es : List Entry)
    → with_entries (fs ++ e ∷ []) es ≡ with_entry e (with_entries fs es)
with_entries-push [] e es = refl
with_entries-push (f ∷ fs) e es = with_entries-push fs e (with_entry f es)

second_none : (a b : Option Entry) → option_or a b ≡ None → b ≡ None
second_none None b h = h
second_none (Some x) b h = absurd (none_is_some x (sym h))

-- a publication that is not removed and has no entry, has none that waits
module _ (fresh entries : List Entry) (gone : List Pair) (packets : List Packet) (pair : Pair)
    (is : AreListedWith fresh gone entries packets) (r : Rises part_cmp (keys packets))
    (stays : contains pair_cmp gone pair ≡ false) where
  waiting : entry_of pair (with_entries fresh entries) ≡ entry_at packets pair
  waiting =
      sym (ap (λ (b : Bool). cond b None (entry_of pair (with_entries fresh entries))) stays)
      ∙ sym (removes_all gone (with_entries fresh entries) pair)
      ∙ ap (entry_of pair) is.listed
      ∙ entry_of_alone packets pair r

  none_waits : entry_at packets pair ≡ None → entry_of pair fresh ≡ None
  none_waits none =
      second_none (entry_of pair entries) (entry_of pair fresh)
      (sym (adds_all fresh entries pair is.in_order) ∙ waiting ∙ none)

-- one more entry
listed_more : (fresh entries : List Entry) (gone : List Pair) (packets after : List Packet) (e : Entry)
    → AreListedWith fresh gone entries packets → Rises part_cmp (keys packets) → Rises part_cmp (keys after)
    → contains pair_cmp gone (publication_of e) ≡ false
    → ((q : Pair) → contains pair_cmp gone q ≡ true → is_withdrawn after q ≡ true)
    → entry_at packets (publication_of e) ≡ None → member_catalogue after ≡ with_entry e (member_catalogue packets)
    → AreListedWith (fresh ++ e ∷ []) gone entries after
listed_more fresh entries gone packets after e is r later stays withdrawn none more = record {
  listed =
      ap (without_all gone) (with_entries-push fresh e entries)
      ∙ entries_tell_all (without_all gone (with_entry e whole)) (member_catalogue after)
      (without_all_rises gone (with_entry e whole) (with_entry_rises e whole order)) (alone_in_order after later)
      each;
  withdrawn = withdrawn;
  apart =
      apart_more fresh e is.apart
      (ap is_some (none_waits fresh entries gone packets (publication_of e) is r stays none));
  apart_gone = is.apart_gone;
  in_order = is.in_order;
} where
  whole : List Entry
  whole = with_entries fresh entries

  order : IsCatalogue whole
  order = with_entries_rises fresh entries is.in_order

  each : (k : Pair) → entry_of k (without_all gone (with_entry e whole)) ≡ entry_of k (member_catalogue after)
  each k =
      removes_all gone (with_entry e whole) k
      ∙ ap (cond (contains pair_cmp gone k) None) (adds_one e whole k order)
      ∙ go (is_of k e) refl (contains pair_cmp gone k) refl
      ∙ ap (λ (o : Option Entry). cond (is_of k e && not (is_some o)) (Some e) o)
      (sym (removes_all gone whole k) ∙ ap (entry_of k) is.listed)
      ∙ sym (adds_one e (member_catalogue packets) k (alone_in_order packets r))
      ∙ ap (entry_of k) (sym more) where
        go : (b : Bool) → is_of k e ≡ b → (c : Bool) → contains pair_cmp gone k ≡ c
            → cond c None (cond (b && not (is_some (entry_of k whole))) (Some e) (entry_of k whole))
            ≡ cond (b && not (is_some (cond c None (entry_of k whole)))) (Some e) (cond c None (entry_of k whole))
        go true p true g =
            absurd (true≢false (sym g
            ∙ ap (contains pair_cmp gone) (eq_same exact_pairs k (publication_of e) p)
            ∙ stays))
        go true p false g = refl
        go false p true g = refl
        go false p false g = refl

-- no publication twice, with one more that is not among them
apart_pairs_more : (gone : List Pair) (w : Pair) → AreApartPairs gone → contains pair_cmp gone w ≡ false
    → AreApartPairs (gone ++ w ∷ [])
apart_pairs_more gone w apart absent = λ k.
    go k (filter-append (eq_by_cmp pair_cmp k) gone (w ∷ [])) (eq_by_cmp pair_cmp k w) refl where
      none_of : (k : Pair) (xs : List Pair) → contains pair_cmp xs k ≡ false → filter (eq_by_cmp pair_cmp k) xs ≡ []
      none_of k [] h = refl
      none_of k (x ∷ xs) h =
          let both = or_parts (eq_by_cmp pair_cmp k x) (contains pair_cmp xs k) h in
          ap (λ (b : Bool). cond b (x ∷ filter (eq_by_cmp pair_cmp k) xs) (filter (eq_by_cmp pair_cmp k) xs)) both.0
          ∙ none_of k xs both.1

      go : (k : Pair)
          → filter (eq_by_cmp pair_cmp k) (gone ++ w ∷ [])
          ≡ filter (eq_by_cmp pair_cmp k) gone ++ filter (eq_by_cmp pair_cmp k) (w ∷ [])
          → (b : Bool) → eq_by_cmp pair_cmp k w ≡ b → length (filter (eq_by_cmp pair_cmp k) (gone ++ w ∷ [])) ≤ 1
      go k split true h =
          let one : filter (eq_by_cmp pair_cmp k) (w ∷ []) ≡ w ∷ [] = ap (λ (b : Bool). cond b (w ∷ []) []) h in
          let none : filter (eq_by_cmp pair_cmp k) gone ≡ [] =
          none_of k gone (ap (contains pair_cmp gone) (eq_same exact_pairs k w h) ∙ absent) in
          let all : filter (eq_by_cmp pair_cmp k) (gone ++ w ∷ []) ≡ w ∷ [] =
          split ∙ ap (λ (ys : List Pair). ys ++ filter (eq_by_cmp pair_cmp k) (w ∷ [])) none ∙ one in
          rw all (omega arith)
      go k split false h =
          let one : filter (eq_by_cmp pair_cmp k) (w ∷ []) ≡ [] = ap (λ (b : Bool). cond b (w ∷ []) []) h in
          let all : filter (eq_by_cmp pair_cmp k) (gone ++ w ∷ []) ≡ filter (eq_by_cmp pair_cmp k) gone =
          split ∙ ap (λ (ys : List Pair). filter (eq_by_cmp pair_cmp k) gone ++ ys) one
          ∙ append-nil (filter (eq_by_cmp pair_cmp k) gone) in
          rw all (apart k)

-- one entry less
listed_less : (fresh entries : List Entry) (gone : List Pair) (packets after : List Packet) (w : Pair)
    → AreListedWith fresh gone entries packets → Rises part_cmp (keys packets) → Rises part_cmp (keys after)
    → contains pair_cmp gone w ≡ false → is_withdrawn after w ≡ true
    → ((q : Pair) → contains pair_cmp gone q ≡ true → is_withdrawn after q ≡ true)
    → member_catalogue after ≡ without w (member_catalogue packets)
    → AreListedWith fresh (gone ++ w ∷ []) entries after
listed_less fresh entries gone packets after w is r later absent now withdrawn less = record {
  listed =
      entries_tell_all (without_all (gone ++ w ∷ []) whole) (member_catalogue after)
      (without_all_rises (gone ++ w ∷ []) whole (with_entries_rises fresh entries is.in_order))
      (alone_in_order after later) each;
  withdrawn = λ q h. among q (sym (contains_append pair_cmp gone (w ∷ []) q) ∙ h);
  apart = is.apart;
  apart_gone = apart_pairs_more gone w is.apart_gone absent;
  in_order = is.in_order;
} where
  whole : List Entry
  whole = with_entries fresh entries

  among : (q : Pair) → (contains pair_cmp gone q || contains pair_cmp (w ∷ []) q) ≡ true → is_withdrawn after q ≡ true
  among q h = go (contains pair_cmp gone q) refl (eq_by_cmp pair_cmp q w) refl h where
    go : (b : Bool) → contains pair_cmp gone q ≡ b → (c : Bool) → eq_by_cmp pair_cmp q w ≡ c
        → (b || (c || false)) ≡ true → is_withdrawn after q ≡ true
    go true p c e h = withdrawn q p
    go false p true e h = ap (is_withdrawn after) (eq_same exact_pairs q w e) ∙ now
    go false p false e h = absurd (true≢false (sym h))

  each : (k : Pair) → entry_of k (without_all (gone ++ w ∷ []) whole) ≡ entry_of k (member_catalogue after)
  each k =
      removes_all (gone ++ w ∷ []) whole k
      ∙ ap (λ (b : Bool). cond b None (entry_of k whole)) (contains_append pair_cmp gone (w ∷ []) k)
      ∙ go (contains pair_cmp gone k) (eq_by_cmp pair_cmp k w)
      ∙ ap (cond (eq_by_cmp pair_cmp k w) None) (sym (removes_all gone whole k) ∙ ap (entry_of k) is.listed)
      ∙ sym (removes_one w (member_catalogue packets) k)
      ∙ ap (entry_of k) (sym less) where
        go : (b c : Bool)
            → cond (b || (c || false)) None (entry_of k whole) ≡ cond c None (cond b None (entry_of k whole))
        go true true = refl
        go true false = refl
        go false true = refl
        go false false = refl

-- the change that a publication's packets make, which had no entry
module _ (packets after : List Packet) (pair : Pair) (notes : NotesState) (summary : Option RecordSummary)
    (change : Change)
    (fresh entries : List Entry) (gone : List Pair) (r : Rises part_cmp (keys packets))
    (later : Rises part_cmp (keys after)) (before : whole_at packets pair ≡ None)
    (noted : (q : Pair) → contains pair_cmp notes.withdrawn q ≡ is_withdrawn packets q)
    (now : (q : Pair) → (withdraws_too pair summary q || contains pair_cmp notes.withdrawn q) ≡ is_withdrawn after q)
    (made : change ≡ change_by notes.withdrawn pair summary (entry_at after pair))
    (listed : member_catalogue after ≡ changed change (member_catalogue packets))
    (is : AreListedWith fresh gone entries packets) where
  -- what is withdrawn stays so
  withdrawn_still : (q : Pair) → contains pair_cmp gone q ≡ true → is_withdrawn after q ≡ true
  withdrawn_still q h =
      sym (now q) ∙ or_right (withdraws_too pair summary q) _ (noted q ∙ is.withdrawn q h)

  -- what is removed was not withdrawn before, and is now
  removed_now : (publisher seq : ℕ) → change ≡ Removes publisher seq
      → (contains pair_cmp notes.withdrawn (publisher, seq) ≡ false)
      × (withdraws_too pair summary (publisher, seq) ≡ true)
  removed_now publisher seq h = go summary (sym made ∙ h) where
    none_listed : (o : Option Entry) → lists_entry o ≡ Removes publisher seq → ⊥
    none_listed None h = cc
    none_listed (Some e) h = cc

    at : (n : ℕ) (b : Bool) → contains pair_cmp notes.withdrawn (pair.0, n) ≡ b
        → cond b Nothing (Removes pair.0 n) ≡ Removes publisher seq
        → (contains pair_cmp notes.withdrawn (publisher, seq) ≡ false)
        × (eq_by_cmp pair_cmp (publisher, seq) (pair.0, n) ≡ true)
    at n true p h = absurd cc
    at n false p h =
        let first : pair.0 ≡ publisher = cc in
        let second : n ≡ seq = cc in
        let same : (pair.0, n) ≡ (publisher, seq) = λ i. (first i, second i) in (
          ap (contains pair_cmp notes.withdrawn) (sym same) ∙ p,
          ap (eq_by_cmp pair_cmp (publisher, seq)) same ∙ eq_itself exact_pairs (publisher, seq),
        )

    go : (o : Option RecordSummary) → change_by notes.withdrawn pair o (entry_at after pair) ≡ Removes publisher seq
        → (contains pair_cmp notes.withdrawn (publisher, seq) ≡ false) × (withdraws_too pair o (publisher, seq) ≡ true)
    go None h = absurd (none_listed (entry_at after pair) h)
    go (Some (Object shape name)) h = absurd (none_listed (entry_at after pair) h)
    go (Some (Withdrawal n)) h = at n (contains pair_cmp notes.withdrawn (pair.0, n)) refl h

  -- an entry that is listed is that of the publication
  listed_now : (e : Entry) → change ≡ Lists e → entry_at after pair ≡ Some e
  listed_now e h = go summary (sym made ∙ h) where
    some_listed : (o : Option Entry) → lists_entry o ≡ Lists e → o ≡ Some e
    some_listed None h = absurd cc
    some_listed (Some x) h =
        let same : x ≡ e = cc in
        ap (λ (y : Entry). Some y) same

    at : (n : ℕ) (b : Bool) → cond b Nothing (Removes pair.0 n) ≡ Lists e → entry_at after pair ≡ Some e
    at n true h = absurd cc
    at n false h = absurd cc

    go : (o : Option RecordSummary) → change_by notes.withdrawn pair o (entry_at after pair) ≡ Lists e
        → entry_at after pair ≡ Some e
    go None h = some_listed (entry_at after pair) h
    go (Some (Object shape name)) h = some_listed (entry_at after pair) h
    go (Some (Withdrawal n)) h = at n (contains pair_cmp notes.withdrawn (pair.0, n)) h

  not_gone : (q : Pair) → is_withdrawn packets q ≡ false → contains pair_cmp gone q ≡ false
  not_gone q h = go (contains pair_cmp gone q) refl where
    go : (b : Bool) → contains pair_cmp gone q ≡ b → b ≡ false
    go true p = sym (is.withdrawn q p) ∙ h
    go false p = refl

  listed_changed : (c : Change) → change ≡ c → AreListedWith (fresh_with fresh c) (gone_with gone c) entries after
  listed_changed Nothing h = record {
    listed = is.listed ∙ sym (listed ∙ ap (λ (x : Change). changed x (member_catalogue packets)) h);
    withdrawn = withdrawn_still;
    apart = is.apart;
    apart_gone = is.apart_gone;
    in_order = is.in_order;
  }
  listed_changed (Lists e) h =
      let there = listed_now e h in
      let same : publication_of e ≡ pair = entry_is_of after pair e there in
      let free : is_withdrawn packets pair ≡ false =
      sym (noted pair) ∙ (or_parts (withdraws_too pair summary pair) (contains pair_cmp notes.withdrawn pair)
      (now pair ∙ entry_not_withdrawn after pair e there)).1 in
      listed_more fresh entries gone packets after e is r later
      (ap (contains pair_cmp gone) same ∙ not_gone pair free)
      withdrawn_still (ap (entry_at packets) same ∙ entry_of_none packets pair before)
      (listed ∙ ap (λ (x : Change). changed x (member_catalogue packets)) h)
  listed_changed (Removes publisher seq) h =
      let both = removed_now publisher seq h in
      listed_less fresh entries gone packets after (publisher, seq) is r later
      (not_gone (publisher, seq) (sym (noted (publisher, seq)) ∙ both.0))
      (sym (now (publisher, seq)) ∙ or_left (withdraws_too pair summary (publisher, seq)) _ both.1)
      withdrawn_still (listed ∙ ap (λ (x : Change). changed x (member_catalogue packets)) h)

-- the change that a part makes that has come
pub change_is : (s : Stock) (after : List Packet) (t : Part) (octets : List ℕ) (summary : Option RecordSummary)
    (change : Change)
    → IsSound s → IsArrival s.store.packets t octets summary → IsMissing s.plan t
    → after ≡ with_packet t octets s.store.packets
    → change ≡ change_by s.notes.withdrawn (pair_of t) summary (entry_at after (pair_of t))
    → IsChange change s.store.packets after
change_is s after t octets summary change sound arrival missing puts made = record {
  listed = listed;
  waits = λ fresh entries gone is.
      listed_changed s.store.packets after (pair_of t) s.notes summary change fresh entries gone sound.tied.in_order
      (rises_now s after t octets summary sound arrival missing puts)
      (before_now s after t octets summary sound arrival missing puts) sound.noted.withdrawn
      (withdrawn_now s after t octets summary sound arrival missing puts) made listed is change refl;
} where
  listed : member_catalogue after ≡ changed change (member_catalogue s.store.packets)
  listed =
      changed_now s after t octets summary sound arrival missing puts
      ∙ ap (λ (c : Change). changed c (member_catalogue s.store.packets)) (sym made)

-- it is one more at most
few_more : (change : Change) (fresh : List Entry) (gone : List Pair)
    → (length (fresh_with fresh change) ≤ length fresh + 1) × (length (gone_with gone change) ≤ length gone + 1)
few_more Nothing fresh gone = (omega arith, omega arith)
few_more (Lists e) fresh gone = (omega (arith, length-append fresh (e ∷ [])), omega arith)
few_more (Removes publisher seq) fresh gone = (omega arith, omega (arith, length-append gone ((publisher, seq) ∷ [])))

-- a change is added to those that wait
pub waits_more : (change : Change) (old new : Pending) (packets after : List Packet)
    → new.fresh.items ≡ fresh_with old.fresh.items change → new.gone.items ≡ gone_with old.gone.items change
    → vec_capacity old.fresh ≤ vec_capacity new.fresh → vec_capacity old.gone ≤ vec_capacity new.gone
    → IsChange change packets after → HaveWaited 1 old new packets after
waits_more change old new packets after fresh gone fresh_room gone_room is = record {
  few_fresh =
      omega (arith, ap (λ (es : List Entry). length es) fresh, (few_more change old.fresh.items old.gone.items).0);
  few_gone = omega (arith, ap (λ (qs : List Pair). length qs) gone, (few_more change old.fresh.items old.gone.items).1);
  fresh_room = fresh_room;
  gone_room = gone_room;
  listed = λ entries was. rw (fresh, gone) (is.waits old.fresh.items entries old.gone.items was);
}

-- ---- what is stored stays

abbrev pub StayStored : List Packet → List Packet → Type 0
StayStored packets after = (t : Part) (octets : List ℕ) → value_of part_cmp packets t ≡ Some octets
    → value_of part_cmp after t ≡ Some octets

pub put_stays : (packets : List Packet) (t : Part) (octets : List ℕ) → StayStored packets (with_packet t octets packets)
put_stays packets t octets q o there = go (contains part_cmp (keys packets) t) refl where
  other : (b : Bool) → eq_by_cmp part_cmp q t ≡ b → contains part_cmp (keys packets) t ≡ false
      → cond b (Some octets) (value_of part_cmp packets q) ≡ Some o
  other false e p = there
  other true e p =
      absurd (true≢false (sym (ap is_some there)
      ∙ ap (λ (u : Part). is_some (value_of part_cmp packets u)) (eq_same exact_parts q t e)
      ∙ sym (contains-value packets t)
      ∙ p))

  go : (b : Bool) → contains part_cmp (keys packets) t ≡ b
      → value_of part_cmp (cond b packets (with_value part_cmp t octets packets)) q ≡ Some o
  go true p = there
  go false p = value_of-with_value exact_parts t octets packets q ∙ other (eq_by_cmp part_cmp q t) refl p

pub fetched_stays : (xs : List Fetched) (packets : List Packet) → StayStored packets (with_all_fetched xs packets)
fetched_stays [] packets q o there = there
fetched_stays (x ∷ xs) packets q o there =
    fetched_stays xs (with_fetched x.part x.packet packets) q o (one x.packet) where
      one : (p : Option (List ℕ)) → value_of part_cmp (with_fetched x.part p packets) q ≡ Some o
      one None = there
      one (Some octets) = put_stays packets x.part octets q o there

-- what holds of the first `i + n` numbers holds of the last `n` of them
numbers_after : (p : ℕ → Bool) (i n : ℕ) → list_all p (numbers_from 1 (i + n)) ≡ true
    → list_all p (numbers_from (i + 1) n) ≡ true
numbers_after p i n h =
    later i 1 h where
      later : (i first : ℕ) → list_all p (numbers_from first (i + n)) ≡ true
          → list_all p (numbers_from (i + first) n) ≡ true
      later zero first h =
          let none : 0 + n ≡ n = omega arith in
          let same : first ≡ 0 + first = omega arith in
          subst (λ (k : ℕ). list_all p (numbers_from k n) ≡ true) same
          (subst (λ (m : ℕ). list_all p (numbers_from first m) ≡ true) none h)
      later (suc i) first h =
          let more : suc i + n ≡ suc (i + n) = omega arith in
          let same : i + (first + 1) ≡ suc i + first = omega arith in
          let cut : list_all p (numbers_from first (suc (i + n))) ≡ true =
          subst (λ (m : ℕ). list_all p (numbers_from first m) ≡ true) more h in
          subst (λ (k : ℕ). list_all p (numbers_from k n) ≡ true) same
          (later i (first + 1) (and_parts (p first) (list_all p (numbers_from (first + 1) (i + n))) cut).1)

-- and so does the entry of what is stored whole
module _ (packets after : List Packet) (pair : Pair) (e : Entry) (stays : StayStored packets after) where
  -- the parts are stored, with the same contents
  pub all_stay : (xs : List ℕ) → list_all (λ x. is_some (stored_at packets pair x)) xs ≡ true
      → (list_all (λ x. is_some (stored_at after pair x)) xs ≡ true)
      × (flat_map (stored_content after pair) xs ≡ flat_map (stored_content packets pair) xs)
  all_stay [] h = (refl, refl)
  all_stay (x ∷ xs) h =
      let both = and_parts (is_some (stored_at packets pair x)) _ h in
      one (stored_at packets pair x) refl both.0 (all_stay xs both.1) where
        one : (o : Option (List ℕ)) → stored_at packets pair x ≡ o → is_some o ≡ true
            → (list_all (λ y. is_some (stored_at after pair y)) xs ≡ true)
            × (flat_map (stored_content after pair) xs ≡ flat_map (stored_content packets pair) xs)
            → (list_all (λ y. is_some (stored_at after pair y)) (x ∷ xs) ≡ true)
            × (flat_map (stored_content after pair) (x ∷ xs) ≡ flat_map (stored_content packets pair) (x ∷ xs))
        one None p some rest = absurd (true≢false (sym some))
        one (Some octets) p some rest =
            let now : stored_at after pair x ≡ Some octets = stays (part_of pair x) octets p in
            let same : stored_content after pair x ≡ stored_content packets pair x =
            ap (λ (o : Option (List ℕ)). packet_content (unwrap_or o [])) (now ∙ sym p) in (
              and_from (is_some (stored_at after pair x)) _ (ap is_some now) rest.0,
              ap (λ (c : List ℕ). c ++ flat_map (stored_content after pair) xs) same
                  ∙ ap (λ (c : List ℕ). stored_content packets pair x ++ c) rest.1,
            )

  abbrev made : Listed → List ℕ → Entry
  made l joined = record {
    publisher = pair.0;
    seq = pair.1;
    name = l.name;
    segments = l.segments;
    octets = length joined;
    digest = sha256 joined;
  }

  -- the segments are among the parts after the record
  segments_stored : (shape : Shape) → are_stored packets pair (last_part shape) ≡ true
      → list_all (λ x. is_some (stored_at packets pair x)) (numbers_from (shape.index + 1) shape.segments) ≡ true
  segments_stored shape h = numbers_after (λ x. is_some (stored_at packets pair x)) shape.index shape.segments h

  of_listing : (l : Listed) (b : Bool) → are_stored packets pair (last_part (listed_shape l)) ≡ b
      → cond b (Some (entry_of_listing packets pair l)) None ≡ Some e → entry_listed after pair l ≡ Some e
  of_listing l false p h = absurd (none_is_some e h)
  of_listing l true p h =
      let all = all_stay (numbers_from 1 (last_part (listed_shape l))) p in
      let both =
      all_stay (numbers_from ((listed_shape l).index + 1) (listed_shape l).segments)
      (segments_stored (listed_shape l) p) in
      ap (λ (b : Bool). cond b (Some (entry_of_listing after pair l)) None) all.0
      ∙ ap (λ (joined : List ℕ). Some (made l joined)) both.1
      ∙ h

  at_listing : (o : Option Listed) → option_and_then (entry_listed packets pair) o ≡ Some e
      → option_and_then (entry_listed after pair) o ≡ Some e
  at_listing None h = absurd (none_is_some e h)
  at_listing (Some l) h = of_listing l (are_stored packets pair (last_part (listed_shape l))) refl h

  at_record : (o : Option (List ℕ)) → stored_at packets pair 0 ≡ o
      → option_and_then (entry_listed packets pair) (option_and_then listing_in o) ≡ Some e
      → whole_at after pair ≡ Some e
  at_record None p h = absurd (none_is_some e h)
  at_record (Some octets) p h =
      ap (λ (o : Option (List ℕ)). option_and_then (entry_listed after pair) (option_and_then listing_in o))
      (stays (part_of pair 0) octets p)
      ∙ at_listing (listing_in octets) h

  pub whole_stays : whole_at packets pair ≡ Some e → whole_at after pair ≡ Some e
  whole_stays h = at_record (stored_at packets pair 0) refl h

-- ---- digests that are reported

digest_sooner : (packets after : List Packet) (d : ContentsDigest) → StayStored packets after → IsDigestIn after d
    → IsDigestIn packets d
digest_sooner packets after d stays summary = go (whole_at packets (d.publisher, d.seq)) refl where
  go : (o : Option Entry) → whole_at packets (d.publisher, d.seq) ≡ o → IfSome o (IsDigestOfEntry d)
  go None p = tt
  go (Some e) p =
      subst (λ (o : Option Entry). IfSome o (IsDigestOfEntry d))
      (whole_stays packets after (d.publisher, d.seq) e stays p) summary

-- what is true of all that will be stored is true before
pub digests_sooner : (packets after : List Packet) (ds : List ContentsDigest) → StayStored packets after
    → All (IsDigestIn after) ds → All (IsDigestIn packets) ds
digests_sooner packets after ds stays all =
    All-weaker (IsDigestIn after) (IsDigestIn packets) (λ d h. digest_sooner packets after d stays h) ds all
