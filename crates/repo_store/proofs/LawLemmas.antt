-- What is got after a put, and what is served among all.
use Rattle.std.proofs.Common.{◌≡◌, ℕ, Bool, true, false, cond, not, List, Option, Some, None}
use Rattle.std.proofs.Common.{option_map, Result, Ok, Err, refl, sym, ap, subst, ◌∙◌}
use Rattle.std.specs.Prelude.{IsOk, is_some}
use Rattle.std.specs.List.{filter, find}
use Rattle.std.specs.Option.{option_or}
use Rattle.std.specs.Ordering.{eq_by_cmp}
use Rattle.std.specs.Bool.{Decides}
use Rattle.std.proofs.lemmas.Bool.{true≢false, false_from_ne_true}
use Rattle.sha2.specs.Sha256.{sha256}
use Rattle.ndn_tlv.specs.Listing.{◌>>=◌}
use Rattle.ndn_tlv.proofs.Steps.{bind_ok}
use Rattle.ndn_name.specs.declared.fault.PacketFault.{PacketFault}
use Rattle.ndn_name.specs.Names.{Component}
use Rattle.ndn_interest.specs.Interest.{Interest, interest_of}
use Rattle.ndn_data.specs.Data.{Data, data_of, Satisfies}
use Rattle.sorted_lists.specs.SortedList.{keys, Rises, contains, insert_key, value_of, with_value}
use Rattle.sorted_lists.specs.Least.{IsFirstThat}
use Rattle.sorted_lists.proofs.Sets.{eq_same, value_of-with_value, value_key, keys-with_value, keys-filter, in_contains}
use Rattle.sorted_lists.proofs.RunOrder.{lt_not_le}
use Rattle.sorted_lists.proofs.Members.{in_all}
use Rattle.sorted_lists.proofs.Lookups.{insert_there, there_value, value_there}
use Rattle.sorted_lists.proofs.LeastOnes.{find_first}
use Rattle.repo_plan.specs.declared.part.Part.{Part}
use Rattle.repo_plan.specs.Parts.{Pair, part_cmp}
use Rattle.repo_plan.specs.Plan.{is_in}
use Rattle.repo_plan.proofs.Orders.{exact_parts}
use Rattle.repo_store.specs.StoreList.{with_packet, packets_outside, StoreIsSound}
use Rattle.repo_store.specs.Served.{asks_for_read, satisfies, first_served, served_entry, served, served_part}
use Rattle.repo_store.specs.Answers.{AnswersWith}
use Rattle.repo_store.proofs.NameLemmas.{asks_for-Decides}
use Rattle.repo_store.proofs.ServedLemmas.{entry_fresh, entry_found}

abbrev Stores : Type 0
Stores = List (Part × List ℕ)

-- ---- the test

pub satisfies-Decides : (name : List Component) (p : Bool) (octets : List ℕ) (d : Data) → data_of octets ≡ Ok d
    → Decides (satisfies name p octets) (Satisfies name p (sha256 octets) d)
unfolding satisfies
satisfies-Decides name p octets d read =
    subst (λ (r : Result Data PacketFault).
    Decides (asks_for_read name p (sha256 octets) r) (Satisfies name p (sha256 octets) d)) (sym read)
    (asks_for-Decides name p (sha256 octets) d)

-- ---- a put

-- a part has a packet exactly where it is among the parts
pub has_value : (packets : Stores) (t : Part)
    → is_some (value_of part_cmp packets t) ≡ contains part_cmp (keys packets) t
has_value packets t = value_key part_cmp packets t

or_none : (v : Option (List ℕ)) → v ≡ option_or v None
or_none None = refl
or_none (Some o) = refl

pub put_got : (part : Part) (octets : List ℕ) (packets : Stores) (t : Part)
    → value_of part_cmp (with_packet part octets packets) t
    ≡ option_or (value_of part_cmp packets t) (cond (eq_by_cmp part_cmp t part) (Some octets) None)
put_got part octets packets t =
    at (contains part_cmp (keys packets) part) refl (eq_by_cmp part_cmp t part) refl (value_of part_cmp packets t)
    refl where
      among : (c : Bool) → contains part_cmp (keys packets) part ≡ c → eq_by_cmp part_cmp t part ≡ true
          → (v : Option (List ℕ)) → value_of part_cmp packets t ≡ v → is_some v ≡ c
      among c p q v r =
          ap is_some (sym r)
          ∙ has_value packets t
          ∙ ap (contains part_cmp (keys packets)) (eq_same exact_parts t part q)
          ∙ p

      at : (c : Bool) → contains part_cmp (keys packets) part ≡ c → (b : Bool) → eq_by_cmp part_cmp t part ≡ b
          → (v : Option (List ℕ)) → value_of part_cmp packets t ≡ v
          → value_of part_cmp (cond c packets (with_value part_cmp part octets packets)) t
          ≡ option_or v (cond b (Some octets) None)
      at true p b q (Some o) r = r
      at true p false q None r = r
      at true p true q None r = absurd (true≢false (sym (among true p q None r)))
      at false p true q (Some o) r = absurd (true≢false (among false p q (Some o) r))
      at false p true q None r =
          value_of-with_value exact_parts part octets packets t
          ∙ ap (λ (x : Bool). cond x (Some octets) (value_of part_cmp packets t)) q
      at false p false q v r =
          value_of-with_value exact_parts part octets packets t
          ∙ ap (λ (x : Bool). cond x (Some octets) (value_of part_cmp packets t)) q
          ∙ r
          ∙ or_none v

pub keys_put : (part : Part) (octets : List ℕ) (packets : Stores) → Rises part_cmp (keys packets)
    → keys (with_packet part octets packets) ≡ insert_key part_cmp part (keys packets)
keys_put part octets packets r = go (contains part_cmp (keys packets) part) refl where
  go : (c : Bool) → contains part_cmp (keys packets) part ≡ c
      → keys (cond c packets (with_value part_cmp part octets packets)) ≡ insert_key part_cmp part (keys packets)
  go true h = sym (insert_there exact_parts part (keys packets) r (in_contains exact_parts (keys packets) part h))
  go false h = keys-with_value exact_parts part octets packets

pub keys_outside : (pair : Pair) (packets : Stores)
    → keys (packets_outside pair packets) ≡ filter (λ t. not (is_in pair t)) (keys packets)
keys_outside pair packets = keys-filter exact_parts (λ t. not (is_in pair t)) packets

-- ---- the first that passes a test

pub got_data : (packets : Stores) (t : Part) (o : List ℕ) → StoreIsSound packets → value_of part_cmp packets t ≡ Some o
    → IsOk (data_of o)
got_data packets t o s h =
    in_all (λ (e : Part × List ℕ). IsOk (data_of e.1)) packets (t, o) s.are_data (there_value exact_parts packets t o h)

-- ---- what is served

abbrev part_in : Option (Part × List ℕ) → Result (Option Part) PacketFault
part_in e = Ok (option_map (λ (s : Part × List ℕ). s.0) e)

abbrev octets_in : Option (Part × List ℕ) → Result (Option (List ℕ)) PacketFault
octets_in e = Ok (option_map (λ (s : Part × List ℕ). s.1) e)

abbrev answer : Option (Part × List ℕ) → Result (Option (Part × List ℕ)) PacketFault
answer e = Ok e

-- what comes first of those that pass, by their parts
abbrev First : Interest → Stores → Option (Part × List ℕ) → Type 0
First i packets f =
    IsFirstThat part_cmp (λ (e : Part × List ℕ). e.0) packets (λ e. satisfies i.name i.can_be_prefix e.1) f

found_first : (i : Interest) (packets : Stores) → Rises part_cmp (keys packets)
    → First i packets (find (λ e. satisfies i.name i.can_be_prefix e.1) packets)
found_first i packets r = find_first exact_parts (λ e. satisfies i.name i.can_be_prefix e.1) packets r

answers : (i : Interest) (packets : Stores) (f : Option (Part × List ℕ)) → Rises part_cmp (keys packets)
    → i.must_be_fresh ≡ false → First i packets f → AnswersWith i packets (option_map (λ s. s.0) f)
answers i packets None r fresh first = λ h t o v.
    false_from_ne_true (satisfies i.name i.can_be_prefix o)
    (λ holds. first (t, o) (there_value exact_parts packets t o v, holds))
answers i packets (Some e) r fresh first = (
  fresh,
  record {
    octets = e.1;
    stored = value_there exact_parts packets e r first.there.0;
    satisfied = first.there.1;
    least = λ t o v holds less.
        lt_not_le exact_parts t e.0 less (first.least (t, o) (there_value exact_parts packets t o v, holds));
  },
)

pub served_least : (interest : List ℕ) (packets : Stores) (i : Interest) (part : Option Part)
    → Rises part_cmp (keys packets) → interest_of interest ≡ Ok i → served_part interest packets ≡ Ok part
    → AnswersWith i packets part
served_least interest packets i part r read h = go i.must_be_fresh refl where
  go : (b : Bool) → i.must_be_fresh ≡ b → AnswersWith i packets part
  go true fresh =
      let e =
      sym (ap (λ (x : Result (Option (Part × List ℕ)) PacketFault). x >>= part_in)
      (entry_fresh interest packets i read fresh))
      ∙ h in
      let none : None ≡ part = cc in
      subst (AnswersWith i packets) none (λ f. absurd (true≢false (sym fresh ∙ f)))
  go false fresh =
      let found = find (λ (s : Part × List ℕ). satisfies i.name i.can_be_prefix s.1) packets in
      let e =
      sym (ap (λ (x : Result (Option (Part × List ℕ)) PacketFault). x >>= part_in)
      (entry_found interest packets i read fresh))
      ∙ h in
      let same : option_map (λ s. s.0) found ≡ part = cc in
      subst (AnswersWith i packets) same
      (answers i packets found r fresh (found_first i packets r))

entry_stored : (interest : List ℕ) (packets : Stores) (e : Part × List ℕ) → Rises part_cmp (keys packets)
    → served_entry interest packets ≡ Ok (Some e) → value_of part_cmp packets e.0 ≡ Some e.1
unfolding served_entry first_served
entry_stored interest packets e r h =
    let b = bind_ok (interest_of interest) (λ i. answer (first_served i packets)) (Some e) h in
    let i = b.0 in
    let found = find (λ (s : Part × List ℕ). satisfies i.name i.can_be_prefix s.1) packets in
    go i i.must_be_fresh found (found_first i packets r) b.2
  where
    go : (i : Interest) (b : Bool) (f : Option (Part × List ℕ)) → First i packets f
        → answer (cond b None f) ≡ Ok (Some e) → value_of part_cmp packets e.0 ≡ Some e.1
    go i true f first k = absurd cc
    go i false None first k = absurd cc
    go i false (Some x) first k =
        let same : x ≡ e = cc in
        subst (λ (y : Part × List ℕ). value_of part_cmp packets y.0 ≡ Some y.1) same
        (value_there exact_parts packets x r first.there.0)

pub served_of_part : (interest : List ℕ) (packets : Stores) (part : Part) → Rises part_cmp (keys packets)
    → served_part interest packets ≡ Ok (Some part) → served interest packets ≡ Ok (value_of part_cmp packets part)
served_of_part interest packets part r h = go (served_entry interest packets) refl h where
  go : (x : Result (Option (Part × List ℕ)) PacketFault) → served_entry interest packets ≡ x
      → (x >>= part_in) ≡ Ok (Some part) → (x >>= octets_in) ≡ Ok (value_of part_cmp packets part)
  go (Err f) e k = absurd cc
  go (Ok None) e k = absurd cc
  go (Ok (Some s)) e k =
      let same : s.0 ≡ part = cc in
      let P : Option (List ℕ) → Type 0 = λ v. octets_in (Some s) ≡ Ok v in
      subst P (sym (entry_stored interest packets s r e) ∙ ap (value_of part_cmp packets) same) refl
