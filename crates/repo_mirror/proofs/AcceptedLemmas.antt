-- What a mirror lists is what its pattern accepts.
use Rattle.std.proofs.Common.{◌≡◌, inl, inr, ℕ, Bool, true, false, cond, List, [], ◌∷◌, map, Option, Some, None, refl}
use Rattle.std.proofs.Common.{sym, ap, ◌∙◌, option_map}
use Rattle.std.specs.Prelude.{◌==◌}
use Rattle.std.specs.List.{All}
use Rattle.std.specs.Option.{option_and_then}
use Rattle.std.proofs.lemmas.Bool.{eqb-true}
use Rattle.repo_plan.specs.Parts.{Pair, pair_of, part_of, last_part}
use Rattle.sorted_lists.proofs.Sets.{In, from_map}
use Rattle.sorted_lists.proofs.Members.{all_in, in_all}
use Rattle.repo_object.specs.Publication.{Listed, RecordSays}
use Rattle.repo_object.specs.Publication.RecordSays.{Lists, WithdrawsNumber}
use Rattle.repo_object.specs.Verdict.{stated_in}
use Rattle.repo_catalog.specs.declared.entry.Entry.{Entry}
use Rattle.repo_holdings.specs.KeptValues.{with_kept, kept_values}
use Rattle.repo_holdings.specs.Records.{Packet, records_in}
use Rattle.repo_holdings.specs.Gaining.{summary_of}
use Rattle.repo_holdings.specs.Listed.{member_catalogue, entries_in, entry_listed, entry_of_listing, are_stored}
use Rattle.repo_holdings.specs.Listed.{is_withdrawn, listed_shape, listing_in, object_stated}
use Rattle.repo_watch.specs.declared.pattern.Pattern.{Pattern}
use Rattle.repo_watch.specs.Patterns.{accepts}
use Rattle.repo_mirror.specs.Mirrors.{is_entry_accepted}
use Rattle.repo_mirror.specs.Passing.{is_summary_for, is_packet_for}
use Rattle.repo_mirror.specs.PacketsFor.{IsPacketFor, ArePacketsFor}

-- where a value of a map comes from
from_kept : {K V W : Type 0} (f : K → V → Option W) (es : List (K × V)) (x : K × W) → In x (kept_values f es)
    → (e : K × V) × In e es × (f e.0 e.1 ≡ Some x.1)
from_kept f [] x i = absurd i
from_kept {K} {V} {W} f (e ∷ es) x i =
    go (λ j. let r = from_kept f es x j in (r.0, inr r.1, r.2)) (f e.0 e.1) refl i where
      go : (In x (kept_values f es) → (y : K × V) × In y (e ∷ es) × (f y.0 y.1 ≡ Some x.1)) → (o : Option W)
          → f e.0 e.1 ≡ o → In x (with_kept e.0 o (kept_values f es))
          → (y : K × V) × In y (e ∷ es) × (f y.0 y.1 ≡ Some x.1)
      go later None p j = later j
      go later (Some w) p (inl s) = (e, inl refl, p ∙ ap (λ (z : K × W). Some z.1) (sym s))
      go later (Some w) p (inr j) = later j

-- a record stands among the stored packets
from_records : (es : List Packet) (x : Pair × List ℕ) → In x (records_in es) → In (part_of x.0 0, x.1) es
from_records [] x i = absurd i
from_records (e ∷ es) x i = go (λ j. inr (from_records es x j)) (e.0.part == 0) refl i where
  go : (In x (records_in es) → In (part_of x.0 0, x.1) (e ∷ es)) → (b : Bool) → (e.0.part == 0) ≡ b
      → In x (cond b ((pair_of e.0, e.1) ∷ records_in es) (records_in es)) → In (part_of x.0 0, x.1) (e ∷ es)
  go later true p (inl s) =
      let zero : e.0.part ≡ 0 = eqb-true e.0.part 0 p in inl (λ i. (part_of (s i).0 (sym zero i), (s i).1))
  go later true p (inr j) = later j
  go later false p j = later j

-- the record of an object that is kept is of one that the pattern accepts
pub record_accepted : (pattern : Pattern) (pair : Pair) (octets : List ℕ) (l : Listed) → stated_in octets
    ≡ Some (Lists l)
    → is_packet_for pattern (part_of pair 0) octets ≡ true → accepts pattern pair.0 l.name ≡ true
record_accepted pattern pair octets l stated kept =
    sym (ap (λ (o : Option RecordSays). is_summary_for pattern pair.0 (option_map summary_of o)) stated) ∙ kept

module _ (pattern : Pattern) (store : List Packet) (are : ArePacketsFor pattern store) where
  accepted_entry : (pair : Pair) (octets : List ℕ) (e : Entry) → In (part_of pair 0, octets) store
      → cond (is_withdrawn store pair) None (option_and_then (entry_listed store pair) (listing_in octets)) ≡ Some e
      → is_entry_accepted pattern e ≡ true
  accepted_entry pair octets e i h = withdrawn (is_withdrawn store pair) h where
    listed : (l : Listed) → stated_in octets ≡ Some (Lists l) → (b : Bool)
        → (let none : Option Entry = None in cond b (Some (entry_of_listing store pair l)) none ≡ Some e)
        → is_entry_accepted pattern e ≡ true
    listed l stated false k = absurd cc
    listed l stated true k =
        let same : entry_of_listing store pair l ≡ e = cc in
        ap (is_entry_accepted pattern) (sym same)
        ∙ record_accepted pattern pair octets l stated
        (in_all (IsPacketFor pattern) store (part_of pair 0, octets) are i).kept

    stated : (s : Option RecordSays) → stated_in octets ≡ s
        → option_and_then (entry_listed store pair) (option_and_then object_stated s) ≡ Some e
        → is_entry_accepted pattern e ≡ true
    stated None p k = absurd cc
    stated (Some (Lists l)) p k = listed l p (are_stored store pair (last_part (listed_shape l))) k
    stated (Some (WithdrawsNumber seq)) p k = absurd cc

    withdrawn : (b : Bool) → cond b None (option_and_then (entry_listed store pair) (listing_in octets)) ≡ Some e
        → is_entry_accepted pattern e ≡ true
    withdrawn true k = absurd cc
    withdrawn false k = stated (stated_in octets) refl k

  pub lists_accepted : All (λ e. is_entry_accepted pattern e ≡ true) (member_catalogue store)
  lists_accepted =
      all_in (λ (e : Entry). is_entry_accepted pattern e ≡ true) (member_catalogue store) (λ e i.
      let x = from_map (λ (y : Pair × Entry). y.1) (entries_in store) e i in
      let r = from_kept (λ pair octets.
      cond (is_withdrawn store pair) None (option_and_then (entry_listed store pair) (listing_in octets)))
      (records_in store) x.0 x.1 in
      ap (is_entry_accepted pattern) x.2
      ∙ accepted_entry r.0.0 r.0.1 x.0.1 (from_records store r.0 r.1) r.2)
