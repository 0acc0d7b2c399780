-- A vector that octets tell has a number for each member.
use Rattle.std.proofs.Common.{◌≡◌, ℕ, max, Bool, true, false, cond, List, [], ◌∷◌, length, Option, Some, None, Result}
use Rattle.std.proofs.Common.{Ok, Err, slice_index, slice_set, sym, ap, ◌∙◌}
use Rattle.std.specs.Prelude.{nat_lt, replicate, unwrap_or}
use Rattle.std.proofs.lemmas.List.{length-set, length-replicate}
use Rattle.ndn_tlv.specs.Listing.{gather, ◌>>=◌}
use Rattle.ndn_tlv.specs.Elements.{elements}
use Rattle.ndn_tlv.proofs.Steps.{bind_ok}
use Rattle.ndn_name.specs.Names.{Component}
use Rattle.ndn_sign.specs.Ring.{NamedKey}
use Rattle.ndn_interest.specs.Interest.{Interest, interest_of}
use Rattle.ndn_interest.specs.Signer.{ensured, signer_of}
use Rattle.svs_vector.specs.declared.vector_fault.VectorFault.{VectorFault}
use Rattle.svs_vector.specs.declared.vector_fault.VectorFault.TheVariants.{NumberTooLarge}
use Rattle.svs_vector.specs.Rosters.{member_of}
use Rattle.svs_vector.specs.StateVector.{entry_in, counted, with_vector_entry, vector_in, vector_among, vector_of}
use Rattle.svs_vector.specs.StateVector.{fault_in}
use Rattle.svs_sync.specs.declared.sync_refusal.SyncRefusal.{SyncRefusal}
use Rattle.svs_sync.specs.declared.sync_refusal.SyncRefusal.TheVariants.{WrongGroup}
use Rattle.svs_sync.specs.SyncInterest.{packet_or, signed_or, vector_or, is_sync_name, sync_interest_verdict}
use Rattle.svs_sync.specs.SyncInterest.{sync_verdict}

counted_wide : (v : List ℕ) (n : ℕ) (member : Option ℕ) (w : List ℕ) → counted v n member ≡ Ok w → length w ≡ length v
counted_wide v n None w h = let same : v ≡ w = cc in ap (λ (u : List ℕ). length u) (sym same)
counted_wide v n (Some m) w h = go (nat_lt 65535 n) h where
  go : (b : Bool) → cond b (Err (NumberTooLarge m n)) (Ok (slice_set v m (max (slice_index v m) n))) ≡ Ok w
      → length w ≡ length v
  go true k = absurd cc
  go false k =
      let same : slice_set v m (max (slice_index v m) n) ≡ w = cc in
      ap (λ (u : List ℕ). length u) (sym same) ∙ length-set v m (max (slice_index v m) n)

abbrev vector_in_it : Result (ℕ × List ℕ) SyncRefusal → List ℕ → List ℕ
vector_in_it (Ok received) other = received.1
vector_in_it (Err refusal) other = other

gathered_wide : {A F : Type 0} (take : List ℕ → A → Result (List ℕ) VectorFault) (named : F → VectorFault)
    → ((v : List ℕ) (x : A) (w : List ℕ) → take v x ≡ Ok w → length w ≡ length v)
    → (v : List ℕ) (xs : List A) (fault : Option F) (w : List ℕ) → gather take named v xs fault ≡ Ok w
    → length w ≡ length v
unfolding gather
gathered_wide take named wide v [] None w h = let same : v ≡ w = cc in ap (λ (u : List ℕ). length u) (sym same)
gathered_wide take named wide v [] (Some f) w h = absurd cc
gathered_wide take named wide v (x ∷ xs) fault w h =
    let step = bind_ok (take v x) (λ t. gather take named t xs fault) w h in
    gathered_wide take named wide step.0 xs fault w step.2 ∙ wide v x step.0 step.1

module _ (roster : List (List Component)) where
  vector_wide : (octets w : List ℕ) → vector_of roster octets ≡ Ok w → length w ≡ length roster
  vector_wide octets w h =
      let step = bind_ok (vector_among (elements 0 octets).items) (vector_in roster) w h in
      gathered_wide (with_vector_entry roster) (fault_in step.0) (λ v field w h.
      let entry = bind_ok (entry_in field.1) (λ entry. counted v entry.1 (member_of entry.0 roster)) w h in
      counted_wide v entry.0.1 (member_of entry.0.0 roster) w entry.2) (replicate (length roster) 0) _ _ w step.2
      ∙ length-replicate (length roster) 0

  vector_or_ok : (r : Result (List ℕ) VectorFault) (w : List ℕ) → vector_or r ≡ Ok w → r ≡ Ok w
  vector_or_ok (Ok v) w h = let same : v ≡ w = cc in ap (λ (u : List ℕ). Ok u) same
  vector_or_ok (Err fault) w h = absurd cc

  module _ (group : List Component) (ring : List NamedKey) (i : Interest) where
    abbrev read : Result (List ℕ) SyncRefusal
    read = vector_or (vector_of roster (unwrap_or i.parameters []))

    abbrev with_signer : ℕ → Result (ℕ × List ℕ) SyncRefusal
    with_signer signer = read >>= λ v. Ok (signer, v)

    vector_of_entries : (signer : ℕ) (received : ℕ × List ℕ) → with_signer signer ≡ Ok received → length received.1
        ≡ length roster
    vector_of_entries signer received h =
        let vector = bind_ok read (λ v. Ok (signer, v)) received h in
        let same : vector.0 ≡ received.1 = ap (λ r. vector_in_it r vector.0) vector.2 in
        ap (λ (u : List ℕ). length u) (sym same)
        ∙ vector_wide (unwrap_or i.parameters []) vector.0
        (vector_or_ok (vector_of roster (unwrap_or i.parameters [])) vector.0 vector.1)

    interest_wide : (received : ℕ × List ℕ) → sync_interest_verdict group roster ring i ≡ Ok received
        → length received.1 ≡ length roster
    interest_wide received h =
        let named =
        bind_ok (ensured (is_sync_name group i.name) WrongGroup) (λ u. signed_or (signer_of ring i) >>= with_signer)
        received h in
        let signed = bind_ok (signed_or (signer_of ring i)) with_signer received named.2 in
        vector_of_entries signed.0 received signed.2

  pub received_wide : (group : List Component) (ring : List NamedKey) (octets : List ℕ) (received : ℕ × List ℕ)
      → sync_verdict group roster ring octets ≡ Ok received → length received.1 ≡ length roster
  received_wide group ring octets received h =
      let step = bind_ok (packet_or (interest_of octets)) (sync_interest_verdict group roster ring) received h in
      interest_wide group ring step.0 received step.2
