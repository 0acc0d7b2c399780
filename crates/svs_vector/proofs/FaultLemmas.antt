-- What holds of the faults of octets that are no state vector: where a number is too large, it is a member's, and none
-- is out of memory.
use Rattle.std.proofs.Common.{◌≡◌, ℕ, max, ◌==◌, ◌<◌, Bool, true, false, cond, List, [], ◌∷◌, length, Option, Some}
use Rattle.std.proofs.Common.{None, refl}
use Rattle.std.specs.Prelude.{◌≢◌, Result, Ok, Err, IfErr, nat_lt, slice_index, slice_set}
use Rattle.std.proofs.lemmas.List.Quantifiers.{position-Some}
use Rattle.ndn_tlv.specs.declared.order_table.FieldError.{FieldError}
use Rattle.ndn_tlv.specs.declared.order_table.FieldError.TheVariants.{Tlv, Critical}
use Rattle.ndn_tlv.specs.Listing.{gather, ◌>>=◌}
use Rattle.ndn_tlv.specs.Elements.{Item, elements}
use Rattle.ndn_tlv.specs.NumberField.{number_of}
use Rattle.ndn_name.specs.declared.name_fault.NameFault.{NameFault}
use Rattle.ndn_name.specs.Names.{Component, name_of}
use Rattle.svs_vector.specs.declared.vector_fault.VectorFault.{VectorFault}
use Rattle.svs_vector.specs.declared.vector_fault.VectorFault.TheVariants.{BadVector, NumberTooLarge, NoMemory}
use Rattle.svs_vector.specs.declared.entry.EntryField.{EntryField}
use Rattle.svs_vector.specs.declared.entry.EntryField.TheVariants as entry_field
use Rattle.svs_vector.specs.declared.read.VectorField.{VectorField}
use Rattle.svs_vector.specs.Format as format
use Rattle.svs_vector.specs.Format.{number_limit}
use Rattle.svs_vector.specs.Rosters.{has_same_octets, member_of}
use Rattle.svs_vector.specs.StateVector.{fault_in, EntrySoFar, entry_name, good_number, with_entry_field, entry_fields}
use Rattle.svs_vector.specs.StateVector.{both, entry_in, counted, with_vector_entry, vector_in, vector_among, vector_of}

-- ---- steps one after another

pub err_of_two : {A B E : Type 0} (P : E → Type 0) (r : Result A E) (f : A → Result B E) → IfErr r P
    → ((x : A) → IfErr (f x) P) → IfErr (r >>= f) P
err_of_two P (Ok x) f first second = second x
err_of_two P (Err e) f first second = first

err_of_all : {S A F E : Type 0} (P : E → Type 0) (take : S → A → Result S E) (named : F → E)
    → ((s : S) (x : A) → IfErr (take s x) P) → ((f : F) → P (named f)) → (s : S) (xs : List A) (fault : Option F)
    → IfErr (gather take named s xs fault) P
unfolding gather
err_of_all P take named each end s [] None = tt
err_of_all P take named each end s [] (Some f) = end f
err_of_all P take named each end s (x ∷ xs) fault =
    err_of_two P (take s x) (λ t. gather take named t xs fault) (each s x)
    (λ t. err_of_all P take named each end t xs fault)

-- ---- state vectors

module _ (roster : List (List Component)) (P : VectorFault → Type 0) (bad : (at : ℕ) → P (BadVector at))
    (large : (m n : ℕ) → m < length roster → P (NumberTooLarge m n)) where
  of_fields : (e : Item) (f : FieldError) → P (fault_in e f)
  of_fields e (Tlv f) = bad _
  of_fields e (Critical typ at) = bad at

  of_name : (e : Item) (r : Result (List Component) NameFault) → IfErr (entry_name e r) P
  of_name e (Ok name) = tt
  of_name e (Err f) = bad e.start

  of_number : (e : Item) (o : Option ℕ) → IfErr (good_number e o) P
  of_number e (Some n) = tt
  of_number e None = bad e.start

  of_entry_field : (s : EntrySoFar) (x : EntryField × Item) → IfErr (with_entry_field s x) P
  of_entry_field s (entry_field.Name, e) =
      err_of_two P (entry_name e (name_of e.value_start e.value)) (λ name. Ok (record s { name = Some name }))
      (of_name e (name_of e.value_start e.value)) (λ name. tt)
  of_entry_field s (entry_field.SeqNo, e) =
      err_of_two P (good_number e (number_of e.value)) (λ n. Ok (record s { number = Some n }))
      (of_number e (number_of e.value)) (λ n. tt)

  of_both : (e : Item) (name : Option (List Component)) (number : Option ℕ) → IfErr (both e name number) P
  of_both e (Some name) (Some n) = tt
  of_both e (Some name) None = bad e.start
  of_both e None n = bad e.start

  of_entry : (e : Item) → IfErr (entry_in e) P
  of_entry e =
      err_of_two P (entry_fields e) (λ s. both e s.name s.number)
      (err_of_all P with_entry_field (fault_in e) of_entry_field (of_fields e) _ _ _)
      (λ s. of_both e s.name s.number)

  of_count : (v : List ℕ) (n : ℕ) (name : List Component) → IfErr (counted v n (member_of name roster)) P
  of_count v n name = go (member_of name roster) refl where
    go : (o : Option ℕ) → member_of name roster ≡ o → IfErr (counted v n o) P
    go None is = tt
    go (Some m) is = tested (nat_lt number_limit n) where
      tested : (b : Bool) → IfErr (cond b (Err (NumberTooLarge m n)) (Ok (slice_set v m (max (slice_index v m) n)))) P
      tested true = large m n (position-Some (has_same_octets name) roster m [] is).0
      tested false = tt

  of_vector_entry : (v : List ℕ) (x : VectorField × Item) → IfErr (with_vector_entry roster v x) P
  of_vector_entry v x =
      err_of_two P (entry_in x.1) (λ entry. counted v entry.1 (member_of entry.0 roster)) (of_entry x.1)
      (λ entry. of_count v entry.1 entry.0)

  of_first : (es : List Item) → IfErr (vector_among es) P
  of_first [] = bad 0
  of_first (e ∷ es) = go (e.typ == format.StateVector) where
    go : (b : Bool) → IfErr (cond b (Ok e) (Err (BadVector 0))) P
    go true = tt
    go false = bad 0

  pub of_vector : (octets : List ℕ) → IfErr (vector_of roster octets) P
  of_vector octets =
      err_of_two P (vector_among (elements 0 octets).items) (vector_in roster) (of_first (elements 0 octets).items)
      (λ e. err_of_all P (with_vector_entry roster) (fault_in e) of_vector_entry (of_fields e) _ _ _)

-- No fault of octets is out of memory.
pub faults_of_octets : (roster : List (List Component)) (octets : List ℕ)
    → IfErr (vector_of roster octets) (λ fault. fault ≢ NoMemory)
faults_of_octets roster octets =
    of_vector roster (λ fault. fault ≢ NoMemory) (λ at e. absurd cc) (λ m n there e. absurd cc) octets
