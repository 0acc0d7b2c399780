-- Slots: what is kept once, what is put, and what is dropped.
use Rattle.std.proofs.Common.{◌≡◌, ◌≢◌, ℕ, ◌+◌, Bool, true, false, ◌⊎◌, inl, inr, List, [], ◌∷◌, map}
use Rattle.std.proofs.Common.{Option, Some, None, refl, sym, ap, subst, ◌∙◌, arith}
use Rattle.std.specs.Prelude.{IsSome, unwrap_or, ◌==◌}
use Rattle.std.specs.Bool.{nat_eq}
use Rattle.std.specs.Cmp.{unsigned_Decides}
use Rattle.std.specs.Cmp.Lexicographic.{pointwise}
use Rattle.std.proofs.lemmas.Slice.Eq.{slice_eq-Decides}
use Rattle.std.proofs.lemmas.Bool.{true≢false, cases_eq, and_parts, and_from, eq-eqb}
use Rattle.sha2.specs.Sha256.{sha256}
use Rattle.slab.specs.Slab.{Slab, slab_len, HasRoomFor}
use Rattle.sorted_lists.specs.SortedList.{Rises, keys, with_value, without_key}
use Rattle.sorted_lists.specs.Members.{In, HaveSame}
use Rattle.sorted_lists.proofs.Sets.{in_map, from_map}
use Rattle.sorted_lists.proofs.MapChanges.{rises_without}
use Rattle.sorted_lists.proofs.RunOrder.{tri, lt_irrefl, in_without, without_in, unique}
use Rattle.sorted_lists.proofs.Members.{same_is, same_back, same_then, same_more, map_same, same_map}
use Rattle.sorted_lists.proofs.Lookups.{same_keys_with, in_keys_without, keys_without_in}
use Rattle.repo_plan.specs.declared.part.Part.{Part}
use Rattle.repo_plan.specs.Parts.{part_cmp}
use Rattle.repo_plan.proofs.Orders.{exact_parts}
use Rattle.repo_store.specs.declared.packet_table.Fingerprinted.{Fingerprinted}
use Rattle.repo_store.specs.declared.packet_table.Sought.{Sought}
use Rattle.repo_store.specs.declared.packet_table.PacketTable.TheInside.{Inside}
use Rattle.repo_object.specs.Packets.{IsPacket}
use Rattle.repo_store.specs.PacketTable.{fingerprint_of, Slots, at, octets_at, fingerprint_at, Stored, PacketTableState}
use Rattle.repo_store.specs.Slots.{IsHeldIn, AreSlots, KeepsOne, fingerprinted_cmp, fingerprinted, AreFingerprints}
use Rattle.repo_store.specs.Slots.{IsUsed, is_sought}
use Rattle.repo_store.specs.Slots.{is_sought_at, IsStoredIn, TableIsSound, HeldIsSound}
use Rattle.repo_store.specs.Indexes.{GainsOne, IsFirstOf}
use Rattle.repo_store.proofs.FingerprintLemmas.{exact_fingerprints, fingerprint_only}

pub some_or_none : (o : Option (List ℕ)) → IsSome o → o ≡ None → ⊥
some_or_none None h e = true≢false (sym h)
some_or_none (Some x) h e = absurd cc

some_as : (o p : Option (List ℕ)) → o ≡ p → IsSome p → IsSome o
some_as o p e h = subst IsSome (sym e) h

abbrev some_octets : List ℕ → Option (List ℕ)
some_octets o = Some o

some_same : (a b : List ℕ) → some_octets a ≡ some_octets b → a ≡ b
some_same a b e = cc

pub octets_of : (o : Option (List ℕ)) → IsSome o → o ≡ Some (unwrap_or o [])
octets_of None h = absurd (true≢false (sym h))
octets_of (Some x) h = refl

-- what is seen of the fields
abbrev pub seen : Inside → PacketTableState
seen k = record { slots = k.packets.slots; held = k.parts.entries; spare = k.spare }

pub sound_seen : (k : Inside) → TableIsSound k → HeldIsSound (seen k)
sound_seen k kept = record {
  rises = kept.in_order;
  kept = kept.slots.kept;
  packets = λ h i. kept.slots.named h.1 (octets_at k.packets.slots h.1)
      (octets_of (at k.packets.slots h.1) (kept.slots.kept h i));
}

-- slots that keep their packets
fingerprints_same : (old new : Slots) (held : List Stored) → ((h : Stored) → In h held → at new h.1 ≡ at old h.1)
    → map (fingerprinted old) held ≡ map (fingerprinted new) held
fingerprints_same old new held same = map_same (fingerprinted old) (fingerprinted new) held (λ h i.
    ap (λ (x : Option (List ℕ)).
    let f : Fingerprinted = record { fingerprint = fingerprint_of (sha256 (unwrap_or x [])); slot = h.1; part = h.0 } in
    f) (sym (same h i)))

-- ---- one more

pub keep_found : (slots : Slots) (held : List Stored) (octets : List ℕ) (slot : ℕ) → AreSlots slots held
    → at slots slot ≡ Some octets → KeepsOne octets slots slots slot
keep_found slots held octets slot are there = record {
  there = there;
  others = λ s h. refl;
  only = λ s h. inr h;
  once = λ s e. sym (are.different slot s (subst IsSome (sym there) refl) (there ∙ sym e));
}

pub keep_new : (old new : Slots) (held : List Stored) (octets : List ℕ) (slot : ℕ) → AreSlots old held
    → ((h : Stored) → In h held → at old h.1 ≢ Some octets) → at old slot ≡ None → at new slot ≡ Some octets
    → ((s : ℕ) → s ≢ slot → at new s ≡ at old s) → KeepsOne octets old new slot
keep_new old new held octets slot are none vacant there others = record {
  there = there;
  others = λ s h. others s (λ e. some_or_none (at old s) h (ap (at old) e ∙ vacant));
  only = λ s h. elim (cases_eq s slot) [
    | inl e ↦ inl e
    | inr n ↦ inr (some_as (at old s) (at new s) (sym (others s n)) h)
  ];
  once = λ s e.
      let by : IsHeldIn held s = are.used s (subst IsSome (sym e) refl) in
      absurd (none (by.by, s) by.there e);
}

-- the slot of octets that were looked for, or a new one
pub keeps_one : (held : List Stored) (fingerprint : ℕ) (sought : Sought) (octets : List ℕ) (found : Option Stored)
    (old new : Slab (List ℕ)) (slot : ℕ) → AreSlots old.slots held → fingerprint ≡ fingerprint_of (sha256 octets)
    → ((o : List ℕ) → is_sought sought o ≡ pointwise nat_eq o octets)
    → IsFirstOf held (is_sought_at old.slots fingerprint sought) found → IsStoredIn found octets old new slot
    → KeepsOne octets old.slots new.slots slot
keeps_one held fingerprint sought octets None old new slot are is seeks first kept =
    keep_new old.slots new.slots held octets slot are (λ h i e.
    first h (
      i,
      and_from (fingerprint_at old.slots h.1 == fingerprint) (is_sought sought (octets_at old.slots h.1))
          (eq-eqb (fingerprint_at old.slots h.1) fingerprint
          (ap (λ (o : Option (List ℕ)). fingerprint_of (sha256 (unwrap_or o []))) e ∙ sym is))
          (seeks (octets_at old.slots h.1)
          ∙ (slice_eq-Decides unsigned_Decides (octets_at old.slots h.1) octets _ refl).1
          (ap (λ (o : Option (List ℕ)). unwrap_or o []) e)),
    )) kept.0 kept.1.changed (λ s n. kept.1.others s n)
keeps_one held fingerprint sought octets (Some h) old new slot are is seeks first kept =
    let same =
    (slice_eq-Decides unsigned_Decides (octets_at old.slots h.1) octets _ refl).0
    (sym (seeks (octets_at old.slots h.1))
    ∙ (and_parts (fingerprint_at old.slots h.1 == fingerprint) (is_sought sought (octets_at old.slots h.1))
    first.there.1).1) in
    let there : at old.slots h.1 ≡ Some octets =
    octets_of (at old.slots h.1) (are.kept h first.there.0) ∙ ap (λ (o : List ℕ). some_octets o) same in
    subst (λ (s : ℕ). KeepsOne octets old.slots new.slots s) (sym kept.0)
    (subst (λ (n : Slab (List ℕ)). KeepsOne octets old.slots n.slots h.1) (sym kept.1)
    (keep_found old.slots held octets h.1 are there))

module _ (old new : Slots) (octets : List ℕ) (held more : List Stored) (h : Stored) (are : AreSlots old held)
    (keeps : KeepsOne octets old new h.1) (gains : GainsOne h held more) where
  among : (o : Stored) → In o more → (o ≡ h) ⊎ In o held
  among o i = gains.there o i

  pub slots_more : IsPacket octets → AreSlots new more
  slots_more packet = record {
    kept = λ o i. elim (among o i) [
      | inl e ↦ subst (λ (x : Stored). IsSome (at new x.1)) (sym e) (subst IsSome (sym keeps.there) refl)
      | inr j ↦ some_as (at new o.1) (at old o.1) (keeps.others o.1 (are.kept o j)) (are.kept o j)
    ];
    named = λ s x e. elim (keeps.only s (subst IsSome (sym e) refl)) [
      | inl own ↦ subst IsPacket (some_same octets x (sym keeps.there ∙ ap (at new) (sym own) ∙ e)) packet
      | inr j ↦ are.named s x (sym (keeps.others s j) ∙ e)
    ];
    used = λ s k. elim (keeps.only s k) [
      | inl own ↦
          record { by = h.0; there = subst (λ (x : ℕ). In (h.0, x) more) (sym own) (gains.back h (inl refl)) }
      | inr j ↦
          let by : IsHeldIn held s = are.used s j in
          record { by = by.by; there = gains.back (by.by, s) (inr by.there) }
    ];
    different = λ a b p e. elim (keeps.only a p) [
      | inl x ↦
          elim (keeps.only b (subst IsSome e p)) [
            | inl y ↦ x ∙ sym y
            | inr y ↦ x ∙ sym (keeps.once b (sym (keeps.others b y) ∙ sym e ∙ ap (at new) x ∙ keeps.there))
          ]
      | inr x ↦
          elim (keeps.only b (subst IsSome e p)) [
            | inl y ↦ keeps.once a (sym (keeps.others a x) ∙ e ∙ ap (at new) y ∙ keeps.there) ∙ sym y
            | inr y ↦ are.different a b x (sym (keeps.others a x) ∙ e ∙ keeps.others b y)
          ]
    ];
  }

  pub fingerprints_more : (fingerprint : ℕ) (fs : List (Fingerprinted × Unit {0})) → fingerprint
      ≡ fingerprint_of (sha256 octets)
      → AreFingerprints old held (keys fs)
      → AreFingerprints new more (keys (with_value fingerprinted_cmp
      (record { fingerprint = fingerprint; slot = h.1; part = h.0 }) tt fs))
  fingerprints_more fingerprint fs is fingerprints =
      same_then (same_keys_with exact_fingerprints own tt fs)
      (same_then (same_more own fingerprints)
      (same_then (same_is (own ∷ map (fingerprinted old) held) (map (fingerprinted new) (h ∷ held)) all)
      (same_back (same_map (fingerprinted new) gains)))) where
        own : Fingerprinted
        own = record { fingerprint = fingerprint; slot = h.1; part = h.0 }

        fingerprint_is : fingerprint ≡ fingerprint_at new h.1
        fingerprint_is = is ∙ sym (ap (λ (x : Option (List ℕ)). fingerprint_of (sha256 (unwrap_or x []))) keeps.there)

        all : own ∷ map (fingerprinted old) held ≡ fingerprinted new h ∷ map (fingerprinted new) held
        all =
            ap (λ (f : ℕ). record { fingerprint = f; slot = h.1; part = h.0 } ∷ map (fingerprinted old) held)
            fingerprint_is
            ∙ ap (λ (ks : List Fingerprinted). fingerprinted new h ∷ ks)
            (fingerprints_same old new held (λ o i. keeps.others o.1 (are.kept o i)))

-- ---- one less

-- one is gone, and no other of its part is there
pub record LosesOne (h : Stored) (old new : List Stored) : Type 0 where
  pub only : (o : Stored) → In o new → In o old × (o.0 ≢ h.0)
  pub kept : (o : Stored) → In o old → (o ≡ h) ⊎ In o new

pub loses_part : (held : List Stored) (h : Stored) → In h held → Rises part_cmp (keys held)
    → LosesOne h held (without_key part_cmp h.0 held)
loses_part held h there rises = record {
  only = λ o i. in_without exact_parts h.0 held rises o i;
  kept = λ o i. elim (tri exact_parts o.0 h.0) [
    | inl less ↦
        inr (stays o i (λ same. lt_irrefl exact_parts h.0 (ap (λ (t : Part). part_cmp t h.0) (sym same) ∙ less)))
    | inr more ↦ elim more [
      | inl same ↦ inl (unique exact_parts held rises o h i there same)
      | inr less ↦ inr (stays o i (λ same. lt_irrefl exact_parts h.0 (ap (part_cmp h.0) (sym same) ∙ less)))
    ]
  ];
}
  where
    stays : (o : Stored) → In o held → o.0 ≢ h.0 → In o (without_key part_cmp h.0 held)
    stays o i other = without_in exact_parts h.0 held o i other

module _ (old new : Slots) (held left : List Stored) (h : Stored) (are : AreSlots old held)
    (loses : LosesOne h held left) (same : (o : Stored) → In o left → at new o.1 ≡ at old o.1) where
  pub slots_less : ((s : ℕ) → IsSome (at new s) → at new s ≡ at old s) → (IsSome (at new h.1) → IsHeldIn left h.1)
      → AreSlots new left
  slots_less only still = record {
    kept = λ o i. some_as (at new o.1) (at old o.1) (same o i) (are.kept o (loses.only o i).0);
    named = λ s x e. are.named s x (sym (only s (subst IsSome (sym e) refl)) ∙ e);
    used = λ s k.
        let by : IsHeldIn held s = are.used s (subst IsSome (only s k) k) in
        elim (loses.kept (by.by, s) by.there) [
          | inl own ↦
              let at_slot : h.1 ≡ s = sym (ap (λ (o : Stored). o.1) own) in
              subst (IsHeldIn left) at_slot (still (subst (λ (n : ℕ). IsSome (at new n)) (sym at_slot) k))
          | inr j ↦ record { by = by.by; there = j }
        ];
    different = λ a b p e.
        are.different a b (subst IsSome (only a p) p) (sym (only a p) ∙ e ∙ only b (subst IsSome e p));
  }

  pub fingerprints_less : (fs : List (Fingerprinted × Unit {0})) → Rises fingerprinted_cmp (keys fs)
      → AreFingerprints old held (keys fs)
      → AreFingerprints new left (keys (without_key fingerprinted_cmp (fingerprinted old h) fs))
  fingerprints_less fs rises fingerprints =
      subst (HaveSame (keys (without_key fingerprinted_cmp (fingerprinted old h) fs)))
      (fingerprints_same old new left same) (record {
        there = λ k i.
            let was = in_keys_without exact_fingerprints (fingerprinted old h) fs k rises i in
            let e = from_map (fingerprinted old) held k (fingerprints.there k was.0) in
            subst (λ (x : Fingerprinted). In x (map (fingerprinted old) left)) (sym e.2) (elim (loses.kept e.0 e.1) [
              | inl own ↦ absurd (was.1 (e.2 ∙ ap (fingerprinted old) own))
              | inr j ↦ in_map (fingerprinted old) left e.0 j
            ]);
        back = λ k i.
            let e = from_map (fingerprinted old) left k i in
            let o = loses.only e.0 e.1 in
            keys_without_in exact_fingerprints (fingerprinted old h) fs k
            (λ own. o.1 (ap (λ (x : Fingerprinted). x.part) (sym e.2 ∙ own)))
            (fingerprints.back k (subst (λ (x : Fingerprinted). In x (map (fingerprinted old) held)) (sym e.2)
            (in_map (fingerprinted old) held e.0 o.0)));
      })

-- a removal takes no room
pub room_kept : (old new : Slab (List ℕ)) → slab_len new + 1 ≡ slab_len old → new.capacity ≡ old.capacity → (n : ℕ)
    → HasRoomFor old n → HasRoomFor new n
room_kept old new len capacity n h = omega arith

-- what is left where a part goes
pub record PartGone (old new : Slots) (left : List Stored) (after : List (Fingerprinted × Unit {0})) : Type 0 where
  pub in_order : Rises part_cmp (keys left)
  pub fingerprints_in_order : Rises fingerprinted_cmp (keys after)
  pub slots : AreSlots new left
  pub fingerprints : AreFingerprints new left (keys after)
  pub same : (o : Stored) → In o left → at new o.1 ≡ at old o.1

module _ (k : Inside) (kept : TableIsSound k) (h : Stored) (there : In h k.parts.entries) where
  abbrev old : Slots
  old = k.packets.slots

  abbrev left : List Stored
  left = without_key part_cmp h.0 k.parts.entries

  abbrev fingerprints_left : List (Fingerprinted × Unit {0})
  fingerprints_left = without_key fingerprinted_cmp (fingerprinted old h) k.fingerprints.entries

  part_gone : (new : Slots) → ((o : Stored) → In o left → at new o.1 ≡ at old o.1)
      → ((s : ℕ) → IsSome (at new s) → at new s ≡ at old s) → (IsSome (at new h.1) → IsHeldIn left h.1)
      → PartGone old new left fingerprints_left
  part_gone new same only still =
      let loses = loses_part k.parts.entries h there kept.in_order in
      record {
        in_order = rises_without exact_parts.total h.0 k.parts.entries kept.in_order;
        fingerprints_in_order = rises_without exact_fingerprints.total (fingerprinted old h) k.fingerprints.entries
            kept.fingerprints_in_order;
        slots = slots_less old new k.parts.entries left h kept.slots loses same only still;
        fingerprints =
            fingerprints_less old new k.parts.entries left h kept.slots loses same k.fingerprints.entries
            kept.fingerprints_in_order
            kept.fingerprints;
        same = same;
      }

  still_fingerprints : AreFingerprints old left (keys fingerprints_left)
  still_fingerprints =
      fingerprints_less old old k.parts.entries left h kept.slots (loses_part k.parts.entries h there kept.in_order)
      (λ o i. refl) k.fingerprints.entries kept.fingerprints_in_order kept.fingerprints

  part_used : IsUsed (keys fingerprints_left) (fingerprint_at old h.1) h.1 true
      → PartGone old old left fingerprints_left
  part_used used = part_gone old (λ o i. refl) (λ s j. refl)
      (λ j. record {
        by = used.0;
        there = (fingerprint_only old left (keys fingerprints_left) _ still_fingerprints
            used.1).0;
      })

  part_unused : (new : Slots) → IsUsed (keys fingerprints_left) (fingerprint_at old h.1) h.1 false → at new h.1 ≡ None
      → ((s : ℕ) → s ≢ h.1 → at new s ≡ at old s) → PartGone old new left fingerprints_left
  part_unused new unused vacant others =
      part_gone new same (λ s j. others s (apart s j)) (λ j. absurd (apart h.1 j refl)) where
        apart : (s : ℕ) → IsSome (at new s) → s ≢ h.1
        apart s j e = some_or_none (at new s) j (ap (at new) e ∙ vacant)

        same : (o : Stored) → In o left → at new o.1 ≡ at old o.1
        same o i = others o.1 (λ e.
            unused o.0
            (subst (λ (s : ℕ). In (record { fingerprint = fingerprint_at old s; slot = s; part = o.0 })
            (keys fingerprints_left)) e
            (still_fingerprints.back (fingerprinted old o) (in_map (fingerprinted old) left o i))))

  -- the same of lists and a fingerprint that are these
  module _ (fingerprint : ℕ) (gone : List Stored) (after : List (Fingerprinted × Unit {0}))
      (is : fingerprint ≡ fingerprint_at old h.1)
      (parts : gone ≡ left) (others : after
      ≡ without_key fingerprinted_cmp (record { fingerprint = fingerprint; slot = h.1; part = h.0 })
      k.fingerprints.entries) where
    these : after ≡ fingerprints_left
    these =
        others
        ∙ ap (λ (f : ℕ). without_key fingerprinted_cmp (record { fingerprint = f; slot = h.1; part = h.0 })
        k.fingerprints.entries) is

    as_used : (b : Bool) → IsUsed (keys after) fingerprint h.1 b
        → IsUsed (keys fingerprints_left) (fingerprint_at old h.1) h.1 b
    as_used b used =
        subst (λ (f : ℕ). IsUsed (keys fingerprints_left) f h.1 b) is
        (subst (λ (es : List (Fingerprinted × Unit {0})). IsUsed (keys es) fingerprint h.1 b) these used)

    pub used_gone : IsUsed (keys after) fingerprint h.1 true → PartGone old old gone after
    used_gone used = rw parts (rw these (part_used (as_used true used)))

    pub unused_gone : (new : Slots) → IsUsed (keys after) fingerprint h.1 false → at new h.1 ≡ None
        → ((s : ℕ) → s ≢ h.1 → at new s ≡ at old s) → PartGone old new gone after
    unused_gone new unused vacant rest = rw parts (rw these (part_unused new (as_used false unused) vacant rest))
