-- What answers an Interest among what is held.
use Rattle.std.proofs.Common.{◌≡◌, ℕ, Bool, true, false, ◌⊎◌, inl, inr, List, [], ◌∷◌, ◌++◌, length, drop}
use Rattle.std.proofs.Common.{Option, Some, option_map, refl, sym, ap, subst, ◌∙◌}
use Rattle.std.specs.Prelude.{◌||◌, IsSome, IsTrue}
use Rattle.std.specs.List.{find, starts_with}
use Rattle.std.specs.Bool.{Decides, nat_eq}
use Rattle.std.specs.Cmp.{unsigned_Decides}
use Rattle.std.proofs.lemmas.Bool.{true≢false, and_from, and_parts, or_cases, or_left, or_right}
use Rattle.std.proofs.lemmas.Slice.Eq.{slice_eq-Decides, starts_is}
use Rattle.sha2.specs.Sha256.{sha256}
use Rattle.ndn_tlv.specs.Spelling.{element}
use Rattle.ndn_name.specs.Names.{Component, IsName, encoding, full_name}
use Rattle.ndn_name.specs.CanonicalOrder.{IsPrefix}
use Rattle.ndn_name.proofs.Encodings.{encoding-same}
use Rattle.ndn_name.proofs.Prefixes.{prefix-octets, prefix-encoding}
use Rattle.repo_store.proofs.NameLemmas.{satisfied, full-octets, octets-full}
use Rattle.repo_object.proofs.ReadNames.{name_of-read}
use Rattle.sorted_lists.specs.SortedList.{Rises, keys}
use Rattle.sorted_lists.specs.Members.{In}
use Rattle.sorted_lists.specs.Least.{Passes}
use Rattle.sorted_lists.proofs.Lookups.{find-revalued}
use Rattle.sorted_lists.proofs.Sets.{in_append}
use Rattle.sorted_lists.proofs.LeastOnes.{lesser_first, first_same, find_first, first_is_one}
use Rattle.repo_plan.specs.Parts.{part_cmp}
use Rattle.repo_plan.proofs.Orders.{exact_parts}
use Rattle.repo_store.specs.declared.names.Names.{Names}
use Rattle.repo_store.specs.Served.{satisfies}
use Rattle.repo_object.specs.Packets.{IsPacket, packet_name}
use Rattle.repo_store.specs.PacketTable.{Slots, at, octets_at, Stored, entries_of, PacketTableState}
use Rattle.repo_store.specs.Slots.{is_full_name, has_full_name, HeldIsSound}
use Rattle.repo_store.specs.Indexes.{name_of, asks, name_matches, held_part, lesser, IsFirstOf, satisfies_held}
use Rattle.repo_store.specs.NameLayers.{IsIndexOf, is_stored, is_stored_and_matches}
use Rattle.repo_store.proofs.NameLayerLemmas.{kept_held, held_kept}
use Rattle.repo_store.proofs.SlotLemmas.{octets_of}

-- in order of the parts, it is the first that passes
module _ (slots : Slots) (test : List ℕ → Bool) where
  abbrev passes : Stored → Bool
  passes h = test (octets_at slots h.1)

  pub found_is : (held : List Stored) (r : Option Stored) → Rises part_cmp (keys held) → IsFirstOf held passes r
      → option_map (λ e. e.1) (find (λ e. test e.1) (entries_of slots held))
      ≡ option_map (λ (h : Stored). octets_at slots h.1) r
  found_is held r rises first =
      find-revalued part_cmp (octets_at slots) test held
      ∙ ap (option_map (λ (h : Stored). octets_at slots h.1))
      (first_is_one exact_parts held passes (find passes held) r rises (find_first exact_parts passes held rises) first)

-- ---- what is first in the layers of names is first of what is held

module _ (k : PacketTableState) (asked : List ℕ) (p : Bool) (l : Names) (index : IsIndexOf k.slots k.held l) where
  abbrev test : Stored → Bool
  test = name_matches k.slots asked p

  abbrev InLayers : Stored → Type 0
  InLayers h =
      Passes l.settled.items test h ⊎ (Passes l.recent.items test h
      ⊎ Passes l.waiting.items (is_stored_and_matches k asked p) h)

  from_layers : (h : Stored) → InLayers h → Passes k.held test h
  from_layers h (inl s) = (index.settled h s.0, s.1)
  from_layers h (inr (inl r)) = (index.recent h r.0, r.1)
  from_layers h (inr (inr w)) =
      let both = and_parts (test h) (is_stored k.held h) w.1 in
      (kept_held k.held h both.1, both.0)

  to_layers : (h : Stored) → Passes k.held test h → InLayers h
  to_layers h q = elim (in_append l.settled.items (l.recent.items ++ l.waiting.items) h (index.all h q.0)) [
    | inl s ↦ inl (s, q.1)
    | inr b ↦ inr (elim (in_append l.recent.items l.waiting.items h b) [
      | inl r ↦ inl (r, q.1)
      | inr w ↦ inr (w, and_from (test h) (is_stored k.held h) q.1 (held_kept k.held h index.rises q.0))
    ])
  ]

  pub first_of_layers : (a b c : Option Stored) → IsFirstOf l.settled.items test a → IsFirstOf l.recent.items test b
      → IsFirstOf l.waiting.items (is_stored_and_matches k asked p) c → IsFirstOf k.held test (lesser a (lesser b c))
  first_of_layers a b c settled recent waiting =
      first_same exact_parts held_part InLayers (Passes k.held test) from_layers to_layers (lesser a (lesser b c))
      (lesser_first exact_parts held_part (Passes l.settled.items test)
      (λ h. Passes l.recent.items test h ⊎ Passes l.waiting.items (is_stored_and_matches k asked p) h) a (lesser b c)
      settled
      (lesser_first exact_parts held_part (Passes l.recent.items test)
      (Passes l.waiting.items (is_stored_and_matches k asked p)) b c recent waiting))

-- ---- what the tests of names say

-- the name of an Interest and a packet, with their octets
module _ (name : List Component) (asked octets : List ℕ) (packet : IsPacket octets) (is_name : IsName name)
    (spelled : asked ≡ encoding name) where
  own_is : packet_name octets ≡ encoding packet.packet.name
  own_is = name_of-read octets packet.packet packet.read

  -- the full name
  is_full : (is_full_name asked (Some octets) ≡ true → name ≡ full_name packet.packet.name (sha256 octets))
      × (name ≡ full_name packet.packet.name (sha256 octets) → is_full_name asked (Some octets) ≡ true)
  is_full =
      let own = packet.packet.name in
      let last = element 1 (sha256 octets) in
      let decides =
      slice_eq-Decides unsigned_Decides asked (packet_name octets ++ last) (is_full_name asked (Some octets)) refl in
      let named = ap (λ (x : List ℕ). x ++ last) own_is in (
        λ t. full-octets name own octets is_name packet.name (sym spelled ∙ decides.0 t ∙ named),
        λ full. decides.1 (spelled ∙ octets-full name own octets full ∙ sym named),
      )

  -- the name itself, or a prefix of it where that is asked for
  is_own : (p : Bool) → Decides (asks asked p (packet_name octets))
      ((name ≡ packet.packet.name) ⊎ (IsTrue p × IsPrefix name packet.packet.name))
  is_own true = (
    λ t.
        inr (
          refl,
          prefix-octets name packet.packet.name (drop (length asked) (packet_name octets)) is_name packet.name
              (sym own_is ∙ begins.0 t ∙ ap (λ (x : List ℕ). x ++ drop (length asked) (packet_name octets)) spelled),
        ),
    λ h. elim h [
      | inl a ↦ leading (subst (IsPrefix name) a (itself name))
      | inr f ↦ leading f.1
    ],
  )
    where
      begins : (starts_with nat_eq (packet_name octets) asked ≡ true
          → packet_name octets ≡ asked ++ drop (length asked) (packet_name octets))
          × ((rest : List ℕ) → packet_name octets ≡ asked ++ rest
          → starts_with nat_eq (packet_name octets) asked ≡ true)
      begins = starts_is unsigned_Decides (packet_name octets) asked _ refl

      itself : (a : List Component) → IsPrefix a a
      itself [] = refl
      itself (c ∷ a) = ap (λ (n : List Component). c ∷ n) (itself a)

      leading : IsPrefix name packet.packet.name → starts_with nat_eq (packet_name octets) asked ≡ true
      leading h =
          begins.1 (encoding (drop (length name) packet.packet.name))
          (own_is ∙ prefix-encoding name packet.packet.name h
          ∙ ap (λ (x : List ℕ). x ++ encoding (drop (length name) packet.packet.name)) (sym spelled))
  is_own false =
      let decides = slice_eq-Decides unsigned_Decides (packet_name octets) asked _ refl in (
        λ t. inl (encoding-same name packet.packet.name is_name packet.name
            (sym spelled ∙ sym (decides.0 t) ∙ own_is)),
        λ h. elim h [
          | inl e ↦ decides.1 (own_is ∙ sym (ap encoding e) ∙ sym spelled)
          | inr f ↦ absurd (true≢false (sym f.0))
        ],
      )

  pub test_asked : (p : Bool)
      → (asks asked p (packet_name octets) || is_full_name asked (Some octets)) ≡ satisfies name p octets
  test_asked p = satisfied name p octets packet.packet _ packet.read (
    λ t. elim (or_cases (asks asked p (packet_name octets)) (is_full_name asked (Some octets)) t) [
      | inl a ↦ elim ((is_own p).0 a) [ inl e ↦ inl e | inr f ↦ inr (inl f) ]
      | inr b ↦ inr (inr (is_full.0 b))
    ],
    λ h. elim h [
      | inl e ↦ or_left _ (is_full_name asked (Some octets)) ((is_own p).1 (inl e))
      | inr b ↦ elim b [
        | inl f ↦ or_left _ (is_full_name asked (Some octets)) ((is_own p).1 (inr f))
        | inr g ↦ or_right (asks asked p (packet_name octets)) _ (is_full.1 g)
      ]
    ],
  )

-- what has the name, or the full name, is what satisfies an Interest of the name
module _ (slots : Slots) (name : List Component) (asked : List ℕ) (is_name : IsName name)
    (spelled : asked ≡ encoding name)
  where
    test_asks : (p : Bool) (octets : List ℕ) (packet : IsPacket octets) (h : Stored) → at slots h.1 ≡ Some octets
        → (name_matches slots asked p h || has_full_name slots asked h) ≡ satisfies name p octets
    test_asks p octets packet h e =
        ap (λ (o : Option (List ℕ)). asks asked p (name_of o) || is_full_name asked o) e
        ∙ test_asked name asked octets packet is_name spelled p

    pub answer_found : (k : PacketTableState) (p : Bool) (a b : Option Stored) → slots ≡ k.slots → HeldIsSound k
        → IsFirstOf k.held (name_matches slots asked p) a → IsFirstOf k.held (has_full_name slots asked) b
        → IsFirstOf k.held (satisfies_held slots name p) (lesser a b)
    answer_found k p a b is sound named full =
        first_same exact_parts held_part
        (λ h. Passes k.held (name_matches slots asked p) h ⊎ Passes k.held (has_full_name slots asked) h)
        (Passes k.held (satisfies_held slots name p))
        (λ h e. elim e [
          | inl x ↦ (x.0, sym (agrees h x.0) ∙ or_left (name_matches slots asked p h) (has_full_name slots asked h) x.1)
          | inr y ↦ (
            y.0,
            sym (agrees h y.0)
                ∙ or_right (name_matches slots asked p h) (has_full_name slots asked h) y.1,
          )
        ])
        (λ h e. elim (or_cases (name_matches slots asked p h) (has_full_name slots asked h) (agrees h e.0 ∙ e.1)) [
          | inl x ↦ inl (e.0, x)
          | inr y ↦ inr (e.0, y)
        ]) (lesser a b)
        (lesser_first exact_parts held_part (Passes k.held (name_matches slots asked p))
        (Passes k.held (has_full_name slots asked)) a b named full)
      where
        agrees : (h : Stored) → In h k.held
            → (name_matches slots asked p h || has_full_name slots asked h) ≡ satisfies_held slots name p h
        agrees h i =
            let packet = subst (λ (s : Slots). IsPacket (octets_at s h.1)) (sym is) (sound.packets h i) in
            let some = subst (λ (s : Slots). IsSome (at s h.1)) (sym is) (sound.kept h i) in
            test_asks p (octets_at slots h.1) packet h (octets_of (at slots h.1) some)
