-- What a mirror wants.
use Rattle.std.proofs.Common.{◌≡◌, ◌⊎◌, inl, inr, ℕ, ◌≤◌, Bool, true, false, List, Option, Some, None, is_some}
use Rattle.std.proofs.Common.{option_map, refl, sym, ap, ◌∙◌, arith}
use Rattle.std.specs.Prelude.{◌&&◌, ◌||◌, ◌==◌, not, nat_le, slice_index}
use Rattle.std.specs.Option.{option_and_then}
use Rattle.std.proofs.lemmas.Bool.{true≢false, and_parts, and_from, and_right, or_cases, or_left, or_right, or_parts}
use Rattle.std.proofs.lemmas.Bool.{or_from, false_from_ne_true, eqb-true, eq-eqb, leb-true}
use Rattle.sorted_lists.specs.SortedList.{contains, keys}
use Rattle.sorted_lists.proofs.Lookups.{there_value}
use Rattle.sorted_lists.proofs.Members.{in_all}
use Rattle.repo_plan.specs.declared.part.Part.{Part}
use Rattle.repo_plan.specs.declared.shape.Shape.{Shape}
use Rattle.repo_plan.specs.Parts.{pair_cmp, pair_of, record_of, parent, last_part}
use Rattle.repo_plan.specs.Plan.{holds, hides, shape_of, is_listed_part, may_be_asked_for, knows, is_wanted}
use Rattle.repo_plan.proofs.Orders.{exact_parts}
use Rattle.repo_plan.proofs.Changes.{wanted_parts}
use Rattle.repo_object.specs.Publication.{Listed, RecordSays, shape_stated}
use Rattle.repo_object.specs.Publication.RecordSays.{Lists, WithdrawsNumber}
use Rattle.repo_object.specs.Verdict.{stated_in}
use Rattle.repo_holdings.specs.Listed.{listed_shape, listing_at, listing_in, object_stated, stored_at}
use Rattle.repo_holdings.proofs.GainingLemmas.{contains-value}
use Rattle.group_model.specs.Sound.{IsKnown}
use Rattle.repo_mirror.specs.Asked.{asked_numbers}
use Rattle.repo_mirror.specs.Mirrors.{mirror_holds}
use Rattle.repo_mirror.proofs.Wants.{asked_known, known_asked}
use Rattle.repo_member.proofs.HolderTakes.{is_stored}
use Rattle.repo_mirror.specs.MirrorState.{MirrorState, fetch_plan}
use Rattle.repo_mirror.specs.PacketsFor.{IsPacketFor}
use Rattle.repo_mirror.specs.ConsistentMirrors.{mirror_in_group}
use Rattle.repo_mirror.specs.WantedAlone.{IsPartListed, IsWantedAlone, WantsThose}
use Rattle.repo_mirror.proofs.AcceptedLemmas.{record_accepted}
use Rattle.repo_mirror.proofs.ReachedLemmas.{IsReached, shape_is}

module _ (m : MirrorState) (r : IsReached m) (t : Part) where
  abbrev passed : Bool
  passed = contains pair_cmp m.passed (pair_of t)

  abbrev asked : Option Shape → Bool
  asked shape = is_listed_part (keys m.store) shape t

  -- ---- what the plan wants is to be wanted

  known_so : knows (fetch_plan m) (pair_of t) ≡ true
      → IsKnown (asked_numbers m.pattern.publisher 0 m.known) (pair_of t)
  known_so h =
      let last : ℕ = slice_index (asked_numbers m.pattern.publisher 0 m.known) t.publisher in
      let both = and_parts (nat_le 1 t.seq) (nat_le t.seq last) h in
      record { from_one = leb-true 1 t.seq both.0; to_known = leb-true t.seq last both.1 }

  abbrev counted : Listed → Bool
  counted l = nat_le t.part (last_part (listed_shape l)) && is_stored m.store (parent (listed_shape l) t)

  -- a part after an object's record
  listed_so : (octets : List ℕ) (l : Listed) → stored_at m.store (pair_of t) 0 ≡ Some octets
      → stated_in octets ≡ Some (Lists l) → (t.part == 0) ≡ false → asked (Some (listed_shape l)) ≡ true
      → IsPartListed m t
  listed_so octets l stored stated after h = elim (or_cases (t.part == 0) (counted l) h) [
    | inl zero ↦ absurd (true≢false (sym zero ∙ after))
    | inr both ↦
        let up : Part = parent (listed_shape l) t in
        let parts = and_parts (nat_le t.part (last_part (listed_shape l))) (is_stored m.store up) both in
        record {
          listing = l;
          listed = ap (option_and_then listing_in) stored ∙ ap (option_and_then object_stated) stated;
          from_one = positive t.part after;
          counted = leb-true t.part (last_part (listed_shape l)) parts.0;
          with_parent =
              or_left (is_stored m.store up) (up.part == 0 && contains pair_cmp m.passed (pair_of up)) parts.1;
          accepted =
              record_accepted m.pattern (pair_of t) octets l stated
              (in_all (IsPacketFor m.pattern) m.store (record_of t, octets) r.packets
              (there_value exact_parts m.store (record_of t) octets stored)).kept;
        }
  ] where
    positive : (x : ℕ) → (x == 0) ≡ false → 1 ≤ x
    positive x h = grind arith

  part_so : asked (shape_of (fetch_plan m) (pair_of t)) ≡ true → (t.part ≡ 0) ⊎ IsPartListed m t
  part_so h =
      stored (stored_at m.store (pair_of t) 0) refl (ap asked (sym (shape_is m (pair_of t) r.in_order)) ∙ h) where
        after : (octets : List ℕ) (l : Listed) → stored_at m.store (pair_of t) 0 ≡ Some octets
            → stated_in octets ≡ Some (Lists l) → asked (Some (listed_shape l)) ≡ true
            → (b : Bool) → (t.part == 0) ≡ b → (t.part ≡ 0) ⊎ IsPartListed m t
        after octets l p q k true e = inl (eqb-true t.part 0 e)
        after octets l p q k false e = inr (listed_so octets l p q e k)

        none_after : (b : Bool) → (t.part == 0) ≡ b
            → (b || (nat_le t.part 0 && is_stored m.store (parent (shape_stated (WithdrawsNumber 0)) t))) ≡ true
            → t.part ≡ 0
        none_after true e k = eqb-true t.part 0 e
        none_after false e k =
            let low = leb-true t.part 0
            (and_parts (nat_le t.part 0) (is_stored m.store (parent (shape_stated (WithdrawsNumber 0)) t)) k).0 in
            omega (arith, low)

        stated : (octets : List ℕ) → stored_at m.store (pair_of t) 0 ≡ Some octets
            → (s : Option RecordSays) → stated_in octets ≡ s → asked (option_map shape_stated s) ≡ true
            → (t.part ≡ 0) ⊎ IsPartListed m t
        stated octets p None q k = inl (eqb-true t.part 0 k)
        stated octets p (Some (Lists l)) q k = after octets l p q k (t.part == 0) refl
        stated octets p (Some (WithdrawsNumber seq)) q k = inl (none_after (t.part == 0) refl k)

        stored : (o : Option (List ℕ)) → stored_at m.store (pair_of t) 0 ≡ o
            → asked (option_map shape_stated (option_and_then stated_in o)) ≡ true → (t.part ≡ 0) ⊎ IsPartListed m t
        stored None p k = inl (eqb-true t.part 0 k)
        stored (Some octets) p k = stated octets p (stated_in octets) refl k

  wants_so : is_wanted (fetch_plan m) t ≡ true → IsWantedAlone m t
  wants_so h =
      let w = wanted_parts (fetch_plan m) t h in
      let both =
      and_parts (knows (fetch_plan m) (pair_of t)) (asked (shape_of (fetch_plan m) (pair_of t))) w.asked in
      let known = asked_known m.pattern.publisher m.known (pair_of t) (known_so both.0) in
      record {
        known = known.1;
        publisher = known.0;
        part = part_so both.1;
        not_held =
            or_from (is_stored m.store t) (t.part == 0 && passed) w.not_held
            (and_right (t.part == 0) passed w.not_hidden);
      }

  -- ---- what is to be wanted the plan wants

  -- what is held of a publication whose record is stored is stored
  held_stored : (u : Part) → contains pair_cmp m.passed (pair_of u) ≡ false
      → mirror_holds (mirror_in_group m) u ≡ true → is_stored m.store u ≡ true
  held_stored u free h =
      elim (or_cases (is_stored m.store u) (u.part == 0 && contains pair_cmp m.passed (pair_of u)) h) [
        | inl k ↦ k
        | inr p ↦
            absurd (true≢false (sym (and_parts (u.part == 0) (contains pair_cmp m.passed (pair_of u)) p).1 ∙ free))
      ]

  listing_stored : (l : Listed) → listing_at m.store (pair_of t) ≡ Some l → is_stored m.store (record_of t) ≡ true
  listing_stored l h = contains-value m.store (record_of t) ∙ go (stored_at m.store (pair_of t) 0) h where
    go : (o : Option (List ℕ)) → option_and_then listing_in o ≡ Some l → is_some o ≡ true
    go None k = absurd cc
    go (Some octets) k = refl

  listing_free : (l : Listed) → listing_at m.store (pair_of t) ≡ Some l → passed ≡ false
  listing_free l h =
      false_from_ne_true passed (λ p. true≢false (sym (listing_stored l h) ∙ r.gone (record_of t) p))

  not_hidden : IsWantedAlone m t → passed ≡ false
  not_hidden w = elim w.part [
    | inl zero ↦
        false_from_ne_true passed (λ p.
        true≢false
        (sym (and_from (t.part == 0) passed (eq-eqb t.part 0 zero) p)
        ∙ (or_parts (is_stored m.store t) (t.part == 0 && passed) w.not_held).1))
    | inr s ↦ listing_free s.listing s.listed
  ]

  asked_too : IsWantedAlone m t → asked (shape_of (fetch_plan m) (pair_of t)) ≡ true
  asked_too w = elim w.part [
    | inl zero ↦ record_asked (shape_of (fetch_plan m) (pair_of t)) zero
    | inr s ↦
        ap asked (shape_is m (pair_of t) r.in_order ∙ received s.listing s.listed)
        ∙ or_right (t.part == 0) (counted s.listing)
        (and_from (nat_le t.part (last_part (listed_shape s.listing)))
        (is_stored m.store (parent (listed_shape s.listing) t)) (below s.counted)
        (held_stored (parent (listed_shape s.listing) t) (listing_free s.listing s.listed) s.with_parent))
  ] where
    record_asked : (o : Option Shape) → t.part ≡ 0 → asked o ≡ true
    record_asked None zero = eq-eqb t.part 0 zero
    record_asked (Some shape) zero =
        or_left (t.part == 0) (nat_le t.part (last_part shape) && is_stored m.store (parent shape t))
        (eq-eqb t.part 0 zero)

    below : {n : ℕ} → t.part ≤ n → nat_le t.part n ≡ true
    below h = grind arith

    received : (l : Listed) → listing_at m.store (pair_of t) ≡ Some l
        → option_map shape_stated (option_and_then stated_in (stored_at m.store (pair_of t) 0)) ≡ Some (listed_shape l)
    received l h = stored (stored_at m.store (pair_of t) 0) h where
      stated : (s : Option RecordSays) → option_and_then object_stated s ≡ Some l
          → option_map shape_stated s ≡ Some (listed_shape l)
      stated None k = absurd cc
      stated (Some (Lists x)) k =
          let same : x ≡ l = cc in ap (λ (y : Listed). Some (listed_shape y)) same
      stated (Some (WithdrawsNumber seq)) k = absurd cc

      stored : (o : Option (List ℕ)) → option_and_then listing_in o ≡ Some l
          → option_map shape_stated (option_and_then stated_in o) ≡ Some (listed_shape l)
      stored None k = absurd cc
      stored (Some octets) k = stated (stated_in octets) k

  wanted_too : IsWantedAlone m t → is_wanted (fetch_plan m) t ≡ true
  wanted_too w =
      let known = known_asked m.pattern.publisher m.known (pair_of t) w.publisher w.known in
      let free = (or_parts (is_stored m.store t) (t.part == 0 && passed) w.not_held).0 in
      and_from (may_be_asked_for (fetch_plan m) t)
      (not (holds (fetch_plan m) t) && not (hides (fetch_plan m) (pair_of t)))
      (and_from (knows (fetch_plan m) (pair_of t)) (asked (shape_of (fetch_plan m) (pair_of t))) (knows_so known)
      (asked_too w))
      (and_from (not (holds (fetch_plan m) t)) (not (hides (fetch_plan m) (pair_of t))) (ap not free)
      (ap not (not_hidden w))) where
        knows_so : IsKnown (asked_numbers m.pattern.publisher 0 m.known) (pair_of t)
            → knows (fetch_plan m) (pair_of t) ≡ true
        knows_so k =
            let last : ℕ = slice_index (asked_numbers m.pattern.publisher 0 m.known) t.publisher in
            and_from (nat_le 1 t.seq) (nat_le t.seq last) (low 1 t.seq k.from_one) (low t.seq last k.to_known) where
              low : (a b : ℕ) → a ≤ b → nat_le a b ≡ true
              low a b h = grind arith

pub wants_those : (m : MirrorState) → IsReached m → WantsThose m
wants_those m r t = (wants_so m r t, wanted_too m r t)
