-- A member that gathers as long as someone holds what it wants has what a settle makes of it.
use Rattle.std.proofs.Common.{◌≡◌, ◌≢◌, ◌⊎◌, inl, inr, ℕ, ◌≤◌, ◌<◌, true, false, ◌||◌, List, length, get_or, refl, sym}
use Rattle.std.proofs.Common.{ap, ◌∙◌, subst, arith}
use Rattle.std.proofs.lemmas.Bool.{true≢false, or_cases, or_left, or_right, cases_Bool, cases_eq}
use Rattle.repo_plan.specs.declared.part.Part.{Part}
use Rattle.sorted_lists.specs.SortedList.{contains}
use Rattle.repo_plan.specs.Parts.{Pair, part_cmp, pair_of, part_of, record_of, parent}
use Rattle.repo_object.specs.Objects.{contents_of}
use Rattle.repo_plan.proofs.Orders.{exact_parts}
use Rattle.sorted_lists.proofs.Sets.{In, in_filter, contains_in, in_contains}
use Rattle.sorted_lists.proofs.Members.{in_at, in_filtered}
use Rattle.group_model.specs.Publications.{all_parts, shape_at, post_at}
use Rattle.group_model.specs.Member.{Member, member_holds, has_deleted, insert_keys}
use Rattle.group_model.specs.World.{World, member, logs, someone_holds}
use Rattle.group_model.specs.Steps.{settled_vector, settled_member, is_gained, new_parts}
use Rattle.group_model.specs.Sound.{IsSoundGroup, IsSoundMember, IsKnown, IsPublishedPart}
use Rattle.group_model.specs.Reached.{InSoundGroups}
use Rattle.group_model.specs.Settles.{learnt_member, IsGathering, HasFetchedAll, GatheringSettles}
use Rattle.group_model.proofs.Lists.{contains-insert_keys, rises_insert_keys}
use Rattle.group_model.proofs.Parts.{from_all_parts}
use Rattle.group_model.proofs.Plans.{IsWanted, wanted_from}
use Rattle.group_model.proofs.Members.{known_published}
use Rattle.group_model.proofs.Settles.{IsGained, comes, comes_from, someone, someone_lists}
use Rattle.group_model.proofs.Parents.{parent_within, parent_of_parent}
use Rattle.group_model.proofs.Among.{in_all_parts}
use Rattle.group_model.proofs.SortedSets.{same_members}

module _ (w : World) (j : ℕ) (new : Member) (within : j < length w.members) (group : IsSoundGroup w)
    (sound : IsSoundMember (logs w) j new) (gathering : IsGathering w (member w j) new)
    (gathered : HasFetchedAll w new) where
  abbrev m : Member
  m = member w j

  known_is : new.known ≡ settled_vector w
  known_is = ap (λ (x : Member). x.known) gathering.same

  deletes_same : (pair : Pair) → has_deleted new pair ≡ has_deleted m pair
  deletes_same pair = ap (λ (x : Member). has_deleted x pair) gathering.same

  -- no member holds a part that the member `new` wants
  nobody_holds : (t : Part) → IsWanted (logs w) new t → someone_holds w.members t ≡ true → ⊥
  nobody_holds t wanted holds = true≢false (sym holds ∙ gathered t (wanted_from (logs w) new t wanted))

  knows_it : (t : Part) → In t (all_parts (logs w)) → IsGained w m t → IsKnown new.known (pair_of t)
  knows_it t i c = record {
    from_one = (from_all_parts (logs w) t i).there.from_one;
    to_known = subst (λ (v : List ℕ). t.seq ≤ get_or v t.publisher 0) (sym known_is) c.received;
  }

  not_hidden : (t : Part) → IsGained w m t → has_deleted new (pair_of t) ≡ false
  not_hidden t c = deletes_same (pair_of t) ∙ c.not_hidden

  -- a part that is gained in a settle is held, its record first
  has_record : (t : Part) → In t (all_parts (logs w)) → IsGained w m t → member_holds new (record_of t) ≡ true
  has_record t i c = elim (cases_Bool (member_holds new (record_of t))) [
    | inl on ↦ on
    | inr off ↦
        absurd (nobody_holds (record_of t) (record {
          known = knows_it t i c;
          counted = omega arith;
          with_record = inl refl;
          not_held = off;
          not_hidden = not_hidden t c;
        }) c.record_too)
  ]

  has_parent : (t : Part) → In t (all_parts (logs w)) → IsGained w m t
      → member_holds new (parent (shape_at (logs w) (pair_of t)) t) ≡ true
  has_parent t i c = go (cases_eq (parent (shape_at (logs w) (pair_of t)) t).part 0) where
    listed : Part
    listed = parent (shape_at (logs w) (pair_of t)) t

    go : (listed.part ≡ 0) ⊎ (listed.part ≢ 0) → member_holds new listed ≡ true
    go (inl e) = ap (λ (n : ℕ). member_holds new (part_of (pair_of t) n)) e ∙ has_record t i c
    go (inr e) = elim (cases_Bool (member_holds new listed)) [
      | inl on ↦ on
      | inr off ↦
          absurd (nobody_holds listed (record {
            known = knows_it t i c;
            counted =
                parent_within (length (contents_of (post_at (logs w) (pair_of t)))) t.part
                (from_all_parts (logs w) t i).counted;
            with_record = inr (record {
              with_record = has_record t i c;
              with_parent =
                  ap (λ (n : ℕ). member_holds new (part_of (pair_of t) n))
                  (parent_of_parent (length (contents_of (post_at (logs w) (pair_of t)))) t.part
                  (from_all_parts (logs w) t i).counted)
                  ∙ has_record t i c;
            });
            not_held = off;
            not_hidden = not_hidden t c;
          }) (someone_lists w group t c.someones))
    ]

  has_it : (t : Part) → In t (all_parts (logs w)) → IsGained w m t → member_holds new t ≡ true
  has_it t i c = elim (cases_Bool (member_holds new t)) [
    | inl on ↦ on
    | inr off ↦
        absurd (nobody_holds t (record {
          known = knows_it t i c;
          counted = (from_all_parts (logs w) t i).counted;
          with_record = inr (record { with_record = has_record t i c; with_parent = has_parent t i c });
          not_held = off;
          not_hidden = not_hidden t c;
        }) c.someones)
  ]

  someone_has : (t : Part) → member_holds new t ≡ true → someone_holds w.members t ≡ true
  someone_has t h =
      elim (gathering.came t h) [ inl was ↦ someone w.members m t (in_at w.members j _ within) was | inr holds ↦ holds ]

  there_is : (t : Part) → member_holds new t ≡ true → IsPublishedPart (logs w) t
  there_is t h =
      let held = sound.held t h in
      record { there = known_published (logs w) new.known (pair_of t) sound.known held.known; counted = held.counted }

  -- a part that is held newly is gained in a settle
  comes_new : (t : Part) → member_holds new t ≡ true → member_holds m t ≡ false → is_gained w m t ≡ true
  comes_new t h fresh =
      let held = sound.held t h in
      comes_from w m t (record {
        received = subst (λ (v : List ℕ). t.seq ≤ get_or v t.publisher 0) known_is held.known.to_known;
        not_hidden = elim (cases_Bool (has_deleted m (pair_of t))) [
          | inl on ↦
              absurd (true≢false (sym h ∙ (sound.hidden (pair_of t) (deletes_same (pair_of t) ∙ on)).none_held t.part))
          | inr off ↦ off
        ];
        someones = someone_has t h;
        record_too = someone_has (record_of t) held.with_record;
        fresh = fresh;
      })

  there : (t : Part) → member_holds new t ≡ true → (contains part_cmp (new_parts w m) t || member_holds m t) ≡ true
  there t h = elim (cases_Bool (member_holds m t)) [
    | inl was ↦ or_right (contains part_cmp (new_parts w m) t) (member_holds m t) was
    | inr free ↦ or_left (contains part_cmp (new_parts w m) t) (member_holds m t)
        (contains_in exact_parts (new_parts w m) t
        (in_filter (is_gained w m) (all_parts (logs w)) t (in_all_parts (logs w) t (there_is t h))
        (comes_new t h free)))
  ]

  back : (t : Part) → (contains part_cmp (new_parts w m) t || member_holds m t) ≡ true → member_holds new t ≡ true
  back t h = elim (or_cases (contains part_cmp (new_parts w m) t) (member_holds m t) h) [
    | inl fresh ↦
        let r : In t (all_parts (logs w)) × (is_gained w m t ≡ true) =
        in_filtered (is_gained w m) (all_parts (logs w)) t (in_contains exact_parts (new_parts w m) t fresh) in
        has_it t r.0 (comes w m t r.1)
    | inr was ↦ gathering.kept t was
  ]

  held_is : new.held ≡ insert_keys (new_parts w m) m.held
  held_is =
      same_members exact_parts new.held (insert_keys (new_parts w m) m.held) sound.in_order.held
      (rises_insert_keys (new_parts w m) m.held (group.members j within).in_order.held)
      (λ t. elim (cases_Bool (member_holds new t)) [
        | inl on ↦ on ∙ sym (contains-insert_keys (new_parts w m) m.held t ∙ there t on)
        | inr off ↦ off ∙ sym (contains-insert_keys (new_parts w m) m.held t ∙ none t off)
      ]) where
        none : (t : Part) → member_holds new t ≡ false
            → (contains part_cmp (new_parts w m) t || member_holds m t) ≡ false
        none t off = elim (cases_Bool (contains part_cmp (new_parts w m) t || member_holds m t)) [
          | inl on ↦ absurd (true≢false (sym (back t on) ∙ off))
          | inr free ↦ free
        ]

  pub gathered_member : new ≡ settled_member w m
  gathered_member =
      gathering.same
      ∙ ap (λ (held : List Part). let x : Member = record (learnt_member w m) { held = held } in x) held_is

pub gathering_settles : InSoundGroups GatheringSettles
gathering_settles env w group j new within sound gathering gathered =
    gathered_member w j new within group sound gathering gathered
