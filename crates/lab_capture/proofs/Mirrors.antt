-- What mirrors of a consistent world store.
use Rattle.std.proofs.Common.{◌≡◌, ℕ, ◌<◌, Bool, true, false, cond, ◌&&◌, ◌==◌, List, length, map, Option, Some, None}
use Rattle.std.proofs.Common.{inl, inr, refl, sym, ap, subst, ◌∙◌}
use Rattle.std.specs.Prelude.{is_some}
use Rattle.std.proofs.lemmas.Bool.{and_from, and_parts, and_right, cases_Bool, or_left}
use Rattle.std.proofs.lemmas.List.{get_or-map}
use Rattle.sorted_lists.specs.SortedList.{Rises, contains, keys, value_of}
use Rattle.sorted_lists.proofs.SameSets.{same_sets}
use Rattle.sorted_lists.proofs.Sets.{contains-filter, rises_filter}
use Rattle.repo_plan.specs.declared.part.Part.{Part}
use Rattle.repo_plan.specs.Parts.{pair_cmp, pair_of, part_cmp}
use Rattle.repo_plan.specs.Plan.{holds}
use Rattle.repo_plan.proofs.Orders.{exact_parts}
use Rattle.group_model.specs.World.{logs}
use Rattle.group_model.specs.Publications.{all_parts, post_at}
use Rattle.group_model.specs.Sound.{IsPublished}
use Rattle.group_model.proofs.Members.{known_published}
use Rattle.group_model.proofs.PublicLaws.{all_parts_rise, parts_are_those}
use Rattle.repo_member.specs.InGroup.{published_packet}
use Rattle.repo_member.proofs.PublicLaws.{contains-value}
use Rattle.repo_mirror.specs.Asked.{is_for}
use Rattle.repo_mirror.specs.Mirrors.{mirror_holds}
use Rattle.repo_mirror.specs.MirrorState.{MirrorState, fetch_plan}
use Rattle.repo_mirror.specs.ConsistentMirrors.{IsConsistentMirror, mirror_in_group}
use Rattle.script_story.specs.Mirrors.{Mirroring, mirror_as, mirror_of, no_mirroring}
use Rattle.bench_world.specs.Worlds.{GroupState, IsConsistentState, logs_around, world_of}
use Rattle.bench_world.specs.MirrorSteps.{mirror_at, no_mirror}
use Rattle.bench_world.proofs.ClaimedPackets.{post_within}
use Rattle.lab_capture.specs.Held.{AreHeld}
use Rattle.lab_capture.specs.Frames.{mirror_packet, stored_by, stores}
use Rattle.lab_capture.proofs.Worlds.{few_parts}

module _ (s : GroupState) (is : IsConsistentState s) (i : ℕ) (there : i < length s.mirrors) where
  abbrev m : MirrorState
  m = mirror_at s.mirrors i

  consistent : IsConsistentMirror s.keys (logs_around s.members) m
  consistent = is.mirrors i no_mirror there

  pub mirror_is : mirror_of (map mirror_as s.mirrors) i ≡ mirror_as m
  mirror_is = get_or-map mirror_as s.mirrors i no_mirror no_mirroring there

  -- what it holds and didn't pass over it stores
  stores_is : (t : Part) → stores (world_of s) (mirror_as m) t ≡ contains part_cmp (keys m.store) t
  stores_is t = elim (cases_Bool (contains part_cmp (keys m.store) t)) [
    | inl kept ↦
        and_from (mirror_holds (mirror_in_group m) t) (is_for m.pattern (logs (world_of s)) (pair_of t))
        (or_left (contains part_cmp (keys m.store) t)
        (t.part == 0 && contains pair_cmp m.passed (pair_of t)) kept)
        (consistent.sound.kept t kept).accepted ∙ sym kept
    | inr other ↦ elim (cases_Bool (t.part == 0 && contains pair_cmp m.passed (pair_of t))) [
      | inl passed ↦
          let pair = (and_parts (t.part == 0) (contains pair_cmp m.passed (pair_of t)) passed).1 in
          and_right (mirror_holds (mirror_in_group m) t) (is_for m.pattern (logs (world_of s)) (pair_of t))
          (consistent.sound.passed (pair_of t) pair).not_accepted ∙ sym other
      | inr never ↦
          let none : mirror_holds (mirror_in_group m) t ≡ false = rw (other, never) refl in
          let kept = is_for m.pattern (logs (world_of s)) (pair_of t) in
          let not_stored : stores (world_of s) (mirror_as m) t ≡ false = ap (λ (b : Bool). b && kept) none in
          not_stored ∙ sym other
    ]
  ]

  in_order : Rises part_cmp (keys m.store)
  in_order = consistent.stored.in_order

  published : (t : Part) → contains part_cmp (keys m.store) t ≡ true
      → IsPublished (logs_around s.members) (pair_of t)
  published t kept = known_published (logs_around s.members) m.known (pair_of t) consistent.vector.no_more
      (consistent.sound.kept t kept).known

  pub stored_is : stored_by (world_of s) (mirror_as m) ≡ keys m.store
  stored_is =
      let all = all_parts (logs (world_of s)) in
      same_sets exact_parts (stored_by (world_of s) (mirror_as m)) (keys m.store)
      (rises_filter exact_parts.total (stores (world_of s) (mirror_as m)) all (all_parts_rise (logs (world_of s))))
      in_order (λ t.
      contains-filter exact_parts (stores (world_of s) (mirror_as m)) all t
      ∙ ap (λ (b : Bool). b && contains part_cmp all t) (stores_is t)
      ∙ both t (contains part_cmp (keys m.store) t) refl) where
        both : (t : Part) (b : Bool) → contains part_cmp (keys m.store) t ≡ b
            → (b && contains part_cmp (all_parts (logs (world_of s))) t) ≡ b
        both t true e = (parts_are_those (logs (world_of s)) t).1 (record {
          there = published t e;
          counted = (consistent.sound.kept t e).counted;
        })
        both t false e = refl

  pub stored_in_order : AreHeld (λ t. holds (fetch_plan m) t) (keys m.store)
  stored_in_order = record {
    in_order = in_order;
    same = λ t. refl;
    small = λ t kept. few_parts (post_at (logs_around s.members) (pair_of t)) t.seq t.part
        (post_within s.keys (logs_around s.members) is.are (pair_of t) (published t kept))
        (consistent.sound.kept t kept).counted;
  }

  pub packet_is : (t : Part)
      → value_of part_cmp m.store t ≡ mirror_packet s.keys (world_of s) (mirror_of (map mirror_as s.mirrors) i) t
  packet_is t =
      go (value_of part_cmp m.store t) refl
      ∙ ap (λ (b : Bool). cond b (published_packet s.keys (logs_around s.members) t) None) (sym stored)
      ∙ ap (λ (x : Mirroring). mirror_packet s.keys (world_of s) x t) (sym mirror_is) where
        stored : stores (world_of s) (mirror_as m) t ≡ is_some (value_of part_cmp m.store t)
        stored = stores_is t ∙ contains-value m.store t

        go : (x : Option (List ℕ)) → value_of part_cmp m.store t ≡ x
            → x ≡ cond (is_some x) (published_packet s.keys (logs_around s.members) t) None
        go None k = refl
        go (Some octets) k = sym (consistent.stored.packets t octets k)

  pub held_stored : keys m.store ≡ stored_by (world_of s) (mirror_of (map mirror_as s.mirrors) i)
  held_stored = sym stored_is ∙ ap (stored_by (world_of s)) (sym mirror_is)

  pub stored_are_held
      : AreHeld (λ t. holds (fetch_plan m) t) (stored_by (world_of s) (mirror_of (map mirror_as s.mirrors) i))
  stored_are_held = subst (AreHeld (λ t. holds (fetch_plan m) t)) held_stored stored_in_order
