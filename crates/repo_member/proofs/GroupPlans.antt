-- The plan of a member by itself is its group's plan of it.
use Rattle.std.proofs.Common.{◌≡◌, inl, inr, Bool, true, false, cond, ◌==◌, List, [], ◌∷◌, map, Option, Some}
use Rattle.std.proofs.Common.{option_map, refl, sym, ap, ◌∙◌, subst, arith}
use Rattle.std.specs.Prelude.{filter, ◌↔◌}
use Rattle.std.proofs.lemmas.Bool.{eqb-true}
use Rattle.repo_plan.specs.declared.part.Part.{Part}
use Rattle.sorted_lists.specs.SortedList.{keys, contains}
use Rattle.repo_plan.specs.declared.shape.Shape.{Shape}
use Rattle.repo_plan.specs.Parts.{Pair, part_cmp, pair_of}
use Rattle.repo_plan.specs.Plan.{PlanState, wanted}
use Rattle.repo_plan.proofs.Orders.{exact_parts}
use Rattle.sorted_lists.proofs.Sets.{In, in_map, contains_in}
use Rattle.repo_object.specs.Verdict.{stated_in}
use Rattle.group_model.specs.Publications.{Logs, post_at, shape_at}
use Rattle.group_model.specs.Member.{held_shapes}
use Rattle.group_model.specs.Sound.{IsPublished}
use Rattle.group_model.specs.Wanted.{IsWantedPart}
use Rattle.group_model.proofs.Wants.{wants_those}
use Rattle.repo_holdings.specs.KeptValues.{with_kept, kept_values}
use Rattle.repo_holdings.specs.Records.{Packet, records_in}
use Rattle.repo_holdings.specs.Listed.{shapes_in}
use Rattle.repo_object.specs.Publication.{shape_stated}
use Rattle.repo_object.proofs.Publications.{shape_again}
use Rattle.repo_member.specs.Groups.{GroupKeys, publisher_at}
use Rattle.repo_member.specs.MemberState.{MemberState, member_plan}
use Rattle.repo_member.specs.InGroup.{AreLogs, StoresConsistently, published_packet, in_group, SoundStoresConsistently}
use Rattle.repo_member.specs.InGroup.{PlansAlike}
use Rattle.repo_member.specs.InGroup.{WantsAlike}
use Rattle.repo_member.proofs.FoundLemmas.{value_in}
use Rattle.repo_member.proofs.ConsistentPackets.{record_says, published_post, published_by, published_low}

pub sound_stores_consistently : SoundStoresConsistently
sound_stores_consistently g logs a s packets = record {
  in_order = s.in_order.held;
  published = λ t h.
      let known = (s.held t h).known in
      record { from_one = known.from_one; to_last = omega (arith, known.to_known, s.known t.publisher) };
  packets = packets;
}

-- ---- the plan

-- records that tell the shapes of what was published
shapes_alike : (logs : Logs) (es : List Packet)
    → ((e : Packet) → In e es → e.0.part ≡ 0
    → option_map shape_stated (stated_in e.1) ≡ Some (shape_at logs (pair_of e.0)))
    → shapes_in es ≡ held_shapes logs (keys es)
shapes_alike logs [] h = refl
shapes_alike logs (e ∷ es) h = go (e.0.part == 0) refl (shapes_alike logs es (λ x i. h x (inr i))) where
  go : (b : Bool) → (e.0.part == 0) ≡ b → shapes_in es ≡ held_shapes logs (keys es)
      → kept_values (λ pair octets. option_map shape_stated (stated_in octets))
      (cond b ((pair_of e.0, e.1) ∷ records_in es) (records_in es))
      ≡ map (λ (t : Part). (pair_of t, shape_at logs (pair_of t)))
      (cond b (e.0 ∷ filter (λ t. t.part == 0) (keys es)) (filter (λ t. t.part == 0) (keys es)))
  go true p rest =
      ap (λ (o : Option Shape). with_kept (pair_of e.0) o (shapes_in es)) (h e (inl refl) (eqb-true e.0.part 0 p))
      ∙ ap (λ (shapes : List (Pair × Shape)). (pair_of e.0, shape_at logs (pair_of e.0)) ∷ shapes) rest
  go false p rest = rest

module _ (g : GroupKeys) (logs : Logs) (a : MemberState) (are : AreLogs g logs)
    (consistent : StoresConsistently g logs a) where
  pub stored_published : (e : Packet) → In e a.store → IsPublished logs (pair_of e.0)
  stored_published e i =
      consistent.published e.0 (contains_in exact_parts (keys a.store) e.0 (in_map (λ (x : Packet). x.0) a.store e i))

  shapes_received : shapes_in a.store ≡ held_shapes logs (keys a.store)
  shapes_received = shapes_alike logs a.store (λ e i first.
      let there = stored_published e i in
      let publisher = publisher_at g e.0.publisher in
      let post = post_at logs (pair_of e.0) in
      let made : published_packet g logs e.0 ≡ Some e.1 =
      consistent.packets e.0 e.1 (value_in exact_parts a.store e consistent.in_order i) in
      let made_first = rw first at made in
      ap (option_map shape_stated)
      (record_says publisher e.0.seq post (published_by g logs are (pair_of e.0) there)
      (published_post g logs are (pair_of e.0) there) (published_low g logs are (pair_of e.0) there) e.1 made_first)
      ∙ ap (λ (shape : Shape). Some shape) (shape_again publisher e.0.seq post))

pub plans_alike : PlansAlike
plans_alike g logs a are consistent =
    ap (λ (shapes : List (Pair × Shape)). let p : PlanState = record (member_plan a) { shapes = shapes } in p)
    (shapes_received g logs a are consistent)

pub wants_alike : WantsAlike
wants_alike g logs a t are consistent records =
    subst (λ (p : PlanState). (contains part_cmp (wanted p) t ≡ true) ↔ IsWantedPart logs (in_group a) t)
    (sym (plans_alike g logs a are consistent)) (wants_those logs (in_group a) t records)
