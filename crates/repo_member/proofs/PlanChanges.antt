-- What each change of a member makes of its plan, and that the plan stays sound.
use Rattle.std.proofs.Common.{◌≡◌, inl, inr, ℕ, ◌+◌, ◌-◌, ◌^◌, ◌≤◌, Bool, true, false, cond, ◌==◌, List, [], ◌∷◌}
use Rattle.std.proofs.Common.{length, Option, Some, None, option_map, is_some, refl, sym, ap, ◌∙◌, subst, arith}
use Rattle.std.specs.Prelude.{slice_index, IfSome}
use Rattle.std.proofs.lemmas.Bool.{cases_lt}
use Rattle.std.proofs.lemmas.List.{get_or_past}
use Rattle.repo_plan.specs.declared.part.Part.{Part}
use Rattle.repo_plan.specs.declared.shape.Shape.{Shape}
use Rattle.sorted_lists.specs.SortedList.{insert_key, with_value}
use Rattle.repo_plan.specs.Parts.{Pair, IsShape, part_cmp, pair_of, part_of, last_part}
use Rattle.repo_plan.specs.Plan.{PlanState, holds, after_hold, with_shape, uses_room, may_be_asked_for, attempts_of}
use Rattle.repo_plan.specs.Sound.{PlanIsSound, CanBeHeld}
use Rattle.repo_plan.proofs.Changes.{Keeps, IsWanted, wanted_parts, wanted_from, asked_kept, same_holdings, sound_room}
use Rattle.repo_plan.proofs.Changes.{sound_holds, sound_attempts}
use Rattle.repo_object.specs.Publication.{Listed, RecordSays}
use Rattle.repo_object.specs.Verdict.{stated_in}
use Rattle.repo_store.specs.StoreList.{with_packet}
use Rattle.group_model.specs.Member.{with_tries}
use Rattle.repo_holdings.specs.declared.record_summary.RecordSummary.{RecordSummary}
use Rattle.repo_object.specs.Publication.{shape_stated}
use Rattle.repo_holdings.specs.StoredParents.{lists_at, ListsAsMany}
use Rattle.repo_holdings.specs.Gaining.{PlanFits, summary_shape, shape_in_summary}
use Rattle.repo_holdings.specs.NewPublications.{as_parts, with_packets, IsNew}
use Rattle.repo_holdings.proofs.GainingLemmas.{stated_shape_is, tied_too, others_kept}
use Rattle.repo_holdings.proofs.AskedLemmas.{stated_sized}
use Rattle.repo_holdings.proofs.PublishLemmas.{HasGained, AreRemaining, stated_first, can_ask, not_hidden, not_claimed}
use Rattle.repo_holdings.proofs.PublishLemmas.{gained_more, reports_shape, lists_many, come_later}
use Rattle.repo_member.specs.MemberState.{MemberState, member_plan}
use Rattle.repo_member.proofs.MemberLemmas.{knows_more}

-- ---- numbers that grow

keeps_known : (p : PlanState) (known : List ℕ) → ((q : ℕ) → slice_index p.known q ≤ slice_index known q)
    → Keeps p (record p { known = known })
keeps_known p known more = record {
  knows = λ pair h. knows_more p (record p { known = known }) pair more h;
  held = λ t h. h;
  shapes = λ pair shape h. h;
}

pub sound_known : (p : PlanState) (known : List ℕ) → length known ≤ 2 ^ 32
    → ((q : ℕ) → slice_index p.known q ≤ slice_index known q) → PlanIsSound p → PlanIsSound (record p { known = known })
sound_known p known few more s = record {
  in_order = record {
    held = s.in_order.held;
    shapes = s.in_order.shapes;
    hidden = s.in_order.hidden;
    attempts = s.in_order.attempts;
  };
  publishers = λ q h. elim (cases_lt q (length known)) [
    | inl inside ↦ omega (arith, inside, few)
    | inr past ↦ absurd (omega (arith, h, get_or_past known q 0 past))
  ];
  fetchers = s.fetchers;
  held = λ t h. record {
    asked = asked_kept p (record p { known = known }) t (keeps_known p known more) (s.held t h).asked;
    with_record = (s.held t h).with_record;
  };
  shapes = s.shapes;
  sized = s.sized;
  hidden = s.hidden;
  tried = s.tried;
  claimed = λ f t h.
      let w : IsWanted p t = wanted_parts p t (s.claimed f t h) in
      wanted_from (record p { known = known }) t (record {
        asked = asked_kept p (record p { known = known }) t (keeps_known p known more) w.asked;
        not_held = w.not_held;
        not_hidden = w.not_hidden;
      });
  apart = s.apart;
}

-- ---- a part that is received

-- the member stores this packet too
abbrev pub gains : Part → List ℕ → MemberState → MemberState
gains t octets a = record a { store = with_packet t octets a.store }

-- what is reported is one that a record may tell
received_is_shape : (t : Part) (octets : List ℕ) → IfSome (shape_in_summary t octets) IsShape
received_is_shape t octets =
    subst (λ (o : Option Shape). IfSome o IsShape) (sym (stated_shape_is t octets))
    (go (t.part == 0) (stated_in octets) refl) where
      go : (b : Bool) (o : Option RecordSays) → stated_in octets ≡ o
          → IfSome (cond b (option_map shape_stated o) None) IsShape
      go true None p = tt
      go true (Some says) p = stated_sized octets says p
      go false o p = tt

module _ (a : MemberState) (t : Part) (octets : List ℕ) (tied : PlanFits (member_plan a) a.store)
    (fresh : holds (member_plan a) t ≡ false) (asked : may_be_asked_for (member_plan a) t ≡ true)
    (received : is_some (shape_in_summary t octets) ≡ (t.part == 0))
    (lists : ListsAsMany octets (lists_at a.store t)) where
  all_tied : PlanFits (after_hold t (shape_in_summary t octets) (member_plan a)) (with_packet t octets a.store)
  all_tied = tied_too (member_plan a) a.store t octets (shape_in_summary t octets) tied fresh asked received refl lists

  pub plan_gained : member_plan (gains t octets a)
      ≡ uses_room (after_hold t (shape_in_summary t octets) (member_plan a))
  plan_gained =
      let others = others_kept t (shape_in_summary t octets) (member_plan a) in
      same_holdings (member_plan (gains t octets a))
      (uses_room (after_hold t (shape_in_summary t octets) (member_plan a)))
      (sym others.known) (sym all_tied.held) (sym all_tied.shapes) (sym others.claims) (sym others.hidden)
      (sym others.attempts) (spare_gained (holds (member_plan a) t)) where
        spare_gained : (b : Bool)
            → 0
            ≡ (uses_room (cond b (member_plan a) (record (member_plan a) {
              held = insert_key part_cmp t (member_plan a).held;
              shapes = with_shape (pair_of t) (shape_in_summary t octets) (member_plan a).shapes;
            }))).spare
        spare_gained true = refl
        spare_gained false = refl

  pub tied_gained : PlanFits (member_plan (gains t octets a)) (with_packet t octets a.store)
  tied_gained = record {
    in_order = all_tied.in_order;
    held = refl;
    shapes = refl;
    recorded = all_tied.recorded;
    indexed = all_tied.indexed;
  }

  pub sound_gained : CanBeHeld (member_plan a) t → PlanIsSound (member_plan a)
      → PlanIsSound (member_plan (gains t octets a))
  sound_gained can s =
      let p = after_hold t (shape_in_summary t octets) (member_plan a) in
      subst PlanIsSound (sym plan_gained)
      (sound_room (p.spare - 1) p
      (sound_holds t (shape_in_summary t octets) (member_plan a) received (received_is_shape t octets) can s))

-- ---- attempts

pub sound_tried : (a : MemberState) (t : Part) (n : ℕ) → PlanIsSound (member_plan a)
    → PlanIsSound (member_plan (record a { attempts = with_tries t n a.attempts }))
sound_tried a t n s = subst PlanIsSound (go (n == 0)) (sound_attempts t n (member_plan a) s) where
  more : List (Part × ℕ)
  more = with_value part_cmp t (attempts_of (member_plan a) t + n) a.attempts

  go : (b : Bool)
      → cond b (member_plan a) (record (member_plan a) { attempts = more })
      ≡ member_plan (record a { attempts = cond b a.attempts more })
  go true = refl
  go false = refl

-- ---- the parts of a new publication

first_reported : (shape : Shape) (x : ℕ) → is_some (stated_first shape x) ≡ (x == 0)
first_reported shape x = go (x == 0) where
  go : (b : Bool) → is_some (cond b (Some shape) None) ≡ b
  go true = refl
  go false = refl

-- they leave a sound plan, of what is stored
pub sound_puts : (start : PlanState) (pair : Pair) (received : RecordSummary) (l : Option Listed)
    → IsShape (summary_shape received)
    → IsNew start pair
    → (x : ℕ) (made : List (List ℕ)) (a : MemberState) → x + length made ≡ last_part (summary_shape received) + 1
    → AreRemaining received l pair x made a.store → PlanFits (member_plan a) a.store
    → HasGained start (member_plan a) pair (summary_shape received) x → PlanIsSound (member_plan a)
    → PlanIsSound (member_plan (record a { store = with_packets (as_parts pair x made) a.store }))
    × PlanFits (member_plan (record a { store = with_packets (as_parts pair x made) a.store }))
    (with_packets (as_parts pair x made) a.store)
sound_puts start pair received l sized new x [] a count come tied so_far s = (s, tied)
sound_puts start pair received l sized new x (octets ∷ made) a count come tied so_far s =
    let shape : Shape = summary_shape received in
    let t = part_of pair x in
    let fresh = so_far.fresh x (omega arith) in
    let shape_is : shape_in_summary t octets ≡ stated_first shape x =
    sym (reports_shape received l pair x octets made a.store come (stated_first shape x) refl) in
    let tells : is_some (shape_in_summary t octets) ≡ (t.part == 0) = ap is_some shape_is ∙ first_reported shape x in
    let lists : ListsAsMany octets (lists_at a.store t) = lists_many received l pair x octets made a.store come in
    let asked : may_be_asked_for (member_plan a) t ≡ true =
    can_ask start (member_plan a) pair shape x new so_far sized (omega (arith, count)) in
    let can : CanBeHeld (member_plan a) t = record {
      asked = asked;
      not_hidden = not_hidden start (member_plan a) pair shape x new so_far;
      not_claimed = not_claimed start (member_plan a) pair shape x new so_far;
    } in
    let next = gains t octets a in
    sound_puts start pair received l sized new (x + 1) made next (omega (arith, count))
    (come_later received l pair x octets made a.store come next.store refl fresh)
    (tied_gained a t octets tied fresh asked tells lists)
    (gained_more start (member_plan a) pair shape x new so_far (shape_in_summary t octets) (member_plan next) shape_is
    (plan_gained a t octets tied fresh asked tells lists))
    (sound_gained a t octets tied fresh asked tells lists can s)
