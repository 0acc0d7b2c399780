-- What a deletion makes of a member that calls reach.
use Rattle.std.proofs.Common.{◌≡◌, ◌≢◌, inl, inr, ℕ, Bool, true, false, cond, not, List, [], ◌∷◌, Option, Some}
use Rattle.std.proofs.Common.{None, refl, sym, ap, ◌∙◌, subst}
use Rattle.std.specs.Prelude.{IsOk, filter}
use Rattle.std.specs.Ordering.{eq_by_cmp}
use Rattle.std.proofs.lemmas.Bool.{or_cases, or_parts}
use Rattle.ndn_name.specs.Names.{Component}
use Rattle.repo_plan.specs.declared.part.Part.{Part}
use Rattle.sorted_lists.specs.SortedList.{Rises, keys, value_of, insert_key}
use Rattle.repo_plan.specs.Parts.{Pair, pair_cmp, part_cmp, pair_of}
use Rattle.repo_plan.specs.Plan.{PlanState, knows, hides, is_in, claims_part_in, after_hide}
use Rattle.repo_plan.specs.Sound.{PlanIsSound}
use Rattle.repo_plan.proofs.Orders.{exact_pairs}
use Rattle.sorted_lists.proofs.Sets.{In, eq_same, eq_turned, contains-insert_key, from_map}
use Rattle.sorted_lists.proofs.Members.{in_filtered}
use Rattle.repo_plan.proofs.Changes.{same_holdings, sound_hides}
use Rattle.repo_object.specs.Wants.{WantedPart}
use Rattle.repo_object.specs.Verdict.{ring_verdict}
use Rattle.repo_store.specs.StoreList.{packets_outside}
use Rattle.repo_catalog.specs.declared.entry.Entry.{Entry}
use Rattle.repo_catalog.specs.Entries.{publication_of, entry_has_name, all_named}
use Rattle.repo_holdings.specs.Records.{Packet}
use Rattle.repo_holdings.specs.Listed.{member_catalogue}
use Rattle.repo_member.specs.Groups.{GroupKeys}
use Rattle.repo_member.specs.MemberState.{MemberState, member_plan, want_of}
use Rattle.repo_member.specs.Deleting.{catalogued_named, member_state_hides, member_deletes}
use Rattle.repo_holdings.proofs.HidingLemmas.{value_outside, rises_outside, keys_outside, shapes_outside}
use Rattle.repo_holdings.proofs.HidingLemmas.{others_stay, tied_hides}
use Rattle.repo_member.proofs.FoundLemmas.{IsReadFrom, entry_listed_whole, whole_known, whole_unclaimed}
use Rattle.repo_member.proofs.HeldParts.{IsReached, PassesNow, want_same}

-- ---- what can be hidden

-- a known publication that no fetcher claims a part of
pub record CanHide (p : PlanState) (pair : Pair) : Type 0 where
  pub known : knows p pair ≡ true
  pub unclaimed : claims_part_in p pair ≡ false

pub named_can_hide : (p : PlanState) (packets : List Packet) (name : List Component) → PlanIsSound p
    → IsReadFrom packets p
    → (pair : Pair) → In pair (all_named name (member_catalogue packets)) → CanHide p pair
named_can_hide p packets name s read pair i =
    let e : (e : Entry) × (In e (filter (entry_has_name name) (member_catalogue packets))) × (pair ≡ publication_of e) =
    from_map publication_of (filter (entry_has_name name) (member_catalogue packets)) pair i in
    let there = in_filtered (entry_has_name name) (member_catalogue packets) e.0 e.1 in
    let whole = entry_listed_whole packets e.0 read.in_order there.0 in
    subst (CanHide p) (sym e.2) (record {
      known = whole_known p packets (publication_of e.0) e.0.segments s read whole;
      unclaimed = whole_unclaimed p packets (publication_of e.0) e.0.segments s read whole;
    })

-- ---- one publication

-- a member that has hidden one publication more
abbrev pub hidden_one : Pair → MemberState → MemberState
hidden_one pair a = record a { store = packets_outside pair a.store; hidden = insert_key pair_cmp pair a.hidden }

pub plan_hidden : (pair : Pair) (a : MemberState) → Rises part_cmp (keys a.store)
    → after_hide pair (member_plan a) ≡ member_plan (hidden_one pair a)
plan_hidden pair a order =
    same_holdings (after_hide pair (member_plan a)) (member_plan (hidden_one pair a)) refl
    (sym (keys_outside pair a.store)) (shapes_outside pair a.store order) refl refl refl refl

shown_before : (pair : Pair) (a : MemberState) (q : Pair) → hides (member_plan (hidden_one pair a)) q ≡ false
    → (eq_by_cmp pair_cmp q pair ≡ false) × (hides (member_plan a) q ≡ false)
shown_before pair a q h =
    or_parts (eq_by_cmp pair_cmp q pair) (hides (member_plan a) q)
    (sym (contains-insert_key exact_pairs pair a.hidden q) ∙ h)

value_other : (pair : Pair) (packets : List Packet) (t : Part) → is_in pair t ≡ false
    → value_of part_cmp (packets_outside pair packets) t ≡ value_of part_cmp packets t
value_other pair packets t other =
    value_outside pair packets t ∙ ap (λ (b : Bool). cond (not b) (value_of part_cmp packets t) None) other

want_other : (g : GroupKeys) (pair : Pair) (packets : List Packet) (t : Part) → is_in pair t ≡ false
    → want_of g packets t ≡ want_of g (packets_outside pair packets) t
want_other g pair packets t other =
    want_same g (packets_outside pair packets) packets t (λ x. sym (others_stay pair packets (pair_of t) other x))

no_packet : (octets : List ℕ) → (let o : Option (List ℕ) = None in o) ≡ Some octets → ⊥
no_packet octets h = cc

pub reached_hides : (g : GroupKeys) (pair : Pair) (a : MemberState) → CanHide (member_plan a) pair → IsReached g a
    → IsReached g (hidden_one pair a)
reached_hides g pair a can r = record {
  group = r.group;
  member_state = record {
    member = r.member_state.member;
    own = r.member_state.own;
    width = r.member_state.width;
    in_order = rises_outside pair a.store r.member_state.in_order;
    hidden = λ q h. elim
        (or_cases (eq_by_cmp pair_cmp q pair) (hides (member_plan a) q)
        (sym (contains-insert_key exact_pairs pair a.hidden q) ∙ h)) [
          | inl same ↦ ap (knows (member_plan a)) (eq_same exact_pairs q pair same) ∙ can.known
          | inr before ↦ r.member_state.hidden q before
        ];
  };
  of = r.of;
  sound =
      subst PlanIsSound (plan_hidden pair a r.member_state.in_order)
      (sound_hides pair (member_plan a) can.unclaimed r.sound);
  few = r.few;
  tied =
      let hidden = tied_hides pair (member_plan a) a.store r.tied in
      record {
        in_order = hidden.in_order;
        held = refl;
        shapes = refl;
        recorded = hidden.recorded;
        indexed = hidden.indexed;
      };
  posts = r.posts;
  own = λ t own shown.
      let before = shown_before pair a (pair_of t) shown in
      value_other pair a.store t (eq_turned exact_pairs pair (pair_of t) ∙ before.0) ∙ r.own t own before.1;
  others = λ t octets away h. others t octets away (is_in pair t) refl (sym (value_outside pair a.store t) ∙ h);
  insertions = r.insertions;
} where
  others : (t : Part) (octets : List ℕ) → t.publisher ≢ a.number → (b : Bool) → is_in pair t ≡ b
      → cond (not b) (value_of part_cmp a.store t) None ≡ Some octets
      → PassesNow g (packets_outside pair a.store) t octets
  others t octets away true p h = absurd (no_packet octets h)
  others t octets away false p h =
      subst (λ (want : WantedPart). IsOk (ring_verdict want g.members.ring octets)) (want_other g pair a.store t p)
      (r.others t octets away h)

-- ---- one after another

pub reached_hides_all : (g : GroupKeys) (pairs : List Pair) (a : MemberState)
    → ((pair : Pair) → In pair pairs → CanHide (member_plan a) pair) → IsReached g a
    → IsReached g (member_state_hides pairs a)
reached_hides_all g [] a each r = r
reached_hides_all g (pair ∷ pairs) a each r =
    reached_hides_all g pairs (hidden_one pair a)
    (λ q i. let can = each q (inr i) in record { known = can.known; unclaimed = can.unclaimed })
    (reached_hides g pair a (each pair (inl refl)) r)

pub reached_deletes : (g : GroupKeys) (name : List Component) (a : MemberState) → IsReached g a
    → IsReached g (member_deletes name a)
reached_deletes g name a r =
    reached_hides_all g (catalogued_named name a) a
    (named_can_hide (member_plan a) a.store name r.sound
    (record { in_order = r.member_state.in_order; held = refl; shapes = refl })) r
