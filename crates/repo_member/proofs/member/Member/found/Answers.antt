use Rattle.std.proofs.Common.{◌≡◌, ◌<◌, ◌≤◌, ◌+◌, ◌++◌, ◌∷◌, [], ℕ, true, false, List, Option, Some, None, Bor}
use Rattle.std.proofs.Common.{length, get_or, take}
use Rattle.std.proofs.Common.{refl, sym, ap, ◌∙◌, subst, arith}
use Rattle.std.specs.Prelude.{is_some, IsSome}
use Rattle.std.specs.Option.{option_copied}
use Rattle.std.proofs.lemmas.Bool.{true≢false}
use Rattle.std.proofs.lemmas.List.{take_more, take_all}
use Rattle.std.proofs.lemmas.List.Elements.{All-push, All-nil}
use Rattle.std.specs.List.{All}
use Rattle.ndn_name.specs.Names.{Component}
use Rattle.sorted_lists.specs.SortedList.{Rises}
use Rattle.repo_plan.specs.Parts.{Pair, pair_cmp, last_part}
use Rattle.repo_plan.specs.Plan.{knows, claims_part_in}
use Rattle.repo_plan.specs.Sound.{PlanIsSound}
use Rattle.repo_catalog.specs.declared.entry.Entry.{Entry}
use Rattle.repo_catalog.specs.Entries.{entry_of, all_named}
use Rattle.sorted_lists.proofs.Sets.{In}
use Rattle.sorted_lists.proofs.Members.{in_at}
use Rattle.repo_holdings.specs.HoldingsState.{held_plan}
use Rattle.repo_holdings.specs.Listed.{entry_at, member_catalogue, is_withdrawal}
use Rattle.repo_holdings.specs.Hiding.{outside_all}
use Rattle.repo_holdings.proofs.CatalogueLemmas.{entry_of_alone, alone_in_order}
use Rattle.repo_member.specs.declared.member.Member.TheInside.{Inside}
use Rattle.repo_member.specs.MemberState.{MemberState, member_plan}
use Rattle.repo_member.specs.Deleting.{catalogued_named}
use Rattle.repo_member.specs.Members.{member_state, IsMember}
use Rattle.repo_member.proofs.FoundLemmas.{IsNamedAt, named_is_at, named_entry, named_rises, outside_shorter}
use Rattle.repo_member.proofs.member.Member.found.Goals as goal

abbrev AreNamed : Inside → List Component → List Pair → Type 0
AreNamed m name pairs = pairs ≡ all_named name (member_catalogue m.held.store)

are_named : (m : Inside) (name view : List Component) (pairs found : List Pair) (listed : List Entry) → pairs ≡ found
    → found ≡ all_named view listed → view ≡ name → listed ≡ member_catalogue m.held.store → AreNamed m name pairs
are_named m name view pairs found listed same is read all =
    same ∙ is ∙ ap (λ (n : List Component). all_named n listed) read ∙ ap (all_named name) all

-- the entry that is looked up is that of the publication
looked_up : (m : Inside) (pair : Pair) (listed : List Entry) (o : Option (Bor Entry)) → IsMember m
    → listed ≡ member_catalogue m.held.store → option_copied o ≡ entry_of pair listed
    → option_copied o ≡ entry_at m.held.store pair
looked_up m pair listed o is all found =
    found ∙ ap (entry_of pair) all ∙ entry_of_alone m.held.store pair is.member_state.in_order

is_there : (o : Option (Bor Entry)) → is_some (option_copied o) ≡ true → IsSome o
is_there None h = absurd (true≢false (sym h))
is_there (Some b) h = refl

has_entry : (m : Inside) (name : List Component) (pairs : List Pair) (i : ℕ) (listed : List Entry)
    (o : Option (Bor Entry)) → IsMember m → AreNamed m name pairs → i < length pairs
    → listed ≡ member_catalogue m.held.store
    → option_copied o ≡ entry_of (get_or pairs i (0, 0)) listed
    → IsSome o
has_entry m name pairs i listed o is named low all found =
    let pair : Pair = get_or pairs i (0, 0) in
    let there : In pair (all_named name (member_catalogue m.held.store)) =
    subst (In pair) named (in_at pairs i (0, 0) low) in
    is_there o
    (ap is_some (looked_up m pair listed o is all found)
    ∙ named_entry m.held.store name pair is.member_state.in_order there)

named_at : (m : Inside) (name : List Component) (pairs : List Pair) (i : ℕ) (listed : List Entry)
    (o : Option (Bor Entry)) (b : Bor Entry) → IsMember m → PlanIsSound (held_plan m.held) → AreNamed m name pairs
    → i < length pairs
    → listed ≡ member_catalogue m.held.store
    → option_copied o ≡ entry_of (get_or pairs i (0, 0)) listed
    → o ≡ Some b
    → IsNamedAt (held_plan m.held) m.held.store pairs i (get_or pairs i (0, 0)) b.now.segments
named_at m name pairs i listed o b is sound named low all found there =
    named_is_at (held_plan m.held) m.held.store pairs i (0, 0) b.now sound
    (record { in_order = is.member_state.in_order; held = refl; shapes = refl })
    (subst (Rises pair_cmp) (sym named)
    (named_rises name (member_catalogue m.held.store) (alone_in_order m.held.store is.member_state.in_order)))
    low
    (sym (looked_up m (get_or pairs i (0, 0)) listed o is all found) ∙ ap option_copied there)

-- what the plan of a member says is what the member says
known_alone : (m : Inside) (a : MemberState) (pair : Pair) → IsMember m → member_state m ≡ a
    → knows (held_plan m.held) pair ≡ true
    → knows (member_plan a) pair ≡ true
known_alone m a pair is same h =
    ap (λ (b : MemberState). knows (member_plan b) pair) (sym same)
    ∙ ap (λ (known : List ℕ). knows (record (held_plan m.held) { known = known }) pair) (sym is.known)
    ∙ h

unclaimed_alone : (m : Inside) (a : MemberState) (pair : Pair) → member_state m ≡ a
    → claims_part_in (held_plan m.held) pair ≡ false
    → claims_part_in (member_plan a) pair ≡ false
unclaimed_alone m a pair same h = ap (λ (b : MemberState). claims_part_in (member_plan b) pair) (sym same) ∙ h

pub loop-publisher-init : goal.loop-publisher-init
loop-publisher-init c = record {
  left = c.len-left.ensures ∙ ap (λ (a : MemberState). length a.store) c.self.view_is;
  known = All-nil (λ pair. knows (member_plan c.args.self.now) pair ≡ true);
  unclaimed = All-nil (λ pair. claims_part_in (member_plan c.args.self.now) pair ≡ false);
  objects = All-nil (λ pair. is_withdrawal c.args.self.now.store pair ≡ false);
}

pub unwrap-entry-requires : goal.unwrap-entry-requires
unwrap-entry-requires c =
    has_entry c.self.inside c.args.name.now c.deref-publisher-items.result.now c.loop-publisher.publisher-index _
    c.entry.result c.self.invariant
    (are_named c.self.inside c.args.name.now c.view.result c.deref-publisher-items.result.now _ _
    c.deref-publisher-items.ensures.value c.in_ok-publications.ensures c.view.ensures c.catalogue-catalogue.ensures)
    c.loop-publisher-test.true c.catalogue-catalogue.ensures c.entry.ensures

pub overflow_cast-entry : goal.overflow_cast-entry
overflow_cast-entry c =
    let at =
    named_at c.self.inside c.args.name.now c.deref-publisher-items.result.now c.loop-publisher.publisher-index _
    c.entry.result c.unwrap-entry.result c.self.invariant c.cite_soundness.ensures
    (are_named c.self.inside c.args.name.now c.view.result c.deref-publisher-items.result.now _ _
    c.deref-publisher-items.ensures.value c.in_ok-publications.ensures c.view.ensures c.catalogue-catalogue.ensures)
    c.loop-publisher-test.true c.catalogue-catalogue.ensures c.entry.ensures c.unwrap-entry.ensures in
    omega (arith, at.few)

pub of-requires : goal.of-requires
of-requires c =
    let at =
    named_at c.self.inside c.args.name.now c.deref-publisher-items.result.now c.loop-publisher.publisher-index _
    c.entry.result c.unwrap-entry.result c.self.invariant c.cite_soundness.ensures
    (are_named c.self.inside c.args.name.now c.view.result c.deref-publisher-items.result.now _ _
    c.deref-publisher-items.ensures.value c.in_ok-publications.ensures c.view.ensures c.catalogue-catalogue.ensures)
    c.loop-publisher-test.true c.catalogue-catalogue.ensures c.entry.ensures c.unwrap-entry.ensures in
    at.few

pub overflow_sub-left : goal.overflow_sub-left
overflow_sub-left c =
    let pairs : List Pair = c.deref-publisher-items.result.now in
    let i : ℕ = c.loop-publisher.publisher-index in
    let at =
    named_at c.self.inside c.args.name.now pairs i _
    c.entry.result c.unwrap-entry.result c.self.invariant c.cite_soundness.ensures
    (are_named c.self.inside c.args.name.now c.view.result pairs _ _
    c.deref-publisher-items.ensures.value c.in_ok-publications.ensures c.view.ensures c.catalogue-catalogue.ensures)
    c.loop-publisher-test.true c.catalogue-catalogue.ensures c.entry.ensures c.unwrap-entry.ensures in
    let here : c.loop-publisher.left ≡ length (outside_all (take i pairs) c.self.inside.held.store) =
    c.loop-publisher.invariant.left
    ∙ ap (λ (a : MemberState). length (outside_all (take i pairs) a.store)) (sym c.self.view_is) in
    omega (arith, here, at.fewer, c.last_part.ensures, ap last_part c.of.ensures.shape)

pub loop-publisher-preserved : goal.loop-publisher-preserved
loop-publisher-preserved c =
    let pairs : List Pair = c.deref-publisher-items.result.now in
    let i : ℕ = c.loop-publisher.publisher-index in
    let pair : Pair = get_or pairs i (0, 0) in
    let before = c.loop-publisher.invariant in
    let at =
    named_at c.self.inside c.args.name.now pairs i _
    c.entry.result c.unwrap-entry.result c.self.invariant c.cite_soundness.ensures
    (are_named c.self.inside c.args.name.now c.view.result pairs _ _
    c.deref-publisher-items.ensures.value c.in_ok-publications.ensures c.view.ensures c.catalogue-catalogue.ensures)
    c.loop-publisher-test.true c.catalogue-catalogue.ensures c.entry.ensures c.unwrap-entry.ensures in
    let more : take (i + 1) pairs ≡ take i pairs ++ pair ∷ [] = take_more pairs i (0, 0) c.loop-publisher-test.true in
    let here : c.loop-publisher.left ≡ length (outside_all (take i pairs) c.self.inside.held.store) =
    before.left ∙ ap (λ (a : MemberState). length (outside_all (take i pairs) a.store)) (sym c.self.view_is) in
    let there : length (outside_all (take (i + 1) pairs) c.args.self.now.store)
    ≡ length (outside_all (take i pairs ++ pair ∷ []) c.self.inside.held.store) =
    ap (λ (ps : List Pair). length (outside_all ps c.args.self.now.store)) more
    ∙ ap (λ (a : MemberState). length (outside_all (take i pairs ++ pair ∷ []) a.store)) (sym c.self.view_is) in
    record {
      left = omega (arith, here, there, at.fewer, c.last_part.ensures, ap last_part c.of.ensures.shape);
      known =
          subst (All (λ (q : Pair). knows (member_plan c.args.self.now) q ≡ true)) (sym more)
          (All-push (λ (q : Pair). knows (member_plan c.args.self.now) q ≡ true) (take i pairs) pair before.known
          (known_alone c.self.inside c.args.self.now pair c.self.invariant c.self.view_is at.known));
      unclaimed =
          subst (All (λ (q : Pair). claims_part_in (member_plan c.args.self.now) q ≡ false)) (sym more)
          (All-push (λ (q : Pair). claims_part_in (member_plan c.args.self.now) q ≡ false) (take i pairs) pair
          before.unclaimed
          (unclaimed_alone c.self.inside c.args.self.now pair c.self.view_is at.unclaimed));
      objects =
          subst (All (λ (q : Pair). is_withdrawal c.args.self.now.store q ≡ false)) (sym more)
          (All-push (λ (q : Pair). is_withdrawal c.args.self.now.store q ≡ false) (take i pairs) pair before.objects
          (ap (λ (a : MemberState). is_withdrawal a.store pair) (sym c.self.view_is) ∙ at.object));
    }

pub overflow_sub-result : goal.overflow_sub-result
overflow_sub-result c =
    let pairs : List Pair = take c.loop-publisher.publisher-index c.deref-publisher-items.result.now in
    let fewer = outside_shorter pairs c.args.self.now.store in
    let stored = ap (λ (a : MemberState). length a.store) c.self.view_is in
    omega (arith, c.loop-publisher.invariant.left, c.len.ensures, stored, fewer)

pub returns-clause-publications : goal.returns-clause-publications
returns-clause-publications c =
    sym c.deref-publisher-items.ensures.value
    ∙ are_named c.self.inside c.args.name.now c.view.result c.deref-publisher-items.result.now _ _
    c.deref-publisher-items.ensures.value c.in_ok-publications.ensures c.view.ensures c.catalogue-catalogue.ensures
    ∙ ap (λ (a : MemberState). all_named c.args.name.now (member_catalogue a.store)) c.self.view_is

pub returns-clause-in_order : goal.returns-clause-in_order
returns-clause-in_order c =
    let order = c.self.invariant.member_state.in_order in
    subst (Rises pair_cmp)
    (sym (are_named c.self.inside c.args.name.now c.view.result c.in_ok-publications.publications.items _ _ refl
    c.in_ok-publications.ensures c.view.ensures c.catalogue-catalogue.ensures))
    (named_rises c.args.name.now (member_catalogue c.self.inside.held.store)
    (alone_in_order c.self.inside.held.store order))

-- at the end
all_gone : (i : ℕ) (pairs found : List Pair) → length pairs ≤ i → pairs ≡ found → take i pairs ≡ found
all_gone i pairs found high same = take_all i pairs high ∙ same

pub returns-clause-packets : goal.returns-clause-packets
returns-clause-packets c =
    let i : ℕ = c.loop-publisher.publisher-index in
    let pairs : List Pair = c.deref-publisher-items.result.now in
    let named : take i pairs ≡ catalogued_named c.args.name.now c.args.self.now =
    all_gone i pairs c.in_ok-publications.publications.items c.loop-publisher-test.false
    c.deref-publisher-items.ensures.value
    ∙ are_named c.self.inside c.args.name.now c.view.result c.in_ok-publications.publications.items _ _ refl
    c.in_ok-publications.ensures c.view.ensures c.catalogue-catalogue.ensures
    ∙ ap (λ (a : MemberState). all_named c.args.name.now (member_catalogue a.store)) c.self.view_is in
    let stored = c.len.ensures ∙ ap (λ (a : MemberState). length a.store) c.self.view_is in
    let left =
    c.loop-publisher.invariant.left ∙ ap (λ (ps : List Pair). length (outside_all ps c.args.self.now.store)) named in
    omega (arith, stored, left)

pub returns-clause-known : goal.returns-clause-known
returns-clause-known c =
    subst (All (λ (q : Pair). knows (member_plan c.args.self.now) q ≡ true))
    (all_gone c.loop-publisher.publisher-index c.deref-publisher-items.result.now _ c.loop-publisher-test.false
    c.deref-publisher-items.ensures.value)
    c.loop-publisher.invariant.known

pub returns-clause-unclaimed : goal.returns-clause-unclaimed
returns-clause-unclaimed c =
    subst (All (λ (q : Pair). claims_part_in (member_plan c.args.self.now) q ≡ false))
    (all_gone c.loop-publisher.publisher-index c.deref-publisher-items.result.now _ c.loop-publisher-test.false
    c.deref-publisher-items.ensures.value)
    c.loop-publisher.invariant.unclaimed
