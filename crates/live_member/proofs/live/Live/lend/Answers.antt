use Rattle.std.proofs.Common.{◌≡◌, ◌∙◌, List, Some, ap, sym, ℕ}
use Rattle.repo_plan.specs.Parts.{part_cmp}
use Rattle.sorted_lists.specs.SortedList.{value_of}
use Rattle.repo_member.specs.MemberState.{logged}
use Rattle.live_member.specs.Lives.{Living}
use Rattle.live_member.proofs.Loans.{lends, own_stored}
use Rattle.live_member.proofs.live.Live.lend.Goals as goal

pub returns-in_default-clause-own : goal.returns-in_default-clause-own
returns-in_default-clause-own g c =
    let t = g.L.Lists.meaning in
    let a = c.self.inside.member in
    let kept = c.self.invariant in
    c.in_default.ensures
    ∙ own_stored t g.row.M a c.self.inside.journal.items c.self.inside.unpublished.items kept.live c.args.part
    (c.if-part-self.false ∙ kept.its_number)
    ∙ ap (λ (l : Living). logged t.group l.state c.args.part) c.self.view_is

pub new-requires : goal.new-requires
new-requires g c =
    let t = g.L.Lists.meaning in
    let a = c.self.inside.member in
    let stored : value_of part_cmp a.store c.args.part ≡ Some c.in_ok-octets.octets.items =
    sym c.in-Some.ensures
    ∙ ap (λ (octets : List ℕ). Some octets) (sym (c.in_ok-octets.ensures.items_if_clones_equal (λ x y e. e))) in
    lends t g.row.M a c.self.inside.journal.items c.self.inside.unpublished.items c.self.invariant.live c.args.part
    c.in_ok-octets.octets.items stored

pub returns-clause-own : goal.returns-clause-own
returns-clause-own g c =
    let t = g.L.Lists.meaning in
    let a = c.self.inside.member in
    let kept = c.self.invariant in
    let stored : value_of part_cmp a.store c.args.part ≡ Some c.in_ok-octets.octets.items =
    sym c.in-Some.ensures
    ∙ ap (λ (octets : List ℕ). Some octets) (sym (c.in_ok-octets.ensures.items_if_clones_equal (λ x y e. e))) in
    ap (λ (octets : List ℕ). Some octets) (ap (λ l. l.octets) c.new.ensures)
    ∙ sym stored
    ∙ own_stored t g.row.M a c.self.inside.journal.items c.self.inside.unpublished.items kept.live c.args.part
    (c.if-part-self.false ∙ kept.its_number)
    ∙ ap (λ (l : Living). logged t.group l.state c.args.part) c.self.view_is
