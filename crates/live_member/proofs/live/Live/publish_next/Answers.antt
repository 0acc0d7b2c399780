use Rattle.std.proofs.Common.{rules, ◌≡◌, ◌∙◌, ap, sym, subst, arith, ℕ, ◌<◌, length}
use Rattle.repo_object.specs.Objects.Post.{Offers}
use Rattle.repo_member.specs.Groups.{GroupKeys}
use Rattle.repo_member.specs.MemberState.{MemberState, member_publishes}
use Rattle.repo_member.specs.Verdicts.{sync_of}
use Rattle.live_member.specs.Reports.{IsReport}
use Rattle.live_member.proofs.Loans.{tells}
use Rattle.live_member.proofs.PublishSteps.{room_left, is_first, lives_after, kept_after, is_next}
use Rattle.live_member.proofs.live.Live.publish_next.Goals as goal

pub published-requires-clause-numbers : goal.published-requires-clause-numbers
published-requires-clause-numbers g c =
    let t = g.L.Lists.meaning in
    let m = c.self.inside in
    let some : 0 < length m.unpublished.items = search rules in
    let f = is_first t g.row.M m.number m.draw m.member m.journal.items m.unpublished.items c.in-Some.object.now
    c.self.invariant some c.in-Some.ensures.lookup in
    room_left t g.row.M m.member m.journal.items c.in-Some.object.now _ m.draw f.live f.value

pub new-requires : goal.new-requires
new-requires g c =
    let t = g.L.Lists.meaning in
    let m = c.self.inside in
    let some : 0 < length m.unpublished.items = search rules in
    let f = is_first t g.row.M m.number m.draw m.member m.journal.items m.unpublished.items c.in-Some.object.now
    c.self.invariant some c.in-Some.ensures.lookup in
    let less : length m.journal.items < g.row.M = omega (arith, c.if-len.false, c.len.ensures) in
    let new : c.published.new.member ≡ member_publishes t.group (Offers c.in-Some.object.now) 0 m.draw m.member =
    c.in_ok-published.ensures.ok
    ∙ ap (λ (k : GroupKeys). member_publishes k (Offers c.in-Some.object.now) 0 m.draw m.member) c.requires in
    let after = c.published.new.member in
    let live = lives_after t g.row.M m.member after m.journal.items m.unpublished.items c.in-Some.object.now _ m.draw f
    less new in
    subst (IsReport t)
    (sym (c.in_ok-published.ensures.sync
    ∙ ap (λ (k : GroupKeys). sync_of k m.member.number after.known) c.requires
    ∙ ap (λ (n : ℕ). sync_of t.group n after.known) (sym (ap (λ (b : MemberState). b.number) new))))
    (tells t g.row.M after _ _ live)

pub invariant_of-self-2 : goal.invariant_of-self-2
invariant_of-self-2 g c =
    let t = g.L.Lists.meaning in
    let m = c.self.inside in
    let some : 0 < length m.unpublished.items = search rules in
    let f = is_first t g.row.M m.number m.draw m.member m.journal.items m.unpublished.items c.in-Some.object.now
    c.self.invariant some c.in-Some.ensures.lookup in
    let less : length m.journal.items < g.row.M = omega (arith, c.if-len.false, c.len.ensures) in
    let new : c.published.new.member ≡ member_publishes t.group (Offers c.in-Some.object.now) 0 m.draw m.member =
    c.in_ok-published.ensures.ok
    ∙ ap (λ (k : GroupKeys). member_publishes k (Offers c.in-Some.object.now) 0 m.draw m.member) c.requires in
    rw (
      c.push_reserved.ensures.items,
      c.in_ok-reserve.ensures.items,
      c.in_ok-published.ensures.seq,
      c.pop_front.ensures.rest,
    )
    (kept_after t g.row.M m.member c.published.new.member m.journal.items m.unpublished.items c.in-Some.object.now _
    m.draw f
    less new m.number c.self.invariant)

pub returns : goal.returns
returns g c =
    let t = g.L.Lists.meaning in
    let m = c.self.inside in
    let some : 0 < length m.unpublished.items = search rules in
    let f = is_first t g.row.M m.number m.draw m.member m.journal.items m.unpublished.items c.in-Some.object.now
    c.self.invariant some c.in-Some.ensures.lookup in
    let less : length m.journal.items < g.row.M = omega (arith, c.if-len.false, c.len.ensures) in
    let new : c.published.new.member ≡ member_publishes t.group (Offers c.in-Some.object.now) 0 m.draw m.member =
    c.in_ok-published.ensures.ok
    ∙ ap (λ (k : GroupKeys). member_publishes k (Offers c.in-Some.object.now) 0 m.draw m.member) c.requires in
    let told = c.new.ensures ∙ c.in_ok-published.ensures.sync
    ∙ ap (λ (k : GroupKeys). sync_of k m.member.number c.published.new.member.known) c.requires in
    rw (
      ← c.self.view_is,
      c.push_reserved.ensures.items,
      c.in_ok-reserve.ensures.items,
      c.in_ok-published.ensures.seq,
      c.pop_front.ensures.rest,
    )
    (is_next t g.row.M m.member c.published.new.member m.journal.items m.unpublished.items c.in-Some.object.now _ m.draw
    f
    less new c.new.result told)
