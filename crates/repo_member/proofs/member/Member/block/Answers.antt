use Rattle.std.proofs.Common.{◌≡◌, ◌<◌, ℕ, Bool, true, false, cond, List, map, length, Option, Some, option_map, refl}
use Rattle.std.proofs.Common.{sym, ap, ◌∙◌, subst, arith}
use Rattle.std.specs.Prelude.{IfSome, IsSomeAnd, IsTrue}
use Rattle.std.specs.List.{All}
use Rattle.std.specs.Ordering.{nat_cmp}
use Rattle.std.proofs.lemmas.Bool.{true≢false, lt-ltb}
use Rattle.std.proofs.lemmas.List.{length-map}
use Rattle.sorted_lists.specs.SortedList.{value_of}
use Rattle.repo_object.specs.Objects.{NamedContents, IsContent, IsObject}
use Rattle.repo_object.specs.Objects.Post.{Offers}
use Rattle.repo_object.proofs.Packing.{are_contents}
use Rattle.repo_process.specs.Processes.{Process, BlockState, closed, has_block, object_of, without_block}
use Rattle.repo_process.specs.Processes.BlockState.{Already, Whole}
use Rattle.repo_process.specs.Arrivals.{is_last, lent_object, reopened}
use Rattle.repo_process.specs.Fields.{blocks_from}
use Rattle.repo_process.specs.Insertions.{Insertions, changes_process}
use Rattle.repo_process.proofs.LawLemmas.{segments_counted}
use Rattle.repo_member.specs.declared.member.Member.TheInside.{Inside}
use Rattle.repo_member.specs.declared.member.block.Blocked.TheVariants as blocked
use Rattle.repo_member.specs.MemberState.{MemberState, member_publishes}
use Rattle.repo_member.specs.Blocks.{member_block, member_keeps, after_block, CompletesAnObject, IsBlockAnswer}
use Rattle.repo_member.specs.Members.{member_state, AreWaiting, IsMember}
use Rattle.repo_member.specs.Posts.{contents_of}
use Rattle.repo_member.proofs.BlockStates.{ComesLast, comes_last, kept_waiting, nothing_lent, can_take_back, taken_back}
use Rattle.repo_member.proofs.BlockStates.{handed, can_reopen, opened_again}
use Rattle.repo_member.proofs.WaitingLemmas.{waiting_with, with_processes}
use Rattle.repo_member.proofs.member.Member.block.Goals.{else-is_last-via-then-is_last+else-log-ge-PUBLICATION_LIMIT}
use Rattle.repo_member.proofs.member.Member.block.Goals.{else-is_last-via-else-is_last}
use Rattle.repo_member.proofs.member.Member.block.Goals as goal

-- a member with insertion processes as before
still : (m : Inside) (i : Insertions) → i ≡ m.processes → IsMember m → IsMember (record m { processes = i })
still m i same is = with_processes m i is (subst (λ (j : Insertions). AreWaiting j.processes) (sym same) is.waiting)

-- what is lent is the object
lent_is : (p : Process) (o : Option NamedContents) (lent : NamedContents) → o ≡ Some (object_of p) → o ≡ Some lent
    → lent ≡ object_of p
lent_is p o lent a b = let same : Some lent ≡ Some (object_of p) = sym b ∙ a in cc

some_contents : (a b : List (List ℕ)) → Some a ≡ Some b → a ≡ b
some_contents a b h = cc

pub invariant_of-self-in-Kept : goal.invariant_of-self-in-Kept
invariant_of-self-in-Kept c =
    with_processes c.self.inside c.block.new.self c.self.invariant
    (kept_waiting c.self.inside.processes c.block.new.self c.args.process c.args.index c.args.content.now
    c.self.invariant.waiting _ refl c.in_ok-block.ensures.ok c.in-Kept.missing
    (sym c.in_ok-block.ensures.state ∙ c.in-Kept.is))

-- ---- it was published before

pub invariant_of-self-in_default : goal.invariant_of-self-in_default
invariant_of-self-in_default c =
    let nothing =
    nothing_lent c.self.inside.processes c.block.new.self c.args.process c.args.index c.args.content.now
    c.self.invariant.waiting _ refl c.in_ok-block.ensures.ok (sym c.in_ok-block.ensures.state ∙ c.in-Complete.is)
    c.in_default.ensures.object in
    still c.self.inside c.block.new.self nothing.1 c.self.invariant

pub returns-in_default-clause-answer : goal.returns-in_default-clause-answer
returns-in_default-clause-answer c =
    let nothing =
    nothing_lent c.self.inside.processes c.block.new.self c.args.process c.args.index c.args.content.now
    c.self.invariant.waiting _ refl c.in_ok-block.ensures.ok (sym c.in_ok-block.ensures.state ∙ c.in-Complete.is)
    c.in_default.ensures.object in
    let state : member_block c.args.self.now c.args.process c.args.index c.args.content.now ≡ Already =
    ap (λ (a : MemberState). member_block a c.args.process c.args.index c.args.content.now) (sym c.self.view_is)
    ∙ nothing.0 in
    subst (λ (s : BlockState). IsBlockAnswer c.args.g.now c.args.self.now
    (member_state (record c.self.inside { processes = c.block.new.self })) s blocked.Already) (sym state) tt

pub returns-in_default-clause-ok : goal.returns-in_default-clause-ok
returns-in_default-clause-ok c =
    let nothing =
    nothing_lent c.self.inside.processes c.block.new.self c.args.process c.args.index c.args.content.now
    c.self.invariant.waiting _ refl c.in_ok-block.ensures.ok (sym c.in_ok-block.ensures.state ∙ c.in-Complete.is)
    c.in_default.ensures.object in
    let state : member_block c.args.self.now c.args.process c.args.index c.args.content.now ≡ Already =
    ap (λ (a : MemberState). member_block a c.args.process c.args.index c.args.content.now) (sym c.self.view_is)
    ∙ nothing.0 in
    ap (λ (i : Insertions). member_state (record c.self.inside { processes = i })) nothing.1 ∙ c.self.view_is
    ∙ sym (ap (after_block c.args.g.now c.args.process c.args.now c.args.draw c.args.self.now) state)

pub returns-in_default-clause-object : goal.returns-in_default-clause-object
returns-in_default-clause-object c =
    let nothing =
    nothing_lent c.self.inside.processes c.block.new.self c.args.process c.args.index c.args.content.now
    c.self.invariant.waiting _ refl c.in_ok-block.ensures.ok (sym c.in_ok-block.ensures.state ∙ c.in-Complete.is)
    c.in_default.ensures.object in
    let state : member_block c.args.self.now c.args.process c.args.index c.args.content.now ≡ Already =
    ap (λ (a : MemberState). member_block a c.args.process c.args.index c.args.content.now) (sym c.self.view_is)
    ∙ nothing.0 in
    subst CompletesAnObject (sym state) tt

-- ---- its name can't be copied

pub take_back-requires : goal.take_back-requires
take_back-requires c =
    let last =
    comes_last c.self.inside.processes c.block.new.self c.args.process c.args.index c.args.content.now _
    c.self.invariant.waiting c.in_ok-block.ensures.ok (sym c.in_ok-block.ensures.state ∙ c.in-Complete.is)
    c.in-Some.ensures.object in
    can_take_back c.self.inside.processes c.block.new.self c.args.process c.args.index c.args.content.now last.0 last.1
    c.completes-is_last.ensures.ordered

pub invariant_of-self-in_default-clone : goal.invariant_of-self-in_default-clone
invariant_of-self-in_default-clone c =
    let last =
    comes_last c.self.inside.processes c.block.new.self c.args.process c.args.index c.args.content.now _
    c.self.invariant.waiting c.in_ok-block.ensures.ok (sym c.in_ok-block.ensures.state ∙ c.in-Complete.is)
    c.in-Some.ensures.object in
    still c.self.inside c.take_back.new.self
    (c.take_back.ensures
    ∙ taken_back c.self.inside.processes c.block.new.self c.args.process c.args.index c.args.content.now last.0 last.1
    c.completes-is_last.ensures.ordered) c.self.invariant

pub returns-in_default-clone-clause-err : goal.returns-in_default-clone-clause-err
returns-in_default-clone-clause-err c =
    let last =
    comes_last c.self.inside.processes c.block.new.self c.args.process c.args.index c.args.content.now _
    c.self.invariant.waiting c.in_ok-block.ensures.ok (sym c.in_ok-block.ensures.state ∙ c.in-Complete.is)
    c.in-Some.ensures.object in
    ap (λ (i : Insertions). member_state (record c.self.inside { processes = i }))
    (c.take_back.ensures
    ∙ taken_back c.self.inside.processes c.block.new.self c.args.process c.args.index c.args.content.now last.0 last.1
    c.completes-is_last.ensures.ordered)
    ∙ c.self.view_is

-- ---- the object

pub from_parts-object-requires-clause-contents : goal.from_parts-object-requires-clause-contents
from_parts-object-requires-clause-contents c =
    let same =
    some_contents _ _
    (sym (ap (option_map (λ (o : NamedContents). o.contents)) c.in-Some.ensures.object) ∙ c.hand_over.ensures.blocks) in
    are_contents c.hand_over.result.items (subst (All IsContent) same c.in-Some.ensures.within.contents)

pub invariant_of-self-2 : goal.invariant_of-self-2
invariant_of-self-2 c =
    let last =
    comes_last c.self.inside.processes c.block.new.self c.args.process c.args.index c.args.content.now _
    c.self.invariant.waiting c.in_ok-block.ensures.ok (sym c.in_ok-block.ensures.state ∙ c.in-Complete.is)
    c.in-Some.ensures.object in
    let over =
    c.hand_over.ensures.closed
    ∙ handed c.self.inside.processes c.block.new.self c.args.process c.args.index c.args.content.now last.0 last.1
    c.completes-is_last.ensures.ordered in
    with_processes c.self.inside c.hand_over.new.self c.self.invariant
    (subst (λ (i : Insertions). AreWaiting i.processes) (sym over)
    (waiting_with c.self.inside.processes c.args.process (closed last.0) (λ h. absurd (true≢false h))
    c.self.invariant.waiting))

-- ---- it isn't published

pub reopen-requires-clause-closed : goal.reopen-requires-clause-closed
reopen-requires-clause-closed c =
    let last =
    comes_last c.self.inside.processes c.block.new.self c.args.process c.args.index c.args.content.now _
    c.self.invariant.waiting c.in_ok-block.ensures.ok (sym c.in_ok-block.ensures.state ∙ c.in-Complete.is)
    c.in-Some.ensures.object in
    let over : c.self-2.inside.processes ≡ changes_process c.args.process closed c.block.new.self =
    ap (λ (a : MemberState). a.insertions) (c.self-2.view_is ∙ c.in-Err.ensures.err) ∙ c.hand_over.ensures.closed in
    let same : map (λ v. v.items) c.into_contents-contents.result.items ≡ map (λ v. v.items) c.hand_over.result.items =
    c.into_contents-contents.ensures
    ∙ ap contents_of c.in-Err.ensures.back
    ∙ ap (λ (o : NamedContents). o.contents) c.from_parts-object.ensures in
    let back : blocks_from last.0.first (map (λ v. v.items) c.hand_over.result.items) ≡ last.0.blocks =
    subst (λ (o : Option Process).
    IfSome o (λ p. blocks_from p.first (map (λ v. v.items) c.hand_over.result.items) ≡ p.blocks)) last.1.there
    c.hand_over.ensures.back in
    let whole =
    some_contents _ _
    (sym (ap (option_map (λ (o : NamedContents). o.contents)) last.1.object) ∙ c.hand_over.ensures.blocks) in
    can_reopen c.self.inside.processes c.block.new.self c.args.process c.args.index c.args.content.now last.0 last.1
    c.completes-is_last.ensures.ordered c.self-2.inside.processes over
    (map (λ v. v.items) c.hand_over.result.items) back (length c.into_contents-contents.result.items)
    (sym (length-map c.into_contents-contents.result.items (λ v. v.items)) ∙ ap length same ∙ ap length (sym whole)
    ∙ segments_counted last.0)

pub reopen-requires-clause-contents : goal.reopen-requires-clause-contents
reopen-requires-clause-contents c =
    let same : map (λ v. v.items) c.into_contents-contents.result.items ≡ map (λ v. v.items) c.hand_over.result.items =
    c.into_contents-contents.ensures
    ∙ ap contents_of c.in-Err.ensures.back
    ∙ ap (λ (o : NamedContents). o.contents) c.from_parts-object.ensures in
    let handed_over =
    some_contents _ _
    (sym (ap (option_map (λ (o : NamedContents). o.contents)) c.in-Some.ensures.object) ∙ c.hand_over.ensures.blocks) in
    are_contents c.into_contents-contents.result.items
    (subst (All IsContent) (handed_over ∙ sym same) c.in-Some.ensures.within.contents)

pub take_back-requires-in-Err : goal.take_back-requires-in-Err
take_back-requires-in-Err c =
    let last =
    comes_last c.self.inside.processes c.block.new.self c.args.process c.args.index c.args.content.now _
    c.self.invariant.waiting c.in_ok-block.ensures.ok (sym c.in_ok-block.ensures.state ∙ c.in-Complete.is)
    c.in-Some.ensures.object in
    let over : c.self-2.inside.processes ≡ changes_process c.args.process closed c.block.new.self =
    ap (λ (a : MemberState). a.insertions) (c.self-2.view_is ∙ c.in-Err.ensures.err) ∙ c.hand_over.ensures.closed in
    let same : map (λ v. v.items) c.into_contents-contents.result.items ≡ map (λ v. v.items) c.hand_over.result.items =
    c.into_contents-contents.ensures
    ∙ ap contents_of c.in-Err.ensures.back
    ∙ ap (λ (o : NamedContents). o.contents) c.from_parts-object.ensures in
    let back : blocks_from last.0.first (map (λ v. v.items) c.hand_over.result.items) ≡ last.0.blocks =
    subst (λ (o : Option Process).
    IfSome o (λ p. blocks_from p.first (map (λ v. v.items) c.hand_over.result.items) ≡ p.blocks)) last.1.there
    c.hand_over.ensures.back in
    let again : c.reopen.new.self ≡ c.block.new.self =
    c.reopen.ensures
    ∙ ap (λ (cs : List (List ℕ)). changes_process c.args.process (reopened cs) c.self-2.inside.processes) same
    ∙ opened_again c.self.inside.processes c.block.new.self c.args.process c.args.index c.args.content.now last.0 last.1
    c.completes-is_last.ensures.ordered c.self-2.inside.processes over (map (λ v. v.items) c.hand_over.result.items)
    back in
    subst (λ (i : Insertions). IsSomeAnd (value_of nat_cmp i.processes c.args.process)
    (λ p. (p.published ≡ false) × IsTrue (has_block p c.args.index))) (sym again)
    (can_take_back c.self.inside.processes c.block.new.self c.args.process c.args.index c.args.content.now last.0 last.1
    c.completes-is_last.ensures.ordered)

-- the processes are those without the block again
as_before : (c : goal.After-take_back-in-Err) → c.take_back-in-Err.new.self ≡ c.self.inside.processes
as_before c =
    let last =
    comes_last c.self.inside.processes c.block.new.self c.args.process c.args.index c.args.content.now _
    c.self.invariant.waiting c.in_ok-block.ensures.ok (sym c.in_ok-block.ensures.state ∙ c.in-Complete.is)
    c.in-Some.ensures.object in
    let over : c.self-2.inside.processes ≡ changes_process c.args.process closed c.block.new.self =
    ap (λ (a : MemberState). a.insertions) (c.self-2.view_is ∙ c.in-Err.ensures.err) ∙ c.hand_over.ensures.closed in
    let same : map (λ v. v.items) c.into_contents-contents.result.items ≡ map (λ v. v.items) c.hand_over.result.items =
    c.into_contents-contents.ensures
    ∙ ap contents_of c.in-Err.ensures.back
    ∙ ap (λ (o : NamedContents). o.contents) c.from_parts-object.ensures in
    let back : blocks_from last.0.first (map (λ v. v.items) c.hand_over.result.items) ≡ last.0.blocks =
    subst (λ (o : Option Process).
    IfSome o (λ p. blocks_from p.first (map (λ v. v.items) c.hand_over.result.items) ≡ p.blocks)) last.1.there
    c.hand_over.ensures.back in
    let again : c.reopen.new.self ≡ c.block.new.self =
    c.reopen.ensures
    ∙ ap (λ (cs : List (List ℕ)). changes_process c.args.process (reopened cs) c.self-2.inside.processes) same
    ∙ opened_again c.self.inside.processes c.block.new.self c.args.process c.args.index c.args.content.now last.0 last.1
    c.completes-is_last.ensures.ordered c.self-2.inside.processes over (map (λ v. v.items) c.hand_over.result.items)
    back in
    c.take_back-in-Err.ensures ∙ ap (changes_process c.args.process (without_block c.args.index)) again
    ∙ taken_back c.self.inside.processes c.block.new.self c.args.process c.args.index c.args.content.now last.0 last.1
    c.completes-is_last.ensures.ordered

pub invariant_of-self-in-Err : goal.invariant_of-self-in-Err
invariant_of-self-in-Err c =
    with_processes c.self-2.inside c.take_back-in-Err.new.self c.self-2.invariant
    (subst (λ (i : Insertions). AreWaiting i.processes) (sym (as_before c)) c.self.invariant.waiting)

pub returns-in-Err-clause-err : goal.returns-in-Err-clause-err
returns-in-Err-clause-err c =
    ap (λ (i : Insertions). member_state (record c.self-2.inside { processes = i })) (as_before c)
    ∙ ap (λ (a : MemberState). record a { insertions = c.self.inside.processes })
    (c.self-2.view_is ∙ c.in-Err.ensures.err)
    ∙ c.self.view_is

-- ---- it is published

-- the object is that of the process
object_is : (c : goal.In-Ok-publish_post) (p : Process)
    → ComesLast c.self.inside.processes c.block.new.self c.args.process c.args.index c.args.content.now p
    → c.from_parts-object.result ≡ object_of p
object_is c p last =
    let lent : lent_object (c.in-Some.name, c.in-Some.field-0-1) ≡ object_of p =
    lent_is p _ _ last.object c.in-Some.ensures.object in
    let contents =
    some_contents _ _
    (sym (ap (option_map (λ (o : NamedContents). o.contents)) c.in-Some.ensures.object) ∙ c.hand_over.ensures.blocks) in
    c.from_parts-object.ensures
    ∙ ap (λ n. let o : NamedContents = record { name = n; contents = map (λ v. v.items) c.hand_over.result.items } in o)
    c.in-Ok.ensures.cases
    ∙ ap (λ (cs : List (List ℕ)). let o : NamedContents = record { name = c.in-Some.name.now; contents = cs } in o)
    (sym contents)
    ∙ lent

pub returns-in-Ok-publish_post-clause-ok : goal.returns-in-Ok-publish_post-clause-ok
returns-in-Ok-publish_post-clause-ok c =
    let last =
    comes_last c.self.inside.processes c.block.new.self c.args.process c.args.index c.args.content.now _
    c.self.invariant.waiting c.in_ok-block.ensures.ok (sym c.in_ok-block.ensures.state ∙ c.in-Complete.is)
    c.in-Some.ensures.object in
    let a : MemberState = c.args.self.now in
    let state : member_block a c.args.process c.args.index c.args.content.now ≡ Whole last.0 =
    ap (λ (b : MemberState). member_block b c.args.process c.args.index c.args.content.now) (sym c.self.view_is)
    ∙ last.1.state in
    let is_it : c.completes-is_last.result ≡ true =
    c.completes-is_last.ensures.last c.args.content.now c.requires.content ∙ ap is_last last.1.state in
    let room : length a.log < 65535 = elim c.else-is_last.branch [
      | else-is_last-via-then-is_last+else-log-ge-PUBLICATION_LIMIT w ↦
          omega (arith, w.if-log-ge-PUBLICATION_LIMIT.false, c.log_len-log.ensures.len)
      | else-is_last-via-else-is_last w ↦ absurd (true≢false (sym is_it ∙ w.if-is_last.false))
    ] in
    let keeps : member_state (record c.self.inside { processes = c.hand_over.new.self })
    ≡ member_keeps c.args.process (closed last.0) a =
    ap (λ (i : Insertions). member_state (record c.self.inside { processes = i }))
    (c.hand_over.ensures.closed
    ∙ handed c.self.inside.processes c.block.new.self c.args.process c.args.index c.args.content.now last.0 last.1
    c.completes-is_last.ensures.ordered)
    ∙ ap (member_keeps c.args.process (closed last.0)) c.self.view_is in
    c.in-Ok-publish_post.ensures.published.new
    ∙ ap (λ (o : NamedContents). member_publishes c.args.g.now (Offers o) c.args.now c.args.draw
    (member_state (record c.self.inside { processes = c.hand_over.new.self }))) (object_is c last.0 last.1)
    ∙ ap (member_publishes c.args.g.now (Offers (object_of last.0)) c.args.now c.args.draw) keeps
    ∙ sym (ap (after_block c.args.g.now c.args.process c.args.now c.args.draw a) state
    ∙ ap (λ (b : Bool). cond b
    (member_publishes c.args.g.now (Offers (object_of last.0)) c.args.now c.args.draw
    (member_keeps c.args.process (closed last.0) a)) a) (lt-ltb (length a.log) 65535 room))

pub returns-in-Ok-publish_post-clause-object : goal.returns-in-Ok-publish_post-clause-object
returns-in-Ok-publish_post-clause-object c =
    let last =
    comes_last c.self.inside.processes c.block.new.self c.args.process c.args.index c.args.content.now _
    c.self.invariant.waiting c.in_ok-block.ensures.ok (sym c.in_ok-block.ensures.state ∙ c.in-Complete.is)
    c.in-Some.ensures.object in
    let state : member_block c.args.self.now c.args.process c.args.index c.args.content.now ≡ Whole last.0 =
    ap (λ (b : MemberState). member_block b c.args.process c.args.index c.args.content.now) (sym c.self.view_is)
    ∙ last.1.state in
    subst CompletesAnObject (sym state)
    (subst IsObject (object_is c last.0 last.1) c.in-Ok-publish_post.ensures.published.post)
