use Rattle.std.proofs.Common.{◌≡◌, ◌+◌, ◌++◌, ℕ, List, length, length-append, sym, ap}
use Rattle.std.proofs.Common.{◌∙◌, subst, arith}
use Rattle.repo_plan.specs.Parts.{Pair}
use Rattle.repo_holdings.specs.Records.{Packet}
use Rattle.repo_holdings.specs.Listed.{stored_content, contents_from}
use Rattle.repo_holdings.specs.HoldingsState.{HoldingsState}
use Rattle.repo_holdings.specs.Taking.{fetched_for, with_fetched_for}
use Rattle.repo_holdings.specs.WholeContents.{joined}
use Rattle.repo_holdings.proofs.ContentLemmas.{joined_more}
use Rattle.repo_holdings.proofs.FreshLemmas.{StayStored, fetched_stays}
use Rattle.repo_holdings.proofs.ArrivedLemmas.{joined-push, contents_are}
use Rattle.repo_holdings.proofs.holdings.Holdings.contents_with.Goals as goal

pub loop-x-preserved : goal.loop-x-preserved
loop-x-preserved c =
    let after : List Packet = with_fetched_for c.args.jobs.now c.args.parts.now c.args.self.now.store in
    let pair : Pair = (c.args.publisher, c.args.seq) in
    let first : ℕ = c.in-Some.shape.index + 1 in
    let content : c.in-Some-content_with.content.now ≡ stored_content after pair (first + c.loop-x.x) =
    c.in-Some-content_with.ensures.exact in
    let more : joined c.push.new.self.items ≡ joined c.loop-x.contents.items ++ c.in-Some-content_with.content.now =
    ap joined c.in_ok-push.ensures.items ∙ joined-push c.loop-x.contents.items c.in-Some-content_with.content in
    record {
      contents =
          more
          ∙ ap (λ (prefix : List ℕ). prefix ++ c.in-Some-content_with.content.now) c.loop-x.invariant.contents
          ∙ ap (λ (piece : List ℕ). contents_from after pair first c.loop-x.x ++ piece) content
          ∙ sym (joined_more after pair first c.loop-x.x);
      few =
          omega (
            arith,
            ap (λ (m : List ℕ). length m) more,
            length-append (joined c.loop-x.contents.items) c.in-Some-content_with.content.now,
            c.in-Some-content_with.ensures.short,
            c.loop-x.invariant.few,
          );
    }

pub returns-clause-contents : goal.returns-clause-contents
returns-clause-contents c =
    let after : List Packet = with_fetched_for c.args.jobs.now c.args.parts.now c.args.self.now.store in
    let pair : Pair = (c.args.publisher, c.args.seq) in
    let all : c.loop-x.x ≡ c.in-Some.shape.segments = omega (arith, c.loop-x-test.false, c.loop-x.auto.x-end) in
    contents_are c.self.inside.stock.plan c.self.inside.stock.store.packets after pair c.in-Some.shape
    c.loop-x.contents.items c.self.invariant.kept.sound.tied
    (subst (λ (h : HoldingsState). StayStored h.store after) (sym c.self.view_is)
    (fetched_stays (fetched_for c.args.jobs.now c.args.parts.now) c.args.self.now.store))
    (sym c.in-Some.is ∙ c.shape.ensures.shape)
    (c.loop-x.invariant.contents ∙ ap (contents_from after pair (c.in-Some.shape.index + 1)) all)
