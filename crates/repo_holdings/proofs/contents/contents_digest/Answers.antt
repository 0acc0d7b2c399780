use Rattle.std.proofs.Common.{Bor, Option, ◌≡◌, ◌+◌, ◌++◌, List, ℕ, [], length, length-append, unwrap_or, sym, ap, ◌∙◌}
use Rattle.std.proofs.Common.{subst, arith}
use Rattle.sha2.specs.Hashers.{Holds256}
use Rattle.repo_plan.specs.Parts.{Pair}
use Rattle.repo_holdings.specs.Listed.{stored_at, stored_content, contents_from}
use Rattle.repo_holdings.proofs.ContentLemmas.{joined_more, lent_or, content_or_nothing, stored_short}
use Rattle.repo_holdings.proofs.contents.contents_digest.Goals as goal

pub loop-x-preserved : goal.loop-x-preserved
loop-x-preserved c =
    let packets = c.args.store.now.packets in
    let pair : Pair = (c.args.publisher, c.args.seq) in
    let first = c.args.shape.index + 1 in
    let so_far = contents_from packets pair first c.loop-x.x in
    let more = joined_more packets pair first c.loop-x.x in
    let content : c.unwrap_or-content.result.now ≡ stored_content packets pair (first + c.loop-x.x) =
    ap (λ (b : Bor (List ℕ)). b.now) c.unwrap_or-content.ensures ∙ lent_or c.stored_content.result _
    ∙ ap (λ (o : Option (List ℕ)). unwrap_or o []) c.stored_content.ensures.exact
    ∙ content_or_nothing (stored_at packets pair (first + c.loop-x.x)) in
    let whole : so_far ++ c.unwrap_or-content.result.now ≡ contents_from packets pair first (c.loop-x.x + 1) =
    ap (λ (m : List ℕ). so_far ++ m) content ∙ sym more in
    let long = length-append so_far c.unwrap_or-content.result.now in
    let all = ap (λ (m : List ℕ). length m) whole in
    let short = stored_short packets pair (first + c.loop-x.x) in
    record {
      octets = omega (arith, long, all, c.loop-x.invariant.octets);
      digest = subst (Holds256 c.update.new.self) whole (c.update.ensures so_far c.loop-x.invariant.digest);
      small = omega (arith, short, ap (λ (m : List ℕ). length m) content, c.loop-x.invariant.small);
    }
