use Rattle.std.proofs.Common.{List, map, sym, ap, ◌∙◌, subst}
use Rattle.std.specs.List.{All}
use Rattle.repo_holdings.specs.Contents.{IsDigestIn}
use Rattle.repo_holdings.specs.Records.{Packet}
use Rattle.repo_holdings.specs.Taking.{Fetched, came, with_all_fetched}
use Rattle.repo_member.specs.MemberState.{member_takes}
use Rattle.repo_member.proofs.OutcomeLemmas.{stored_alike, stored_still, taken_is}
use Rattle.repo_member.proofs.member.Member.take_digested.Goals as goal

pub take-parts-requires-clause-digests : goal.take-parts-requires-clause-digests
take-parts-requires-clause-digests c =
    let mid = c.reserve.new.self.store in
    let same =
    stored_alike c.args.g.now c.args.self.now c.args.jobs.now c.args.parts.now c.args.attempts.now
    c.args.self.now.store c.requires.outcome.each in
    subst (λ (packets : List Packet). All (IsDigestIn packets) c.args.digests.now)
    (same
    ∙ sym (ap (λ (xs : List Fetched). with_all_fetched xs c.args.self.now.store) c.in_ok-all.ensures.came)
    ∙ sym (ap (with_all_fetched (map came c.in_ok-all.all.items))
    (stored_still c.self.inside c.args.self.now c.self.view_is c.reserve.new.self _ c.in_ok-reserve.ensures.ok)))
    c.requires.digests

pub returns-clause-ok : goal.returns-clause-ok
returns-clause-ok c =
    taken_is c.self.inside c.args.self.now c.self.view_is c.reserve.new.self _ c.in_ok-reserve.ensures.ok
    c.take-parts.new.self (map came c.in_ok-all.all.items) c.take-parts.ensures.taken
    ∙ ap (λ (xs : List Fetched). member_takes xs c.args.self.now) c.in_ok-all.ensures.came
