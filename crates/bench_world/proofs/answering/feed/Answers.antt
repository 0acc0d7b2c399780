-- What octets from outside come to for a claim.
use Rattle.std.proofs.Common.{◌≡◌, ◌∙◌, ◌<◌, length, sym, ap, arith}
use Rattle.std.proofs.lemmas.List.{get_or_default}
use Rattle.repo_plan.specs.declared.part.Part.{Part}
use Rattle.repo_plan.specs.Plan.{claim_of}
use Rattle.repo_member.specs.MemberState.{MemberState, member_plan}
use Rattle.bench_world.specs.Worlds.{nobody, state_at}
use Rattle.bench_world.specs.Others.{place_among_others}
use Rattle.bench_world.proofs.TakenOut.{others_at}
use Rattle.bench_world.proofs.ClaimsAmongOthers.{publisher_in, publisher_other, can_accept, came_for_it, reported_so}
use Rattle.bench_world.proofs.ClaimsAmongOthers.{fed_so, foreign_so, refused_so, busy_so, members_so, still_so}
use Rattle.bench_world.proofs.answering.feed.Goals as goal

pub publisher-publisher-requires-clause-there : goal.publisher-publisher-requires-clause-there
publisher-publisher-requires-clause-there g c =
    let r = c.requires in
    let ms = c.args.members.now.items in
    let claim =
    ap (λ (a : MemberState). claim_of (member_plan a) c.args.f)
    (sym (c.index.ensures ∙ get_or_default ms c.args.m c.index.result.now nobody r.there))
    ∙ c.in_ok-want.ensures.claim in
    let inside : c.in_ok-want.want.part.publisher < length ms =
    publisher_in c.args.g.now g.logs c.args.f c.args.m ms r c.in_ok-want.want claim in
    let at : c.part.result.publisher ≡ c.in_ok-want.want.part.publisher =
    ap (λ (t : Part). t.publisher) c.part.ensures in
    omega (arith, inside, at, c.as_slice.ensures.len, c.remove-asker.ensures.len, r.there)

pub publisher-publisher-requires-clause-other : goal.publisher-publisher-requires-clause-other
publisher-publisher-requires-clause-other g c same =
    let r = c.requires in
    let ms = c.args.members.now.items in
    let claim =
    ap (λ (a : MemberState). claim_of (member_plan a) c.args.f)
    (sym (c.index.ensures ∙ get_or_default ms c.args.m c.index.result.now nobody r.there))
    ∙ c.in_ok-want.ensures.claim in
    publisher_other c.args.g.now g.logs c.args.f c.args.m ms r c.in_ok-want.want claim
    (sym (ap (λ (t : Part). t.publisher) c.part.ensures) ∙ same)

pub accept-fed-requires : goal.accept-fed-requires
accept-fed-requires g c =
    let r = c.requires in
    let ms = c.args.members.now.items in
    let claim =
    ap (λ (a : MemberState). claim_of (member_plan a) c.args.f)
    (sym (c.index.ensures ∙ get_or_default ms c.args.m c.index.result.now nobody r.there))
    ∙ c.in_ok-want.ensures.claim in
    let asker = c.remove-asker.ensures.value ∙ get_or_default ms c.args.m c.remove-asker.result nobody r.there in
    let others = c.as_slice.ensures.value ∙ c.remove-asker.ensures.items in
    let publisher =
    c.publisher-publisher.ensures
    ∙ ap (λ (t : Part). state_at c.as_slice.result.now (place_among_others c.args.m t.publisher)) c.part.ensures
    ∙ others_at ms c.as_slice.result.now c.args.m r.there others c.in_ok-want.want.part.publisher
    (publisher_other c.args.g.now g.logs c.args.f c.args.m ms r c.in_ok-want.want claim) in
    can_accept c.args.g.now g.logs c.args.f c.args.m ms r c.in_ok-want.want claim
    c.in_ok-want.ensures.want c.remove-asker.result c.publisher-publisher.result.now asker publisher

pub returns : goal.returns
returns g c =
    let r = c.requires in
    let ms = c.args.members.now.items in
    let old = c.remove-asker.result in
    let new = c.accept-fed.new.asker in
    let answer = c.accept-fed.result in
    let claim =
    ap (λ (a : MemberState). claim_of (member_plan a) c.args.f)
    (sym (c.index.ensures ∙ get_or_default ms c.args.m c.index.result.now nobody r.there))
    ∙ c.in_ok-want.ensures.claim in
    let asker = c.remove-asker.ensures.value ∙ get_or_default ms c.args.m old nobody r.there in
    let came = came_for_it c.args.g.now g.logs c.args.f c.args.m ms r c.in_ok-want.want claim c.args.octets.now in
    let foreign =
    foreign_so c.args.g.now g.logs c.args.f c.args.m ms r c.in_ok-want.want claim c.args.octets.now answer
    c.accept-fed.ensures.foreign in
    record {
      fed =
          reported_so c.args.g.now g.logs c.args.f c.args.m ms r c.in_ok-want.want claim c.args.octets.now answer
          c.accept-fed.ensures.fed;
      kept =
          fed_so c.args.g.now g.logs c.args.f c.args.m ms r c.in_ok-want.want claim _ _ came c.args.octets.now answer
          c.accept-fed.ensures.kept;
      members =
          members_so c.args.g.now g.logs c.args.f c.args.m ms r c.in_ok-want.want claim _ _ came
          c.remove-asker.new.self.items c.put_back.new.row.items old new asker c.remove-asker.ensures.items
          c.put_back.ensures answer c.accept-fed.ensures.asker;
      idle = busy_so c.args.g.now g.logs c.args.f c.args.m ms r c.in_ok-want.want claim _ answer foreign;
      refused =
          refused_so c.args.g.now g.logs c.args.f c.args.m ms r c.in_ok-want.want claim _ _ came answer foreign;
      err =
          still_so c.args.g.now g.logs c.args.f c.args.m ms r c.in_ok-want.want claim _ _ came
          c.remove-asker.new.self.items c.put_back.new.row.items old new asker c.remove-asker.ensures.items
          c.put_back.ensures answer c.accept-fed.ensures.err;
    }
