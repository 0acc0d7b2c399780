use Rattle.std.proofs.Common.{◌≡◌, ◌<◌, ◌+◌, ◌++◌, List, length, map, refl, sym, ap, ◌∙◌, subst, arith}
use Rattle.std.proofs.lemmas.Result.{err_from_is_err_and}
use Rattle.std.proofs.lemmas.List.{length-map}
use Rattle.bench_net.specs.SentList.{SentPacket}
use Rattle.group_model.specs.Steps.{settle_new_parts, after_gathering}
use Rattle.bench_world.specs.Serving.{lossless}
use Rattle.bench_world.specs.Runs.{HaveSettledPartly}
use Rattle.bench_world.specs.Settling.{sent_sync}
use Rattle.bench_world.specs.Worlds.{GroupState, IsConsistentState, only_members, tells, world_of}
use Rattle.bench_world.specs.Kept.{world_state}
use Rattle.bench_world.proofs.States.{few_logs, few_members, few_sent, tried_few}
use Rattle.bench_world.proofs.Readers.{counted_state}
use Rattle.bench_world.proofs.EitherAnswer.{where_err}
use Rattle.bench_world.proofs.FetchesAndSettles.{sound_only, failed_state, partly, partly_before, settle_world}
use Rattle.bench_world.proofs.FetchesAndSettles.{settle_state, settle_joined, settle_fits}
use Rattle.bench_world.proofs.NobodyLacking.{partly_settled_lack, all_settled_lack}
use Rattle.bench_world.proofs.world.World.settle.Goals as goal

pub invariant_of-self : goal.invariant_of-self
invariant_of-self g c =
    let s = world_state c.self.inside in
    let few = subst (λ (x : GroupState). x.steps < 100000) (sym c.self.view_is) c.requires.few in
    record {
      consistent =
          subst (λ (ps : List SentPacket). IsConsistentState (record s { sent = ps; steps = s.steps + 1 }))
          (sym (ap (λ x. x.packets) c.in_err-reserve.ensures.err)) (counted_state s c.self.invariant.consistent few);
      nobody_lacks =
          c.self.invariant.nobody_lacks;
    }

pub returns-in_err-reserve-clause-err : goal.returns-in_err-reserve-clause-err
returns-in_err-reserve-clause-err g c =
    let s = world_state c.self.inside in
    let few = subst (λ (x : GroupState). x.steps < 100000) (sym c.self.view_is) c.requires.few in
    where_err c.from_residual.result (
    subst (λ (x : GroupState).
    HaveSettledPartly x (record s { sent = c.reserve.new.self.packets; steps = s.steps + 1 }))
    c.self.view_is
    (subst (λ (ps : List SentPacket). HaveSettledPartly s (record s { sent = ps; steps = s.steps + 1 }))
    (sym (ap (λ x. x.packets) c.in_err-reserve.ensures.err)) (partly_before s c.self.invariant.consistent few)))

pub returns-in_err-reserve-clause-keeps : goal.returns-in_err-reserve-clause-keeps
returns-in_err-reserve-clause-keeps g c = record {
  keys = ap (λ (x : GroupState). x.keys) c.self.view_is;
  mirrors = ap (λ (x : GroupState). x.mirrors) c.self.view_is;
}

pub settle_members-requires : goal.settle_members-requires
settle_members-requires g c κs within =
    let s = world_state c.self.inside in (
      within.0,
      (
        within.1,
        (
          c.type_bounds.sync-N,
          (
            c.type_bounds.sync-R,
            record {
              workers = c.requires.workers;
              logs = few_logs s c.self.invariant.consistent;
              begun = refl;
              numbers = c.self.invariant.consistent.numbers;
              consistent = c.self.invariant.consistent.members;
              sound = sound_only s c.self.invariant.consistent;
              tried = tried_few s c.self.invariant.consistent;
              lacks = c.self.invariant.nobody_lacks.members;
            },
          ),
        ),
      ),
    )

pub invariant_of-self-in_err-settled : goal.invariant_of-self-in_err-settled
invariant_of-self-in_err-settled g c =
    let s = world_state c.self.inside in
    let few = subst (λ (x : GroupState). x.steps < 100000) (sym c.self.view_is) c.requires.few in
    let same : c.reserve.new.self.packets ≡ s.sent = ap (λ x. x.packets) c.in_ok-reserve.ensures.ok in
    record {
      consistent =
          subst (λ (ps : List SentPacket).
          IsConsistentState (record s { members = c.settle_members.new.members.items; sent = ps; steps = s.steps + 1 }))
          (sym same)
          (failed_state s c.self.invariant.consistent few c.settle_members.new.members.items
          c.settle_members.ensures.stay.len
          c.settle_members.ensures.stay.numbers c.settle_members.ensures.stay.consistent
          c.settle_members.ensures.stay.counts c.in_err-settled.ensures.err);
      nobody_lacks =
          partly_settled_lack (only_members s.members) (sound_only s c.self.invariant.consistent)
          c.self.inside.unsettled s.mirrors c.self.invariant.nobody_lacks _ c.in_err-settled.ensures.err;
    }

pub returns-in_err-settled-clause-err : goal.returns-in_err-settled-clause-err
returns-in_err-settled-clause-err g c =
    let s = world_state c.self.inside in
    let few = subst (λ (x : GroupState). x.steps < 100000) (sym c.self.view_is) c.requires.few in
    let same : c.reserve.new.self.packets ≡ s.sent = ap (λ x. x.packets) c.in_ok-reserve.ensures.ok in
    let p = err_from_is_err_and c.from_residual-in_err-settled.result c.from_residual-in_err-settled.ensures.1 in
    rw p.1
    (subst (λ (x : GroupState). HaveSettledPartly x (record s {
      members = c.settle_members.new.members.items;
      sent = c.reserve.new.self.packets;
      steps = s.steps + 1;
    })) c.self.view_is
    (subst (λ (ps : List SentPacket). HaveSettledPartly s
    (record s { members = c.settle_members.new.members.items; sent = ps; steps = s.steps + 1 })) (sym same)
    (partly s c.self.invariant.consistent few c.settle_members.new.members.items c.settle_members.ensures.stay.len
    c.settle_members.ensures.stay.numbers c.settle_members.ensures.stay.consistent
    c.settle_members.ensures.stay.counts c.in_err-settled.ensures.err)))

pub returns-in_err-settled-clause-keeps : goal.returns-in_err-settled-clause-keeps
returns-in_err-settled-clause-keeps g c = record {
  keys = ap (λ (x : GroupState). x.keys) c.self.view_is;
  mirrors = ap (λ (x : GroupState). x.mirrors) c.self.view_is;
}

pub send_all-requires-clause-room : goal.send_all-requires-clause-room
send_all-requires-clause-room g c =
    let s = world_state c.self.inside in
    let a : length (map sent_sync c.in_ok-settled.settled.0.items) ≡ length (map (tells s.keys) s.members) =
    ap length c.in_ok-settled.ensures.syncs in
    let b = length-map c.in_ok-settled.settled.0.items sent_sync in
    let d = length-map s.members (tells s.keys) in
    let room = ap (λ x. x.spare) c.in_ok-reserve.ensures.ok in
    omega (arith, a, b, d, room, c.len.ensures, c.self.inside.members.ok, c.in_ok-settled.settled.0.ok)

pub send_all-requires-clause-few : goal.send_all-requires-clause-few
send_all-requires-clause-few g c =
    let s = world_state c.self.inside in
    let a : length (map sent_sync c.in_ok-settled.settled.0.items) ≡ length (map (tells s.keys) s.members) =
    ap length c.in_ok-settled.ensures.syncs in
    let b = length-map c.in_ok-settled.settled.0.items sent_sync in
    let d = length-map s.members (tells s.keys) in
    let e : length c.reserve.new.self.packets ≡ length s.sent = ap (λ x. length x.packets) c.in_ok-reserve.ensures.ok in
    let n = few_members s c.self.invariant.consistent in
    let f = few_sent s c.self.invariant.consistent in
    omega (arith, a, b, d, e, n, f, c.in_ok-settled.settled.0.ok)

pub overflow_add-self-3 : goal.overflow_add-self-3
overflow_add-self-3 g c =
    let s = world_state c.self.inside in
    let few = subst (λ (x : GroupState). x.steps < 100000) (sym c.self.view_is) c.requires.few in
    let sent : c.send_all.new.sent.packets ≡ c.self.inside.sent.packets
    ++ map sent_sync c.in_ok-settled.settled.0.items =
    c.send_all.ensures
    ∙ ap (λ (ps : List SentPacket). ps ++ map sent_sync c.in_ok-settled.settled.0.items)
    (ap (λ x. x.packets) c.in_ok-reserve.ensures.ok) in
    let count : c.len-count.result ≡ length c.settle_members.new.members.items =
    omega (arith, c.len-count.ensures, c.settle_members.new.members.ok) in
    let fits =
    settle_fits s c.self.invariant.consistent few c.settle_members.new.members.items c.in_ok-settled.ensures.members
    c.send_all.new.sent.packets c.in_ok-settled.settled.0.items sent c.in_ok-settled.ensures.syncs
    c.len-count.result c.saturating_sub.result c.in_ok-settled.settled.1 c.in_ok-settled.settled.2 count
    c.saturating_sub.ensures
    c.in_ok-settled.ensures.parts c.in_ok-settled.ensures.octets in
    omega (arith, fits.2)

pub overflow_add-self-4 : goal.overflow_add-self-4
overflow_add-self-4 g c =
    let s = world_state c.self.inside in
    let few = subst (λ (x : GroupState). x.steps < 100000) (sym c.self.view_is) c.requires.few in
    let sent : c.send_all.new.sent.packets ≡ c.self.inside.sent.packets
    ++ map sent_sync c.in_ok-settled.settled.0.items =
    c.send_all.ensures
    ∙ ap (λ (ps : List SentPacket). ps ++ map sent_sync c.in_ok-settled.settled.0.items)
    (ap (λ x. x.packets) c.in_ok-reserve.ensures.ok) in
    let count : c.len-count.result ≡ length c.settle_members.new.members.items =
    omega (arith, c.len-count.ensures, c.settle_members.new.members.ok) in
    let fits =
    settle_fits s c.self.invariant.consistent few c.settle_members.new.members.items c.in_ok-settled.ensures.members
    c.send_all.new.sent.packets c.in_ok-settled.settled.0.items sent c.in_ok-settled.ensures.syncs
    c.len-count.result c.saturating_sub.result c.in_ok-settled.settled.1 c.in_ok-settled.settled.2 count
    c.saturating_sub.ensures
    c.in_ok-settled.ensures.parts c.in_ok-settled.ensures.octets in
    omega (arith, fits.3)

pub invariant_of-self-2 : goal.invariant_of-self-2
invariant_of-self-2 g c =
    let s = world_state c.self.inside in
    let few = subst (λ (x : GroupState). x.steps < 100000) (sym c.self.view_is) c.requires.few in
    let sent : c.send_all.new.sent.packets ≡ c.self.inside.sent.packets
    ++ map sent_sync c.in_ok-settled.settled.0.items =
    c.send_all.ensures
    ∙ ap (λ (ps : List SentPacket). ps ++ map sent_sync c.in_ok-settled.settled.0.items)
    (ap (λ x. x.packets) c.in_ok-reserve.ensures.ok) in
    let count : c.len-count.result ≡ length c.settle_members.new.members.items =
    omega (arith, c.len-count.ensures, c.settle_members.new.members.ok) in
    record {
      consistent =
          settle_state s c.self.invariant.consistent few c.settle_members.new.members.items
          c.in_ok-settled.ensures.members
          c.send_all.new.sent.packets c.in_ok-settled.settled.0.items sent c.in_ok-settled.ensures.syncs
          c.len-count.result c.saturating_sub.result c.in_ok-settled.settled.1 c.in_ok-settled.settled.2 count
          c.saturating_sub.ensures
          c.in_ok-settled.ensures.parts c.in_ok-settled.ensures.octets
          c.settle_members.ensures.stay.len c.settle_members.ensures.stay.numbers
          c.settle_members.ensures.stay.consistent;
      nobody_lacks =
          all_settled_lack (only_members s.members) (sound_only s c.self.invariant.consistent)
          c.self.inside.unsettled s.mirrors c.self.invariant.nobody_lacks _ _ refl c.in_ok-settled.ensures.members;
    }

pub returns : goal.returns
returns g c =
    let s = world_state c.self.inside in
    let few = subst (λ (x : GroupState). x.steps < 100000) (sym c.self.view_is) c.requires.few in
    let mid = c.settle_members.new.members.items in
    let syncs = c.in_ok-settled.settled.0.items in
    let sent : c.send_all.new.sent.packets ≡ c.self.inside.sent.packets ++ map sent_sync syncs =
    c.send_all.ensures
    ∙ ap (λ (ps : List SentPacket). ps ++ map sent_sync syncs) (ap (λ x. x.packets) c.in_ok-reserve.ensures.ok) in
    let count : c.len-count.result ≡ length mid =
    omega (arith, c.len-count.ensures, c.settle_members.new.members.ok) in
    record {
      world =
          settle_world s c.self.invariant.consistent few mid c.in_ok-settled.ensures.members
          c.send_all.new.sent.packets syncs
          sent
          c.in_ok-settled.ensures.syncs c.len-count.result c.saturating_sub.result c.in_ok-settled.settled.1
          c.in_ok-settled.settled.2 count
          c.saturating_sub.ensures c.in_ok-settled.ensures.parts c.in_ok-settled.ensures.octets
          ∙ ap (λ (x : GroupState). after_gathering (lossless x.keys) (world_of x)) c.self.view_is;
      parts = c.in_ok-settled.ensures.parts ∙ ap (λ (x : GroupState). settle_new_parts (world_of x)) c.self.view_is;
      joined =
          settle_joined s c.self.invariant.consistent few mid c.in_ok-settled.ensures.members
          c.send_all.new.sent.packets syncs
          sent
          c.in_ok-settled.ensures.syncs c.len-count.result c.saturating_sub.result c.in_ok-settled.settled.1
          c.in_ok-settled.settled.2 count
          c.saturating_sub.ensures c.in_ok-settled.ensures.parts c.in_ok-settled.ensures.octets;
      steps = ap (λ (x : GroupState). x.steps + 1) c.self.view_is;
      keeps = record {
        keys = ap (λ (x : GroupState). x.keys) c.self.view_is;
        mirrors = ap (λ (x : GroupState). x.mirrors) c.self.view_is;
      };
      err = tt;
    }
