use Rattle.std.proofs.Common.{◌≡◌, ◌+◌, ◌<◌, ℕ, List, length, refl, sym, ap, ◌∙◌, subst}
use Rattle.svs_vector.specs.Vectors.{join_all}
use Rattle.group_model.specs.Laws.{NothingDeleted}
use Rattle.repo_member.specs.MemberState.{MemberState}
use Rattle.bench_world.specs.MirrorSteps.{mirror_at}
use Rattle.bench_world.specs.MirrorSettles.{HaveSettled, ListsItsJoin, ArePartlySettledMirrors, held_by_all}
use Rattle.bench_world.specs.Worlds.{GroupState, state_at, in_groups, only_members, world_of}
use Rattle.bench_world.specs.Kept.{world_state}
use Rattle.bench_world.proofs.FetchesAndSettles.{sound_only}
use Rattle.bench_world.proofs.EitherAnswer.{where_err}
use Rattle.bench_world.proofs.KnownByAll.{knowns}
use Rattle.bench_world.proofs.Learnt.{widths}
use Rattle.bench_world.proofs.MirrorSettling.{partly_same}
use Rattle.bench_world.proofs.MirrorsLacking.{partly_mirrors_lack, settled_mirrors_lack}
use Rattle.bench_world.proofs.MirrorWorlds.{settled_mirrors, can_gather, are_settled, are_partly, all_consistently}
use Rattle.bench_world.proofs.MirrorWorlds.{all_list}
use Rattle.bench_world.proofs.world.World.settle_mirrors.Goals as goal

pub all_known-requires : goal.all_known-requires
all_known-requires g c =
    let s = world_state c.self.inside in
    subst (λ (ms : List MemberState). (j : ℕ) → j < length ms → length (state_at ms j).known ≡ length ms)
    (sym c.as_slice.ensures.value)
    (widths s.keys (only_members s.members) c.self.invariant.consistent.are (sound_only s c.self.invariant.consistent)
    s.members refl
    c.self.invariant.consistent.members)

pub returns-in_err-known-clause-err : goal.returns-in_err-known-clause-err
returns-in_err-known-clause-err g c =
    where_err c.from_residual.result (λ i l.
    partly_same (world_of c.args.self.now) (mirror_at c.args.self.now.mirrors i))

pub fetch_all_for_mirrors-requires : goal.fetch_all_for_mirrors-requires
fetch_all_for_mirrors-requires g c =
    let s = world_state c.self.inside in (
      c.type_bounds.sync-R,
      can_gather s c.self.invariant.consistent c.as_slice-2.result.now c.as_slice-2.ensures.value
          c.self.inside.unsettled.mirrors c.self.invariant.nobody_lacks.mirrors c.args.workers c.requires.workers
          c.in_ok-known.known
          (c.in_ok-known.ensures ∙ ap (λ (ms : List MemberState). join_all (knowns ms))
          (c.as_slice.ensures.value ∙ sym c.as_slice-2.ensures.value)),
    )

pub invariant_of-self : goal.invariant_of-self
invariant_of-self g c =
    let s = world_state c.self.inside in
    record {
      consistent =
          settled_mirrors s c.self.invariant.consistent (only_members c.as_slice-2.result.now)
          c.fetch_all_for_mirrors.new.mirrors.items
          c.fetch_all_for_mirrors.ensures.len
          (all_consistently s c.self.invariant.consistent c.as_slice-2.result.now c.as_slice-2.ensures.value
          c.fetch_all_for_mirrors.new.mirrors.items c.fetch_all_for_mirrors.ensures.consistent)
          c.fetch_all_for_mirrors.ensures.partly;
      nobody_lacks =
          record {
            members = c.self.invariant.nobody_lacks.members;
            mirrors =
                partly_mirrors_lack c.self.inside.unsettled.mirrors (in_groups s.members)
                (only_members c.as_slice-2.result.now) s.mirrors c.fetch_all_for_mirrors.new.mirrors.items
                c.fetch_all_for_mirrors.ensures.len c.fetch_all_for_mirrors.ensures.partly
                c.self.invariant.nobody_lacks.mirrors;
          };
    }

pub invariant_of-self-2 : goal.invariant_of-self-2
invariant_of-self-2 g c =
    let s = world_state c.self.inside in
    record {
      consistent =
          settled_mirrors s c.self.invariant.consistent (only_members c.as_slice-2.result.now)
          c.fetch_all_for_mirrors.new.mirrors.items
          c.fetch_all_for_mirrors.ensures.len
          (all_consistently s c.self.invariant.consistent c.as_slice-2.result.now c.as_slice-2.ensures.value
          c.fetch_all_for_mirrors.new.mirrors.items c.fetch_all_for_mirrors.ensures.consistent)
          c.fetch_all_for_mirrors.ensures.partly;
      nobody_lacks =
          record {
            members = c.self.invariant.nobody_lacks.members;
            mirrors =
                settled_mirrors_lack c.none.result (only_members s.members) (sound_only s c.self.invariant.consistent)
                s.keys s.mirrors c.fetch_all_for_mirrors.new.mirrors.items c.fetch_all_for_mirrors.ensures.len
                (all_consistently s c.self.invariant.consistent c.as_slice-2.result.now c.as_slice-2.ensures.value
                c.fetch_all_for_mirrors.new.mirrors.items c.fetch_all_for_mirrors.ensures.consistent)
                (subst (λ (as_ : List MemberState). HaveSettled (only_members as_) s.mirrors
                c.fetch_all_for_mirrors.new.mirrors.items) c.as_slice-2.ensures.value c.in_ok-parts.ensures.settled);
          };
    }

pub returns-in_err-parts-clause-err : goal.returns-in_err-parts-clause-err
returns-in_err-parts-clause-err g c =
    let s = world_state c.self.inside in
    where_err c.from_residual-in_err-parts.result
    (subst (λ (x : GroupState).
    ArePartlySettledMirrors (world_of x) x.mirrors c.fetch_all_for_mirrors.new.mirrors.items) c.self.view_is
    (are_partly s c.self.invariant.consistent c.as_slice-2.result.now c.as_slice-2.ensures.value
    c.fetch_all_for_mirrors.new.mirrors.items c.fetch_all_for_mirrors.ensures.partly))

pub returns-clause-same : goal.returns-clause-same
returns-clause-same g c =
    ap (λ (x : GroupState). let y : GroupState = record x { mirrors = c.fetch_all_for_mirrors.new.mirrors.items } in y)
    c.self.view_is

pub returns-clause-len : goal.returns-clause-len
returns-clause-len g c = c.fetch_all_for_mirrors.ensures.len ∙ ap (λ (x : GroupState). length x.mirrors) c.self.view_is

pub returns-clause-settled : goal.returns-clause-settled
returns-clause-settled g c =
    let s = world_state c.self.inside in
    subst (λ (x : GroupState). HaveSettled (world_of x) x.mirrors c.fetch_all_for_mirrors.new.mirrors.items)
    c.self.view_is
    (are_settled s c.self.invariant.consistent c.as_slice-2.result.now c.as_slice-2.ensures.value
    c.fetch_all_for_mirrors.new.mirrors.items c.in_ok-parts.ensures.settled)

pub returns-clause-parts : goal.returns-clause-parts
returns-clause-parts g c =
    subst (λ (x : GroupState).
    c.in_ok-parts.parts + held_by_all x.mirrors ≡ held_by_all c.fetch_all_for_mirrors.new.mirrors.items) c.self.view_is
    c.in_ok-parts.ensures.parts

pub returns-clause-joined : goal.returns-clause-joined
returns-clause-joined g c =
    let s = world_state c.self.inside in
    subst (λ (x : GroupState). NothingDeleted (world_of x) → (i : ℕ)
    → i < length c.fetch_all_for_mirrors.new.mirrors.items
    → ListsItsJoin (world_of x) (mirror_at c.fetch_all_for_mirrors.new.mirrors.items i)) c.self.view_is
    (all_list s c.self.invariant.consistent c.as_slice-2.result.now c.as_slice-2.ensures.value
    c.fetch_all_for_mirrors.new.mirrors.items c.fetch_all_for_mirrors.ensures.len
    c.fetch_all_for_mirrors.ensures.consistent
    c.in_ok-parts.ensures.settled)
