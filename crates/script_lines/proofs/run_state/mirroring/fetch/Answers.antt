use Rattle.std.proofs.Common.{◌≡◌, ◌∙◌, ◌++◌, ℕ, List, length, ap, map, sym}
use Rattle.script_report.specs.Texts.{mfetch_text}
use Rattle.group_model.specs.World.{World, logs}
use Rattle.repo_plan.specs.declared.part.Part.{Part}
use Rattle.repo_mirror.specs.MirrorState.{MirrorState}
use Rattle.repo_mirror.specs.ConsistentMirrors.{IsConsistentMirror}
use Rattle.bench_world.specs.MirrorSteps.{mirror_at, no_mirror}
use Rattle.bench_world.specs.MirrorSteps as steps
use Rattle.bench_world.specs.Worlds.{GroupState, world_of}
use Rattle.script_story.specs.Mirrors.{Mirroring, asked_by, attempts_made, gets, mirror_as, mirror_fetches, mirror_of}
use Rattle.script_lines.proofs.MirrorWorlds.{asked_as, at_as, fetched_as, gets_as, made_as, set_again, set_as}
use Rattle.script_lines.proofs.run_state.mirroring.fetch.Goals as goal

pub returns-clause-mirrors : goal.returns-clause-mirrors
returns-clause-mirrors g c =
    let old : List MirrorState = c.args.world.now.mirrors in
    let w : World = world_of c.args.world.now in
    let m : MirrorState = mirror_at old c.args.i in
    let consistent : IsConsistentMirror c.args.world.now.keys (logs w) m =
    c.cite_soundness.ensures.consistent.mirrors c.args.i no_mirror c.requires.there in
    set_as old c.mirror_fetch.new.self.mirrors c.args.i (mirror_at c.mirror_fetch.new.self.mirrors c.args.i)
    (mirror_fetches (g.N.Net.passes c.args.net.now) w c.args.i c.args.tries c.args.loss
    (mirror_of (map mirror_as old) c.args.i))
    (set_again old c.mirror_fetch.new.self.mirrors c.args.i
    (steps.mirror_fetches (g.N.Net.passes c.args.net.now) c.args.world.now.members c.args.i c.args.tries
    c.args.loss m) c.requires.there
    (ap (λ (s : GroupState). s.mirrors) c.in_ok-planned.ensures.ok))
    (fetched_as (g.N.Net.passes c.args.net.now) c.args.world.now.keys w c.args.i c.args.tries c.args.loss m
    (mirror_at c.mirror_fetch.new.self.mirrors c.args.i) consistent c.in_ok-planned.ensures.fetched
    ∙ ap (mirror_fetches (g.N.Net.passes c.args.net.now) w c.args.i c.args.tries c.args.loss)
    (sym (at_as old c.args.i c.requires.there)))

pub returns-clause-report : goal.returns-clause-report
returns-clause-report g c =
    let old : List MirrorState = c.args.world.now.mirrors in
    let w : World = world_of c.args.world.now in
    let m : MirrorState = mirror_at old c.args.i in
    let new : MirrorState = mirror_at c.mirror_fetch.new.self.mirrors c.args.i in
    let consistent : IsConsistentMirror c.args.world.now.keys (logs w) m =
    c.cite_soundness.ensures.consistent.mirrors c.args.i no_mirror c.requires.there in
    let here : mirror_as m ≡ mirror_of (map mirror_as old) c.args.i = sym (at_as old c.args.i c.requires.there) in
    let planned : c.in_ok-planned.planned ≡ length (asked_by w (mirror_of (map mirror_as old) c.args.i)) =
    c.in_ok-planned.ensures.counts.planned ∙ ap (λ (ts : List Part). length ts)
    (sym (asked_as (g.N.Net.passes c.args.net.now) c.args.world.now.keys w c.args.i c.args.tries c.args.loss m new
    consistent
    c.in_ok-planned.ensures.fetched))
    ∙ ap (λ (x : Mirroring). length (asked_by w x)) here in
    let kept : c.in_ok-planned.kept
    ≡ length (gets (g.N.Net.passes c.args.net.now) w c.args.i c.args.tries c.args.loss
    (mirror_of (map mirror_as old) c.args.i)) =
    c.in_ok-planned.ensures.counts.kept ∙ ap (λ (ts : List Part). length ts)
    (sym (gets_as (g.N.Net.passes c.args.net.now) c.args.world.now.keys w c.args.i c.args.tries c.args.loss m new
    consistent
    c.in_ok-planned.ensures.fetched))
    ∙ ap (λ (x : Mirroring). length (gets (g.N.Net.passes c.args.net.now) w c.args.i c.args.tries c.args.loss x))
    here in
    let attempts : c.in_ok-planned.attempts
    ≡ attempts_made (g.N.Net.passes c.args.net.now) w c.args.i c.args.tries c.args.loss
    (mirror_of (map mirror_as old) c.args.i) =
    c.in_ok-planned.ensures.counts.attempts
    ∙ made_as (g.N.Net.passes c.args.net.now) c.args.world.now.keys w c.args.i c.args.tries c.args.loss m new consistent
    c.in_ok-planned.ensures.fetched
    ∙ ap (λ (x : Mirroring). attempts_made (g.N.Net.passes c.args.net.now) w c.args.i c.args.tries c.args.loss x)
    here in
    c.in_ok-put_mfetch.ensures
    ∙ ap (λ (text : List ℕ). text ++ mfetch_text c.args.label.now c.from.result c.from-2.result
    c.in_ok-planned.attempts) c.requires.empty
    ∙ (λ k. mfetch_text c.args.label.now ((c.from.ensures ∙ planned) k) ((c.from-2.ensures ∙ kept) k) (attempts k))
