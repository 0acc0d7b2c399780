use Rattle.std.proofs.Common.{◌≡◌, ◌∙◌, ℕ, List, true, ap, sym, subst}
use Rattle.std.specs.Prelude.{OnOk}
use Rattle.std.specs.String.{string_bytes}
use Rattle.script_lang.specs.Checking.{is_mirror}
use Rattle.script_story.specs.StatedEvents.{mirror_number}
use Rattle.script_story.specs.Evaluation.{Verdict, begun_world, env_by, accepted}
use Rattle.script_lines.specs.RunStates.{MirrorIsThere, state_of_run}
use Rattle.script_lines.proofs.MirrorLines.{fetched_checked, fetched_same}
use Rattle.script_lines.proofs.run_state.RunState.mirror_fetch.Goals as goal

pub mirror-i-requires : goal.mirror-i-requires
mirror-i-requires g c =
    let one = fetched_checked c.args.self.now (string_bytes c.args.label) c.args.workers c.args.tries c.args.loss
    c.requires.checked in
    subst (λ (l : List ℕ). is_mirror l c.args.self.now.words.mirrors ≡ true) (sym c.deref.ensures) one.of.known

pub fetch_at-requires-clause-there : goal.fetch_at-requires-clause-there
fetch_at-requires-clause-there g c κs within =
    let one = fetched_checked c.args.self.now (string_bytes c.args.label) c.args.workers c.args.tries c.args.loss
    c.requires.checked in
    subst (MirrorIsThere c.args.self.now)
    (sym (c.mirror-i.ensures ∙ ap (λ (l : List ℕ). mirror_number l c.args.self.now.words.mirrors) c.deref.ensures))
    one.of.is

pub fetch_at-requires-clause-fits : goal.fetch_at-requires-clause-fits
fetch_at-requires-clause-fits g c κs within =
    let one = fetched_checked c.args.self.now (string_bytes c.args.label) c.args.workers c.args.tries c.args.loss
    c.requires.checked in
    one.fits

pub returns-clause-taken : goal.returns-clause-taken
returns-clause-taken g c =
    let same = fetched_same (env_by (g.D.Draws.draw c.args.draws.now) (g.N.Net.passes c.args.net.now))
    (begun_world (g.D.Draws.draw c.args.draws.now) (state_of_run c.args.self.now))
    (state_of_run c.args.self.now) c.args.self.now.words c.mirror-i.result _ (string_bytes c.args.label) _
    c.args.tries c.args.loss
    (c.mirror-i.ensures ∙ ap (λ (l : List ℕ). mirror_number l c.args.self.now.words.mirrors) c.deref.ensures)
    c.deref-2.ensures in
    subst (λ (v : Verdict). OnOk c.fetch_at.result
    (v ≡ accepted c.fetch_at.new.report.items (state_of_run c.fetch_at.new.self))) same c.fetch_at.ensures.taken
