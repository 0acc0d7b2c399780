use Rattle.std.proofs.Common.{◌≡◌, ◌∙◌, ℕ, List, true, ap, sym, subst}
use Rattle.std.specs.Prelude.{OnOk, IfErr}
use Rattle.std.specs.String.{string_bytes}
use Rattle.script_lang.specs.Checking.{is_mirror}
use Rattle.script_story.specs.StatedEvents.{mirror_number}
use Rattle.script_story.specs.Evaluation.{Verdict, begun_world, accepted}
use Rattle.script_lines.specs.RunStates.{IsLineError, MirrorIsThere, state_of_run}
use Rattle.script_lines.proofs.MirrorLines.{heard_checked, heard_same}
use Rattle.script_lines.proofs.run_state.RunState.mirror_hear.Goals as goal

pub mirror-i-requires : goal.mirror-i-requires
mirror-i-requires g c =
    let one = heard_checked c.args.self.now c.args.k (string_bytes c.args.label)
    c.requires.checked in
    subst (λ (l : List ℕ). is_mirror l c.args.self.now.words.mirrors ≡ true) (sym c.deref.ensures) one.known

pub hear_at-requires-clause-there : goal.hear_at-requires-clause-there
hear_at-requires-clause-there g c =
    let one = heard_checked c.args.self.now c.args.k (string_bytes c.args.label)
    c.requires.checked in
    subst (MirrorIsThere c.args.self.now)
    (sym (c.mirror-i.ensures ∙ ap (λ (l : List ℕ). mirror_number l c.args.self.now.words.mirrors) c.deref.ensures))
    one.is

pub returns-clause-taken : goal.returns-clause-taken
returns-clause-taken g c =
    let same = heard_same (begun_world (g.D.Draws.draw c.args.draws.now) (state_of_run c.args.self.now))
    (state_of_run c.args.self.now) c.args.self.now.words c.args.k c.mirror-i.result _ (string_bytes c.args.label) _
    (c.mirror-i.ensures ∙ ap (λ (l : List ℕ). mirror_number l c.args.self.now.words.mirrors) c.deref.ensures)
    c.deref-2.ensures in
    subst (λ (v : Verdict). OnOk c.hear_at.result
    (v ≡ accepted c.hear_at.new.report.items (state_of_run c.hear_at.new.self))) same c.hear_at.ensures.taken

pub returns-clause-stopped : goal.returns-clause-stopped
returns-clause-stopped g c =
    let same = heard_same (begun_world (g.D.Draws.draw c.args.draws.now) (state_of_run c.args.self.now))
    (state_of_run c.args.self.now) c.args.self.now.words c.args.k c.mirror-i.result _ (string_bytes c.args.label) _
    (c.mirror-i.ensures ∙ ap (λ (l : List ℕ). mirror_number l c.args.self.now.words.mirrors) c.deref.ensures)
    c.deref-2.ensures in
    subst (λ (v : Verdict). IfErr c.hear_at.result (IsLineError v)) same c.hear_at.ensures.stopped
