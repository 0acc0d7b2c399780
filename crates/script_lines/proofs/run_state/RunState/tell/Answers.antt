use Rattle.std.proofs.Common.{◌≡◌, ◌∙◌, ◌<◌, ℕ, List, true, length, ap, sym, subst}
use Rattle.std.specs.Prelude.{OnOk, IfErr}
use Rattle.std.specs.String.{string_bytes}
use Rattle.script_lang.specs.Checking.{has_label}
use Rattle.script_story.specs.StatedEvents.{party_number}
use Rattle.script_story.specs.Evaluation.{Verdict, begun_world, accepted}
use Rattle.script_lines.specs.RunStates.{IsLineError, state_of_run}
use Rattle.script_lines.proofs.WatchLines.{announced_checked, reported_same}
use Rattle.script_lines.proofs.run_state.RunState.tell.Goals as goal

pub member-m-requires : goal.member-m-requires
member-m-requires g c =
    let one = announced_checked c.args.self.now (string_bytes c.args.label) c.args.number c.requires.checked in
    subst (λ (l : List ℕ). has_label l c.args.self.now.words.members ≡ true) (sym c.deref.ensures) one.known

pub tell_watcher-requires-clause-there : goal.tell_watcher-requires-clause-there
tell_watcher-requires-clause-there g c =
    let one = announced_checked c.args.self.now (string_bytes c.args.label) c.args.number c.requires.checked in
    subst (λ (n : ℕ). n < length c.args.self.now.words.members) (sym (c.member-m.ensures
    ∙ ap (λ (l : List ℕ). party_number l c.args.self.now.words.members) c.deref.ensures)) one.there

pub tell_watcher-requires-clause-at : goal.tell_watcher-requires-clause-at
tell_watcher-requires-clause-at g c =
    let one = announced_checked c.args.self.now (string_bytes c.args.label) c.args.number c.requires.checked in
    one.at

pub returns-clause-taken : goal.returns-clause-taken
returns-clause-taken g c =
    let same =
    reported_same (begun_world (g.D.Draws.draw c.args.draws.now) (state_of_run c.args.self.now))
    (state_of_run c.args.self.now) c.args.self.now.words c.member-m.result _ c.args.number
    (c.member-m.ensures
    ∙ ap (λ (l : List ℕ). party_number l c.args.self.now.words.members) c.deref.ensures) in
    subst (λ (v : Verdict). OnOk c.tell_watcher.result (v ≡ accepted c.tell_watcher.new.report.items
    (state_of_run c.tell_watcher.new.self))) same c.tell_watcher.ensures.taken

pub returns-clause-stopped : goal.returns-clause-stopped
returns-clause-stopped g c =
    let same =
    reported_same (begun_world (g.D.Draws.draw c.args.draws.now) (state_of_run c.args.self.now))
    (state_of_run c.args.self.now) c.args.self.now.words c.member-m.result _ c.args.number
    (c.member-m.ensures
    ∙ ap (λ (l : List ℕ). party_number l c.args.self.now.words.members) c.deref.ensures) in
    subst (λ (v : Verdict). IfErr c.tell_watcher.result (IsLineError v)) same c.tell_watcher.ensures.stopped
