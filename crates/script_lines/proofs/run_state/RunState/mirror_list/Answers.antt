use Rattle.std.proofs.Common.{◌≡◌, ◌∙◌, ℕ, List, true, ap, sym, subst}
use Rattle.std.specs.Prelude.{OnOk}
use Rattle.std.specs.String.{string_bytes}
use Rattle.script_lang.specs.Checking.{is_mirror}
use Rattle.script_story.specs.StatedEvents.{mirror_number}
use Rattle.script_story.specs.Evaluation.{Verdict, begun_world, accepted}
use Rattle.script_lines.specs.RunStates.{MirrorIsThere, state_of_run}
use Rattle.script_lines.proofs.MirrorLines.{listed_checked, listed_same}
use Rattle.script_lines.proofs.run_state.RunState.mirror_list.Goals as goal

pub mirror-i-requires : goal.mirror-i-requires
mirror-i-requires g c =
    let one = listed_checked c.args.self.now (string_bytes c.args.label)
    c.requires.checked in
    subst (λ (l : List ℕ). is_mirror l c.args.self.now.words.mirrors ≡ true) (sym c.deref.ensures) one.known

pub list_at-requires-clause-there : goal.list_at-requires-clause-there
list_at-requires-clause-there g c =
    let one = listed_checked c.args.self.now (string_bytes c.args.label)
    c.requires.checked in
    subst (MirrorIsThere c.args.self.now)
    (sym (c.mirror-i.ensures ∙ ap (λ (l : List ℕ). mirror_number l c.args.self.now.words.mirrors) c.deref.ensures))
    one.is

pub returns-clause-taken : goal.returns-clause-taken
returns-clause-taken g c =
    let same = listed_same (begun_world (g.D.Draws.draw c.args.draws.now) (state_of_run c.args.self.now))
    (state_of_run c.args.self.now) c.args.self.now.words c.mirror-i.result _ (string_bytes c.args.label) _
    (c.mirror-i.ensures ∙ ap (λ (l : List ℕ). mirror_number l c.args.self.now.words.mirrors) c.deref.ensures)
    c.deref-2.ensures in
    subst (λ (v : Verdict). OnOk c.list_at.result
    (v ≡ accepted c.list_at.new.report.items (state_of_run c.list_at.new.self))) same c.list_at.ensures.taken
