use Rattle.std.proofs.Common.{◌≡◌, Ok, refl, ap, subst}
use Rattle.script_lang.specs.Checking.{after_line}
use Rattle.script_lang.specs.Forms.{Stated, stated}
use Rattle.live_script.specs.Evaluation.{Reached, may_stand}
use Rattle.live_script.proofs.Declaring.{group_declares, group_kept, group_named, group_taken}
use Rattle.live_script.proofs.Taking.{stopped_by}
use Rattle.live_script.proofs.script.Script.declare_group.Goals as goal

pub returns-in_err-check-clause-stopped : goal.returns-in_err-check-clause-stopped
returns-in_err-check-clause-stopped c =
    stopped_by _ c.args.self (stated c.args.line.now) c.in_err-check.field-0.0 c.from_residual.result c.self.view_is
    (ap (λ (s : Stated). may_stand s.verb) c.requires.is) c.in_err-check.ensures.refused c.from_residual.ensures.1

pub new-requires : goal.new-requires
new-requires c =
    group_named (stated c.args.line.now) c.args.name.now c.requires.line c.requires.is c.cite_soundness.ensures.name

pub invariant_of-self : goal.invariant_of-self
invariant_of-self c =
    let words = c.self.inside.draft.words in
    let declares = group_declares words c.check.new.self c.args.name.now
    (subst (λ (s : Stated). after_line words s ≡ Ok c.check.new.self) c.requires.is c.in_ok-check.ensures.ok) in
    rw c.in_ok-new.ensures (group_kept _ c.self.inside.draft.group _ _ c.check.new.self c.args.name.now refl
    c.self.invariant declares.0 declares.1)

pub returns-clause-taken : goal.returns-clause-taken
returns-clause-taken c =
    group_taken _ c.args.self (stated c.args.line.now) c.check.new.self c.args.name.now c.in_ok-new.field-0
    c.self.view_is c.requires.is c.in_ok-check.ensures.ok c.in_ok-new.ensures

pub returns-clause-same : goal.returns-clause-same
returns-clause-same c = (ap (λ (r : Reached). r.lines) c.self.view_is, ap (λ (r : Reached). r.octets) c.self.view_is)
