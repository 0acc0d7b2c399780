use Rattle.std.proofs.Common.{◌∙◌, ap, sym}
use Rattle.repo_store.specs.Served.{served}
use Rattle.repo_member.specs.MemberState.{MemberState}
use Rattle.lab_capture.specs.Frames.{found}
use Rattle.lab_capture.proofs.Worlds.{store_is}
use Rattle.lab_capture.proofs.frames.served_by.Goals as goal

pub returns-in-Ok : goal.returns-in-Ok
returns-in-Ok c = sym (ap found (
    ap (served c.args.octets.now)
    (sym (store_is c.args.world.now c.cite_soundness.ensures.consistent c.args.m c.requires))
    ∙ ap (λ (a : MemberState). served c.args.octets.now a.store) (sym c.member.ensures.same)
    ∙ c.in-Ok.ensures))

pub returns-in-Err : goal.returns-in-Err
returns-in-Err c = sym (ap found (
    ap (served c.args.octets.now)
    (sym (store_is c.args.world.now c.cite_soundness.ensures.consistent c.args.m c.requires))
    ∙ ap (λ (a : MemberState). served c.args.octets.now a.store) (sym c.member.ensures.same)
    ∙ c.in-Err.ensures))
