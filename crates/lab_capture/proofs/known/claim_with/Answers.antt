use Rattle.std.proofs.Common.{◌≡◌, ◌∙◌, ap, subst, ℕ, List, Option, Some}
use Rattle.repo_plan.specs.declared.part.Part.{Part}
use Rattle.repo_plan.specs.Plan.{claim_of}
use Rattle.std.specs.Prelude.{IsSomeAnd}
use Rattle.repo_member.specs.MemberState.{MemberState, member_plan, want_of}
use Rattle.repo_member.specs.Groups.{GroupKeys}
use Rattle.lab_capture.specs.Frames.{Claimed}
use Rattle.lab_capture.proofs.Worlds.{claim_is_sent}
use Rattle.lab_capture.proofs.known.claim_with.Goals as goal

pub returns-in_ok-to_vec-in-Ok : goal.returns-in_ok-to_vec-in-Ok
returns-in_ok-to_vec-in-Ok c =
    let with_them : Part → List ℕ → Option Claimed = λ t i.
    Some (record { asker = c.args.asker; asked = c.args.asked; part = t; interest = i }) in
    let at : MemberState → GroupKeys → Type 0 = λ a g.
    IsSomeAnd (claim_of (member_plan a) c.args.f) (λ part. c.in-Ok.want ≡ want_of g a.store part) in
    let octets = c.in_ok-to_vec-in-Ok.ensures.items_if_clones_equal (λ x y e. e) ∙ c.interest.ensures in
    ap (λ (t : Part). with_them t c.in_ok-to_vec-in-Ok.field-0.items) c.part.ensures
    ∙ ap (with_them c.in-Ok.want.part) octets
    ∙ claim_is_sent c.args.world.now c.cite_soundness.ensures.consistent c.args.asker c.requires.there c.args.asked
    c.args.f
    c.in-Ok.want (subst (λ (a : MemberState). at a c.args.world.now.keys) c.member.ensures.same
    (subst (at c.member.result.now) c.group.ensures c.in-Ok.ensures.want))
