use Rattle.std.proofs.Common.{◌≡◌, ◌∙◌, Bool, true, Ok, Result, ap, sym}
use Rattle.std.specs.Prelude.{if◌then◌else◌}
use Rattle.repo_plan.specs.declared.part.Part.{Part}
use Rattle.repo_plan.specs.Plan.{claim_of}
use Rattle.repo_member.specs.declared.refusals.AcceptRefusal.{AcceptRefusal}
use Rattle.repo_member.specs.MemberState.{member_plan, member_accepts}
use Rattle.live_member.specs.Calls.{is_claim}
use Rattle.live_member.proofs.AcceptSteps.{claims_it}
use Rattle.live_member.proofs.calls.accepted.Goals as goal

same_part : (t u : Part) → (let r : Result Part AcceptRefusal = Ok t in r) ≡ Ok u → t ≡ u
same_part t u h = cc

pub returns-in-Ok-clause-ok : goal.returns-in-Ok-clause-ok
returns-in-Ok-clause-ok c =
    let a = c.args.member.now in
    let claim = claim_of (member_plan a) c.args.f in
    let is : is_claim c.args.part claim ≡ true = sym c.claims.ensures ∙ c.if-not-claims.false in
    let verdict = c.requires.passes (claims_it c.args.part claim is) in
    let same : c.in-Ok.field-0 ≡ c.args.part =
    same_part c.in-Ok.field-0 c.args.part (sym c.in-Ok.ensures.part ∙ verdict) in
    c.in-Ok.ensures.ok
    ∙ ap (λ (t : Part). member_accepts c.args.f t c.args.octets.now a) same
    ∙ ap (λ (b : Bool). if b then member_accepts c.args.f c.args.part c.args.octets.now a else a) (sym is)
