use Rattle.std.proofs.Common.{map, Vec, Global, String, refl, ap}
use Rattle.std.specs.Prelude.{string_bytes}
use Rattle.repo_object.specs.declared.object.Object.{Object}
use Rattle.live_script.specs.declared.members.Members.{Members}
use Rattle.live_script.proofs.Declaring.{nobody_kept}
use Rattle.live_script.proofs.Giving.{gives}
use Rattle.live_script.proofs.script.Script.into_members.Goals as goal

pub returns-in_default-clause-none : goal.returns-in_default-clause-none
returns-in_default-clause-none c =
    nobody_kept _ c.self.inside.draft.group _ _ c.args.self c.self.view_is refl c.in_default.ensures.none
    c.self.invariant

pub returns-clause-some : goal.returns-clause-some
returns-clause-some c =
    let m : Members = c.in-Some.members in
    let same = c.in-Some.ensures.some in
    gives _ c.self.inside.draft.group _ _ c.args.self m.group m.labels m.lists c.self.view_is
    (ap (λ (ls : Vec (String Global) Global). map string_bytes ls.items) same.1) refl
    (ap (λ (ls : Vec (Vec Object Global) Global). map (λ l. l.items) ls.items) same.2) same.0 c.self.invariant
    c.cite_soundness.ensures
