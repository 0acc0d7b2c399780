use Rattle.std.proofs.Common.{◌≤◌, length, List, [], sym, ap, ◌∙◌, subst}
use Rattle.std.specs.Prelude.{slice_get, unwrap_or}
use Rattle.ndn_name.specs.Names.{Component, encoding}
use Rattle.repo_object.proofs.PacketSizes.{key_name-size}
use Rattle.repo_member.proofs.PublicLaws.{client_plain}
use Rattle.bench_world.proofs.world.commanding.made.Goals as goal

pub make_command-requires-clause-key_name : goal.make_command-requires-clause-key_name
make_command-requires-clause-key_name c =
    let client = c.args.client in
    let named =
    ap (λ o. unwrap_or o []) (ap (λ ns. slice_get ns client) (sym c.client_names.ensures.names) ∙ c.name.ensures) in
    subst (λ (n : List Component). length (encoding n) ≤ 205) (sym c.in_ok-key_name.ensures)
    (key_name-size c.name.result.now
    (subst (λ (n : List Component). length (encoding n) ≤ 200) named
    (client_plain c.args.g.now c.cite_soundness.ensures.clients client c.requires.client).short))
