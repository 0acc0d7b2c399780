use Rattle.std.proofs.Common.{length, ap, ◌∙◌, arith}
use Rattle.ndn_interest.specs.WrittenInterest.{written_interest}
use Rattle.ndn_name.proofs.OnlyMemory.{only_memory_of_packet}
use Rattle.repo_command.specs.Verbs.{verb_of, command_name}
use Rattle.repo_command.proofs.LengthLemmas.{command-size}
use Rattle.repo_command.proofs.command_interest.make_command.Goals as goal

pub map_err-requires : goal.map_err-requires
map_err-requires c =
    let node = c.args.node.now in
    let short =
    command-size node c.args.command.now c.args.key_name.now c.args.key.now c.requires.node c.requires.name
    c.requires.key_name in
    let parameters = c.deref.ensures.value ∙ c.in_ok-parameters.ensures in
    let name = c.in_ok-name.ensures ∙ ap (command_name node) c.verb_of.ensures in
    let same =
    ap (λ n. length (written_interest n c.deref.result.now c.args.key_name.now c.args.key.now)) name
    ∙ ap (λ octets. length
    (written_interest (command_name node (verb_of c.args.command.now)) octets c.args.key_name.now c.args.key.now))
    parameters in
    only_memory_of_packet c.write_signed.result _ (λ n e. ((c.write_signed.ensures.too_long n).0 e).0)
    (omega (arith, same, short))
