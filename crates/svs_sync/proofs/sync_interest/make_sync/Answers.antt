use Rattle.std.proofs.Common.{◌≤◌, length, ap, ◌∙◌, arith}
use Rattle.ndn_name.proofs.OnlyMemory.{only_memory_of_packet}
use Rattle.ndn_interest.specs.WrittenInterest.{written_interest}
use Rattle.svs_sync.specs.SyncInterest.{sync_name}
use Rattle.svs_sync.proofs.LengthLemmas.{sync_interest_short}
use Rattle.svs_sync.proofs.sync_interest.make_sync.Goals as goal

pub map_err-requires : goal.map_err-requires
map_err-requires c =
    let names = c.args.roster.now in
    let few : length names ≤ 16 = omega arith in
    let short =
    sync_interest_short c.args.group.now c.args.vector.now names c.args.key_name.now c.args.key.now c.requires.group few
    c.requires.members c.requires.key_name in
    let parameters = c.deref.ensures.value ∙ c.in_ok-parameters.ensures.ok in
    let same =
    ap (λ name. length (written_interest name c.deref.result.now c.args.key_name.now c.args.key.now))
    c.in_ok-name.ensures
    ∙ ap (λ octets. length (written_interest (sync_name c.args.group.now) octets c.args.key_name.now c.args.key.now))
    parameters in
    only_memory_of_packet c.write_signed.result _ (λ n e. ((c.write_signed.ensures.too_long n).0 e).0)
    (omega (arith, same, short))
