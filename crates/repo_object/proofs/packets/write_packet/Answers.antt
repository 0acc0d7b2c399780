use Rattle.std.proofs.Common.{rules, length, List, ℕ, IsOk, refl, subst, sym}
use Rattle.std.proofs.lemmas.Result.{IfOk-weaker}
use Rattle.ndn_data.specs.Data.{data_of}
use Rattle.ndn_data.specs.WrittenData.{written_data}
use Rattle.ndn_data.proofs.ReadBackLemmas.{data_again}
use Rattle.ndn_name.proofs.OnlyMemory.{only_memory_of_packet}
use Rattle.repo_object.proofs.packets.write_packet.Goals as goal

pub map_err-requires : goal.map_err-requires
map_err-requires c =
    only_memory_of_packet c.write_signed.result
    (length (written_data c.args.name.now c.args.last c.args.content.now c.args.key_name.now c.args.key.now))
    (λ n e. ((c.write_signed.ensures.too_long n).0 e).0) c.requires

pub returns-clause-written : goal.returns-clause-written
returns-clause-written c = search rules

pub returns-clause-data : goal.returns-clause-data
returns-clause-data c =
    let is_data : List ℕ → Type 0 = λ octets. IsOk (data_of octets) in
    let again =
    data_again c.args.name.now c.args.key_name.now c.args.last c.args.content.now c.args.key.now
    c.cite_soundness.ensures.name
    c.cite_soundness-2.ensures.name c.requires in
    IfOk-weaker c.map_err.result _ (λ packet. is_data packet.items)
    (λ packet same. subst is_data (sym same) (subst IsOk (sym again) refl)) (returns-clause-written c)
