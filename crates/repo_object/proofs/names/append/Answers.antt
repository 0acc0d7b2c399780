use Rattle.std.proofs.Common.{◌++◌, List, ap, sym, ◌∙◌, arith}
use Rattle.ndn_tlv.specs.declared.tlv_fault.TlvFault.{TlvFault}
use Rattle.ndn_tlv.specs.Listing.{Listing}
use Rattle.ndn_tlv.specs.Elements.{Item}
use Rattle.ndn_name.specs.Names.{Component}
use Rattle.ndn_name.proofs.Encodings.{pairs}
use Rattle.ndn_name.proofs.OnlyMemory.{only_memory_of_name}
use Rattle.repo_object.proofs.Sizes.{appended-size}
use Rattle.repo_object.proofs.NameLemmas.{reads_name, prefix-size}
use Rattle.repo_object.proofs.names.append.Goals as goal

pub loop-component-init : goal.loop-component-init
loop-component-init c =
    let read =
    reads_name c.args.more.now c.octets.result.now c.new-components.result c.octets.ensures.name
    c.octets.ensures.spelled c.new-components.ensures.elements in
    record {
      whole = ap (λ (n : List Component). c.args.name.now ++ n) read.items;
      valid = rw read.items c.octets.ensures.name;
      no_fault = read.fault;
    }

pub map_err-requires : goal.map_err-requires
map_err-requires c =
    let seen = rw c.in-Ok-Some.field-0-is at c.in-Ok-Some.ensures.ok in
    let found : Component = (c.in-Ok-Some.component.typ, c.in-Ok-Some.component.value.now) in
    let whole =
    sym (ap (λ (read : Listing Item TlvFault). c.loop-component.name ++ pairs read.items) seen)
    ∙ c.loop-component.invariant.whole in
    let prefix =
    prefix-size c.loop-component.name found (pairs c.next.new.self.items) (c.args.name.now ++ c.args.more.now) whole in
    only_memory_of_name c.push.result _ (λ e. c.push.ensures.too_long.0 e) c.push.ensures.refused
    (omega (arith, prefix, appended-size c.args.name.now c.args.more.now))
