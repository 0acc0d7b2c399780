use Rattle.std.proofs.Common.{◌≡◌, ℕ, List, ◌++◌, length, take, sym, ap, subst, ◌∙◌, arith}
use Rattle.std.proofs.lemmas.Grind.{common_steps}
use Rattle.std.proofs.Math.Seq.{take-length}
use Rattle.ndn_tlv.specs.declared.tlv_fault.TlvFault.{TlvFault}
use Rattle.ndn_tlv.specs.Listing.{Listing}
use Rattle.ndn_tlv.specs.Elements.{Item, elements}
use Rattle.ndn_name.specs.Names.{Component, IsName}
use Rattle.ndn_name.specs.Uri.{path_text}
use Rattle.ndn_name.proofs.Appends.{prefix-longer, prefix-more}
use Rattle.ndn_name.proofs.Encodings.{Reads, elements-encoding}
use Rattle.ndn_name.proofs.name_view.NameView.put_uri_parts.Goals as goal

pub loop-element-init : goal.loop-element-init
loop-element-init c =
    let name = c.args.self.now in
    let P : Listing Item TlvFault → Type 0 = λ read. Reads name read in
    let same = c.new-elements.ensures.elements ∙ ap (elements 0) c.octets.ensures.spelled in
    let read = subst P (sym same) (elements-encoding 0 name c.octets.ensures.name) in
    let Q : List Component → Type 0 = λ n. IsName n in
    record {
      prefix = take-length c.args.out.now.items;
      so_far = ap (λ (t : List ℕ). c.args.out.now.items ++ t) (ap path_text read.items);
      name = subst Q (sym read.items) c.octets.ensures.name;
      fault = read.fault;
    }

pub returns-in_err-put_component-clause-prefix : goal.returns-in_err-put_component-clause-prefix
returns-in_err-put_component-clause-prefix c =
    let out = c.args.out.now.items in
    let slashed = c.extend_from_slice-in-Ok-Some.new.self.items in
    let mid : take (length out) slashed ≡ out =
    prefix-more out c.loop-element.out.items slashed _ c.loop-element.invariant.prefix
    c.in_ok-extend_from_slice.ensures.items in
    prefix-longer out slashed c.put_component.new.out.items mid c.put_component.ensures.prefix

pub loop-element-preserved : goal.loop-element-preserved
loop-element-preserved c =
    let out = c.args.out.now.items in
    let slashed = c.extend_from_slice-in-Ok-Some.new.self.items in
    let mid : take (length out) slashed ≡ out =
    prefix-more out c.loop-element.out.items slashed _ c.loop-element.invariant.prefix
    c.in_ok-extend_from_slice.ensures.items in
    record {
      prefix = prefix-longer out slashed c.put_component.new.out.items mid c.put_component.ensures.prefix;
      so_far = grind (arith, common_steps);
      name = grind (arith, common_steps);
      fault = grind (arith, common_steps);
    }
