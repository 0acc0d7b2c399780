use Rattle.std.proofs.Common.{Option, sym, ap, ◌∙◌, option_map, arith}
use Rattle.ndn_tlv.specs.Listing.{Listing}
use Rattle.ndn_tlv.specs.Elements.{Item, IsOctets, item}
use Rattle.ndn_tlv.specs.declared.element.Element.{Element}
use Rattle.ndn_tlv.specs.declared.tlv_fault.TlvFault.{TlvFault}
use Rattle.ndn_packet.proofs.Outers.{outer_ok}
use Rattle.repo_object.specs.Bodies.{first_of_type, value_of}
use Rattle.repo_object.proofs.PlaceLemmas.{first_lies, first_value_is}
use Rattle.repo_object.proofs.body.place_of.Goals as goal

pub overflow_cast-result : goal.overflow_cast-result
overflow_cast-result c =
    let octets = c.args.octets.now in
    let fits : IsOctets octets = λ i. omega (arith, c.type_inv.octets i) in
    let outer = rw c.unwrap-packet.ensures at c.outer_element.ensures.read in
    let first =
    sym
    (ap (λ (r : Option Element). option_map item r) (sym c.in-Some.is)
    ∙ c.first_of_type.ensures
    ∙ ap (λ (l : Listing Item TlvFault). first_of_type c.args.typ l.items) c.new-elements.ensures.elements) in
    let found = first_lies octets (item c.unwrap-packet.result) fits outer c.args.typ (item c.in-Some.field) first in
    omega (arith, found.ordered, found.within, (outer_ok 0x06 octets (item c.unwrap-packet.result) fits outer).short)

pub overflow_cast-result-in-Some : goal.overflow_cast-result-in-Some
overflow_cast-result-in-Some c =
    let octets = c.args.octets.now in
    let fits : IsOctets octets = λ i. omega (arith, c.type_inv.octets i) in
    let outer = rw c.unwrap-packet.ensures at c.outer_element.ensures.read in
    let first =
    sym
    (ap (λ (r : Option Element). option_map item r) (sym c.in-Some.is)
    ∙ c.first_of_type.ensures
    ∙ ap (λ (l : Listing Item TlvFault). first_of_type c.args.typ l.items) c.new-elements.ensures.elements) in
    let found = first_lies octets (item c.unwrap-packet.result) fits outer c.args.typ (item c.in-Some.field) first in
    omega (arith, found.within, (outer_ok 0x06 octets (item c.unwrap-packet.result) fits outer).short)

pub returns-in-Some : goal.returns-in-Some
returns-in-Some c =
    let octets = c.args.octets.now in
    let fits : IsOctets octets = λ i. omega (arith, c.type_inv.octets i) in
    let outer = rw c.unwrap-packet.ensures at c.outer_element.ensures.read in
    let first =
    sym
    (ap (λ (r : Option Element). option_map item r) (sym c.in-Some.is)
    ∙ c.first_of_type.ensures
    ∙ ap (λ (l : Listing Item TlvFault). first_of_type c.args.typ l.items) c.new-elements.ensures.elements) in
    let found = first_lies octets (item c.unwrap-packet.result) fits outer c.args.typ (item c.in-Some.field) first in
    record {
      ordered = found.ordered;
      within = found.within;
      there =
          found.there
          ∙ sym (first_value_is c.args.typ octets (item c.unwrap-packet.result) outer ∙ ap value_of first);
    }

pub returns-in-None : goal.returns-in-None
returns-in-None c =
    let octets = c.args.octets.now in
    let outer = rw c.unwrap-packet.ensures at c.outer_element.ensures.read in
    let first =
    sym
    (ap (λ (r : Option Element). option_map item r) (sym c.in-None.is)
    ∙ c.first_of_type.ensures
    ∙ ap (λ (l : Listing Item TlvFault). first_of_type c.args.typ l.items) c.new-elements.ensures.elements) in
    record {
      ordered = omega arith;
      within = omega arith;
      there = sym (first_value_is c.args.typ octets (item c.unwrap-packet.result) outer ∙ ap value_of first);
    }
