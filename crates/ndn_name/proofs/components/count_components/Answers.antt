use Rattle.std.proofs.Common.{◌≡◌, ◌+◌, ◌<◌, ◌^◌, ℕ, List, [], ◌∷◌, ◌++◌, length, length-append, Result, Ok, Err, refl}
use Rattle.std.proofs.Common.{sym, ap, subst, ◌∙◌, arith}
use Rattle.std.proofs.lemmas.Result.{err_from_is_err_and}
use Rattle.ndn_tlv.specs.declared.tlv_fault.TlvFault.{TlvFault}
use Rattle.ndn_tlv.specs.Listing.{Listing, ◌>>=◌, gathered}
use Rattle.ndn_tlv.specs.Elements.{AreWithin, IsOctets, Item, item}
use Rattle.ndn_tlv.proofs.Gathers.{all_gathered, ends_at_fault, ends_at_step, goes_on}
use Rattle.ndn_name.specs.declared.name_fault.NameFault.{NameFault}
use Rattle.ndn_name.specs.declared.name_fault.NameFault.TheVariants.{Tlv}
use Rattle.ndn_name.specs.Names.{Component, IsValue, component, with_component, name_of, components}
use Rattle.ndn_name.proofs.Encodings.{name_of-encoded, value-name_of, IsValue-encoding}
use Rattle.ndn_name.proofs.components.count_components.Goals as goal

abbrev added : List Component → Component → Result (List Component) NameFault
added prefix c = Ok (prefix ++ c ∷ [])

pub loop-element-init : goal.loop-element-init
loop-element-init c = record {
  prefix = [];
  counted = refl;
  so_far = ap (gathered with_component Tlv []) c.new-elements.ensures.elements;
  low = c.args.base;
  passed = omega arith;
  within = c.new-elements.ensures.within;
}

pub returns-in_err-element-clause-read : goal.returns-in_err-element-clause-read
returns-in_err-element-clause-read c =
    let p = err_from_is_err_and c.from_residual.result c.from_residual.ensures.1 in
    let inv = c.loop-element.invariant in
    rw (p.1, p.2)
    (ends_at_fault with_component Tlv inv.prefix c.loop-element.elements (name_of c.args.base c.args.value.now)
    inv.so_far c.in_err-element.field-0.0 c.in_err-element.ensures.fault)

pub returns-in_err-component_of-clause-read : goal.returns-in_err-component_of-clause-read
returns-in_err-component_of-clause-read c =
    let p =
    err_from_is_err_and c.from_residual-in_err-component_of.result c.from_residual-in_err-component_of.ensures.1 in
    let inv = c.loop-element.invariant in
    let seen = rw c.in-Some.is at c.in_ok-element.ensures.ok in
    let step : with_component inv.prefix (item c.in-Some.element) ≡ Err c.in_err-component_of.field-0.0 =
    ap (λ (r : Result Component NameFault). r >>= added inv.prefix) c.in_err-component_of.ensures in
    rw (p.1, p.2)
    (ends_at_step with_component Tlv inv.prefix c.loop-element.elements (name_of c.args.base c.args.value.now)
    inv.so_far
    (item c.in-Some.element) c.next.new.self c.in_err-component_of.field-0.0 seen step)

pub loop-element-preserved : goal.loop-element-preserved
loop-element-preserved c =
    let inv = c.loop-element.invariant in
    let seen = rw c.in-Some.is at c.in_ok-element.ensures.ok in
    let e = item c.in-Some.element in
    let found = component c.in_ok-component_of.field-0 in
    let next : List Component = inv.prefix ++ found ∷ [] in
    let step : with_component inv.prefix e ≡ Ok next =
    ap (λ (r : Result Component NameFault). r >>= added inv.prefix) c.in_ok-component_of.ensures in
    let P : Listing Item TlvFault → Type 0 =
    λ read. AreWithin inv.low (c.args.base + length c.args.value.now) read.items in
    let within = subst P seen inv.within in
    record {
      prefix = next;
      counted = omega (arith, inv.counted, length-append inv.prefix (found ∷ []));
      so_far =
          goes_on with_component Tlv inv.prefix c.loop-element.elements (name_of c.args.base c.args.value.now)
          inv.so_far
          e c.next.new.self next seen step;
      low = e.end;
      passed = omega (arith, inv.passed, within.0, within.1, within.2);
      within = within.3;
    }

whole : (value : List ℕ) (base len : ℕ) (prefix : List Component) → IsOctets value → length value < 2 ^ 64
    → len ≡ length prefix → name_of base value ≡ Ok prefix
    → (name_of base value ≡ Ok (components value)) × IsValue value len
whole value base len prefix fits long counted read =
    let e = name_of-encoded base value prefix fits long read in
    let P : ℕ → Type 0 = λ n. IsValue value n in (
      read ∙ ap (λ (n : List Component). Ok n) (sym (value-name_of base value prefix fits long read)),
      subst P (sym counted) (IsValue-encoding value prefix e.0 e.1),
    )

pub returns-clause-read : goal.returns-clause-read
returns-clause-read c =
    let inv = c.loop-element.invariant in
    let seen = rw c.in_default.is at c.in_ok-element.ensures.ok in
    let value = c.args.value.now in
    let read =
    all_gathered with_component Tlv inv.prefix c.loop-element.elements (name_of c.args.base value) inv.so_far seen.0 in
    (whole value c.args.base c.loop-element.len inv.prefix (λ i. omega (arith, c.type_inv.value i)) (omega arith)
    inv.counted read).0

pub returns-clause-value : goal.returns-clause-value
returns-clause-value c =
    let inv = c.loop-element.invariant in
    let seen = rw c.in_default.is at c.in_ok-element.ensures.ok in
    let value = c.args.value.now in
    let read =
    all_gathered with_component Tlv inv.prefix c.loop-element.elements (name_of c.args.base value) inv.so_far seen.0 in
    (whole value c.args.base c.loop-element.len inv.prefix (λ i. omega (arith, c.type_inv.value i)) (omega arith)
    inv.counted read).1
