use Rattle.std.proofs.Common.{◌≡◌, ◌<◌, ◌≤◌, ℕ, List, ◌++◌, length, length-append, get_or, ◌^◌, ap, arith}
use Rattle.std.specs.Prelude.{◌↔◌}
use Rattle.std.proofs.lemmas.Result.{err_from_is_err_and}
use Rattle.ndn_tlv.specs.Spelling.{number, element}
use Rattle.ndn_name.specs.Names.{IsComponent}
use Rattle.ndn_name.proofs.Limits.{in_limit}
use Rattle.ndn_name.proofs.Encodings.{pushed, pushed-length, count-fits}
use Rattle.ndn_name.proofs.name.Name.push.Goals as goal

-- the test of the length, in terms of the names
at_names : {R : Type 0} (r : R) (too_long : R) (octets : List ℕ) (n : ℕ) → n ≡ length octets
    → (r ≡ too_long) ↔ (1000 < length octets) → (r ≡ too_long) ↔ (1000 < n)
at_names r too_long octets n e h = rw e h

pub returns-in_err-append_component-clause-too_long : goal.returns-in_err-append_component-clause-too_long
returns-in_err-append_component-clause-too_long c =
    let p = err_from_is_err_and c.from_residual.result c.from_residual.ensures.1 in
    let value = c.args.value.now in
    rw (p.1, p.2)
    (at_names _ _ (c.self.inside.octets.items ++ element c.args.typ value) _
    (pushed-length c.self.inside.octets.items c.self.inside.len c.args.self.now (c.args.typ, value) c.self.invariant.0
    c.self.view_is) c.in_err-append_component.ensures.too_long)

pub overflow_add-self : goal.overflow_add-self
overflow_add-self c =
    omega (arith, count-fits c.self.inside.octets.items c.self.inside.len c.self.invariant.0, c.self.invariant.1)

more : (octets : List ℕ) (typ : ℕ) (value : List ℕ) → 0 < typ → typ < 2 ^ 16 → (typ ≤ 2 → length value ≡ 32)
    → length (octets ++ element typ value) ≤ 1000 → ((i : ℕ) → get_or value i 0 < 256) → IsComponent (typ, value)
more octets typ value above below digest short fits =
    record {
      above = above;
      below = omega (arith, below);
      digest = digest;
      long =
          omega (
            arith,
            short,
            length-append octets (element typ value),
            length-append (number typ ++ number (length value)) value,
          );
      octets = fits;
    }

pub invariant_of-self-2 : goal.invariant_of-self-2
invariant_of-self-2 c =
    let octets = c.self.inside.octets.items in
    let value = c.args.value.now in
    let short = in_limit (length (octets ++ element c.args.typ value)) c.in_ok-append_component.ensures.too_long in
    let one =
    more octets c.args.typ value c.requires.typ (omega arith) c.requires.digest short
    (λ i. omega (arith, c.type_inv.value i)) in
    let p =
    pushed octets c.append_component.new.octets.items c.self.inside.len c.args.self.now (c.args.typ, value)
    c.self.invariant.0 c.self.view_is one c.in_ok-append_component.ensures.ok in
    (p.value, omega (arith, short, ap length c.in_ok-append_component.ensures.ok))

pub returns-clause-ok : goal.returns-clause-ok
returns-clause-ok c =
    let octets = c.self.inside.octets.items in
    let value = c.args.value.now in
    let short = in_limit (length (octets ++ element c.args.typ value)) c.in_ok-append_component.ensures.too_long in
    let one =
    more octets c.args.typ value c.requires.typ (omega arith) c.requires.digest short
    (λ i. omega (arith, c.type_inv.value i)) in
    (pushed octets c.append_component.new.octets.items c.self.inside.len c.args.self.now (c.args.typ, value)
    c.self.invariant.0 c.self.view_is one c.in_ok-append_component.ensures.ok).is

pub returns-clause-too_long : goal.returns-clause-too_long
returns-clause-too_long c =
    let octets = c.self.inside.octets.items in
    let value = c.args.value.now in
    at_names _ _ (octets ++ element c.args.typ value) _
    (pushed-length octets c.self.inside.len c.args.self.now (c.args.typ, value) c.self.invariant.0 c.self.view_is)
    c.in_ok-append_component.ensures.too_long
