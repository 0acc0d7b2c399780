use Rattle.std.proofs.Common.{◌≡◌, ◌<◌, length, refl, rules}
use Rattle.ndn_name.proofs.SizeLemmas.{so_far-start, so_far-step, so_far-shrinks, so_far-none, so_far-periods}
use Rattle.ndn_name.proofs.SizeLemmas.{so_far-other}
use Rattle.ndn_name.proofs.uri_size.value_len.Goals as goal

pub returns-in-Err-clause-exact : goal.returns-in-Err-clause-exact
returns-in-Err-clause-exact c =
    let text = c.args.text.now in
    let rest = c.loop-rest.rest.now in
    let some : 0 < length rest = search rules in
    rw (so_far-none text rest c.loop-rest.len c.loop-rest.periods c.in-Err.field-0 c.loop-rest.invariant some
    c.in-Err.ensures)
    refl

pub returns-then-periods-clause-exact : goal.returns-then-periods-clause-exact
returns-then-periods-clause-exact c =
    let text = c.args.text.now in
    let rest = c.loop-rest.rest.now in
    let nothing : length rest ≡ 0 = search rules in
    so_far-periods text rest c.loop-rest.len c.loop-rest.periods c.checked_sub.result c.loop-rest.invariant nothing
    c.if-periods.true c.checked_sub.ensures

pub returns-else-periods-clause-exact : goal.returns-else-periods-clause-exact
returns-else-periods-clause-exact c =
    let text = c.args.text.now in
    let rest = c.loop-rest.rest.now in
    let nothing : length rest ≡ 0 = search rules in
    so_far-other text rest c.loop-rest.len c.loop-rest.periods c.loop-rest.invariant nothing c.if-periods.false

pub loop-rest-init : goal.loop-rest-init
loop-rest-init c = so_far-start c.args.text.now

pub loop-rest-smaller : goal.loop-rest-smaller
loop-rest-smaller c =
    so_far-shrinks c.loop-rest.rest.now c.in-Ok.following.now c.in-Ok.octet c.in-Ok.ensures

pub loop-rest-preserved : goal.loop-rest-preserved
loop-rest-preserved c =
    so_far-step c.args.text.now c.loop-rest.rest.now c.in-Ok.following.now c.loop-rest.len c.in-Ok.octet
    c.loop-rest.periods c.loop-rest.invariant c.in-Ok.ensures
