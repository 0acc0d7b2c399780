use Rattle.std.proofs.Common.{◌≡◌, ◌∙◌, List, sym, ap, subst, arith, length}
use Rattle.std.proofs.lemmas.Result.{IfOk-weaker}
use Rattle.live_member.specs.Lives.{Living}
use Rattle.live_settle.specs.Ready.{ArePlaced, KeepPrefixes}
use Rattle.live_settle.proofs.Ending.{prefixes_come_out}
use Rattle.live_settle.proofs.Prefixes.{prefixes_on}
use Rattle.live_settle.proofs.Places.{placed_from, numbers_in_prefix, in_prefix}
use Rattle.live_settle.proofs.settling.settle.Goals as goal

pub all_ready-requires-clause-placed : goal.all_ready-requires-clause-placed
all_ready-requires-clause-placed g c =
    subst (ArePlaced g.L.Lists.meaning) (sym c.as_mut_slice.ensures.value)
    (placed_from g.L.Lists.meaning c.args.lives.items c.requires.numbers)

pub all_ran-requires-clause-numbers : goal.all_ran-requires-clause-numbers
all_ran-requires-clause-numbers g c =
    let t = g.L.Lists.meaning in
    let first = placed_from t c.args.lives.items c.requires.numbers in
    let placed = c.in_ok-all_gather.ensures.ready.placed in
    numbers_in_prefix t _ c.all_gather.new.lives _ placed
    (omega (arith, first.width, placed.width, c.as_mut_slice.ensures.len, ap length c.as_mut_slice.ensures.value))

pub returns-clause-prefixes : goal.returns-clause-prefixes
returns-clause-prefixes g c =
    let t = g.L.Lists.meaning in
    let n = c.args.lives.len in
    let old = c.args.lives.items in
    let one = c.all_ready.new.lives in
    let two = c.all_hear.new.lives in
    let three = c.all_gather.new.lives in
    let given = c.as_mut_slice.ensures.value in
    let long : n ≡ length t.lists =
    (let first = placed_from t old c.requires.numbers in
    omega (arith, first.width, c.as_mut_slice.ensures.len, ap length given)) in
    let ready : c.as_mut_slice-2.result.now ≡ one =
    c.as_mut_slice-2.ensures.value ∙ in_prefix n one _ (long ∙ sym c.in_ok-all_ready.ensures.ready.placed.width) in
    let heard : c.as_mut_slice-3.result.now ≡ two =
    c.as_mut_slice-3.ensures.value ∙ in_prefix n two _ (long ∙ sym c.in_ok-all_hear.ensures.ready.placed.width) in
    let prefixes : KeepPrefixes old three =
    prefixes_on old one three
    (subst (λ (ls : List Living). KeepPrefixes ls one) given c.in_ok-all_ready.ensures.prefixes)
    (prefixes_on one two three
    (subst (λ (ls : List Living). KeepPrefixes ls two) ready c.in_ok-all_hear.ensures.prefixes)
    (subst (λ (ls : List Living). KeepPrefixes ls three) heard c.in_ok-all_gather.ensures.prefixes)) in
    IfOk-weaker c.all_ran.result _ _ (λ rans journals.
    prefixes_come_out old three _ rans.items prefixes
    (in_prefix n three _ (long ∙ sym c.in_ok-all_gather.ensures.ready.placed.width)) journals)
    c.all_ran.ensures.journals
