use Rattle.std.proofs.Common.{arith, [], ◌∷◌, refl, ap, ◌∙◌}
use Rattle.fetch_board.specs.declared.word.Word.TheVariants.{Wanted}
use Rattle.fetch_board.specs.declared.taken.Taken.TheVariants.{Yes, Held, Done, Spent}
use Rattle.fetch_board.specs.Seats.{looked}
use Rattle.fetch_board.proofs.Opened.{finds_word, wanted_found}
use Rattle.fetch_board.proofs.Known.{known_after}
use Rattle.fetch_board.proofs.board.Board.claim.Goals as goal

pub loop-ended-init : goal.loop-ended-init
loop-ended-init g c = (c.requires.seat, ([], refl), omega arith, omega arith)

pub loop-ended-preserved : goal.loop-ended-preserved
loop-ended-preserved g c =
    let looks = c.loop-ended.invariant.1 in
    let got = wanted_found c.in-Some-Wanted.field-0-is c.in-Some-Wanted.ensures.claimed.0 in (
      c.try_claim.ensures.seat,
      (c.in-Some-Wanted.ended ∷ looks.0, got.1 ∙ ap (looked c.args.item (Wanted c.in-Some-Wanted.ended)) looks.1),
      omega (arith, got.0, c.loop-ended.invariant.0.1, c.try_claim.ensures.few),
      got.2,
    )

pub returns-in-None-clause-known : goal.returns-in-None-clause-known
returns-in-None-clause-known g c = known_after c.args.item
    (Yes c.loop-ended.attempt) _ _ _ c.loop-ended.invariant.1 c.in-None.ensures.claimed

pub returns-in-Some-Held-clause-known : goal.returns-in-Some-Held-clause-known
returns-in-Some-Held-clause-known g c =
    let arm = c.in-Some-Held in
    known_after c.args.item Held _ _ _ c.loop-ended.invariant.1
    (arm.field-0-0, finds_word arm.field-0-is arm.ensures.claimed.0)

pub returns-in-Some-Done-clause-known : goal.returns-in-Some-Done-clause-known
returns-in-Some-Done-clause-known g c =
    let arm = c.in-Some-Done in
    known_after c.args.item Done _ _ _ c.loop-ended.invariant.1
    (arm.field-0-0, finds_word arm.field-0-is arm.ensures.claimed.0)

pub returns-in-Some-Spent-clause-known : goal.returns-in-Some-Spent-clause-known
returns-in-Some-Spent-clause-known g c =
    let arm = c.in-Some-Spent in
    known_after c.args.item Spent _ _ _ c.loop-ended.invariant.1 (finds_word arm.field-0-is arm.ensures.claimed.0)
