use Rattle.std.proofs.Common.{◌≡◌, ◌++◌, List, inr, map, refl, rules, subst, sym, ◌∙◌}
use Rattle.std.specs.List.{All}
use Rattle.std.proofs.lemmas.List.Elements.{All-nil}
use Rattle.lab_capture.specs.declared.frame.Frame.{Frame}
use Rattle.lab_capture.specs.Captures.{IsFrame, capture_head, framed}
use Rattle.lab_capture.proofs.Captured.{begun, frames_on, head_is, no_capture, read_on, records}
use Rattle.lab_capture.proofs.reading.read_capture.Goals as goal

pub loop-rest-init : goal.loop-rest-init
loop-rest-init c =
    let P : List Frame → Type 0 =
    λ frames. (c.args.octets.now ≡ capture_head ++ (records (map framed frames) ++ c.in-Some.rest.now))
    × All IsFrame (map framed frames) in
    subst P (sym c.new-frames.ensures.items) (
      begun c.args.octets.now c.in-Some.rest.now
          (sym c.in-Some.ensures.cases.0 ∙ head_is c.in-Some.head.now (sym c.ne.ensures ∙ c.if-ne.false))
          c.in-Some.ensures.cases.1,
      All-nil IsFrame,
    )

pub returns-in_default-first_frame-clause-refused : goal.returns-in_default-first_frame-clause-refused
returns-in_default-first_frame-clause-refused c =
    let inv = c.loop-rest.invariant in
    inr (
      refl,
      no_capture c.args.octets.now c.loop-rest.rest.now (map framed c.loop-rest.frames.items) inv.0 inv.1
          c.in_default-first_frame.ensures.read (search rules),
    )

pub loop-rest-preserved : goal.loop-rest-preserved
loop-rest-preserved c =
    let inv = c.loop-rest.invariant in
    let next = c.in-Some-first_frame in
    let P : List Frame → Type 0 =
    λ frames. (c.args.octets.now ≡ capture_head ++ (records (map framed frames) ++ next.others.now))
    × All IsFrame (map framed frames) in
    subst P (sym c.in-Ok.ensures.items) (
      read_on c.args.octets.now c.loop-rest.rest.now next.others.now c.loop-rest.frames.items next.frame inv.0
          next.ensures.spelled,
      frames_on c.loop-rest.frames.items next.frame inv.1 next.ensures.is,
    )
