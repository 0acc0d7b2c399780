use Rattle.std.proofs.Common.{◌∙◌, Ok, Option, sym, ap, subst}
use Rattle.std.specs.Option.{option_map}
use Rattle.script_lang.specs.declared.line.Line.{Line}
use Rattle.script_lang.specs.Forms.{stated}
use Rattle.live_script.specs.Evaluation.{Verdict, evaluated}
use Rattle.live_script.specs.LineErrors.{IsLineError, line_fault_error}
use Rattle.script_lang.proofs.Stops.{stops_so}
use Rattle.live_script.proofs.Taking.{evaluated_fault, judged_nothing, judged_stated, no_room, room_kept}
use Rattle.live_script.proofs.script.Script.take.Goals as goal

pub returns-then-not-has_room-clause-stopped : goal.returns-then-not-has_room-clause-stopped
returns-then-not-has_room-clause-stopped c =
    no_room c.args.self c.args.line.now (sym c.has_room.ensures ∙ c.if-not-has_room.true)

pub returns-in_err-stated-clause-stopped : goal.returns-in_err-stated-clause-stopped
returns-in_err-stated-clause-stopped c =
    stops_so c.from_residual.result (IsLineError (evaluated c.args.self c.args.line.now))
    (line_fault_error c.in_err-stated.field-0.0)
    c.from_residual.ensures.1
    (evaluated_fault c.args.self c.args.line.now c.in_err-stated.field-0.0
    (sym c.has_room.ensures ∙ c.if-not-has_room.false) c.in_err-stated.ensures)

pub take_stated-requires : goal.take_stated-requires
take_stated-requires c = record {
  octets = c.args.line.now;
  read = c.in_ok-stated.ensures ∙ ap (λ (o : Option Line). Ok (option_map stated o)) c.in-Some.is;
}

pub returns-in_err-take_stated-in-Some-clause-stopped : goal.returns-in_err-take_stated-in-Some-clause-stopped
returns-in_err-take_stated-in-Some-clause-stopped c =
    let why = c.in_err-take_stated-in-Some.field-0.0 in
    let read = c.in_ok-stated.ensures ∙ ap (λ (o : Option Line). Ok (option_map stated o)) c.in-Some.is in
    let same = judged_stated c.args.self c.args.line.now (stated c.in-Some.stated)
    (sym c.has_room.ensures ∙ c.if-not-has_room.false) read in
    stops_so c.from_residual-in_err-take_stated-in-Some.result (IsLineError (evaluated c.args.self c.args.line.now)) why
    c.from_residual-in_err-take_stated-in-Some.ensures.1
    (subst (λ (v : Verdict). IsLineError v why) (sym same)
    (c.in_err-take_stated-in-Some.ensures.stopped c.args.line.now))

pub counted-requires : goal.counted-requires
counted-requires c =
    room_kept c.args.self c.in_ok-take_stated-in-Some.field-0 c.args.line.now c.in_ok-take_stated-in-Some.ensures.same
    (sym c.has_room.ensures ∙ c.if-not-has_room.false)

pub counted-requires-in-None : goal.counted-requires-in-None
counted-requires-in-None c = sym c.has_room.ensures ∙ c.if-not-has_room.false

pub returns-in_ok-take_stated-in-Some-clause-taken : goal.returns-in_ok-take_stated-in-Some-clause-taken
returns-in_ok-take_stated-in-Some-clause-taken c =
    let read = c.in_ok-stated.ensures ∙ ap (λ (o : Option Line). Ok (option_map stated o)) c.in-Some.is in
    judged_stated c.args.self c.args.line.now (stated c.in-Some.stated)
    (sym c.has_room.ensures ∙ c.if-not-has_room.false) read
    ∙ c.in_ok-take_stated-in-Some.ensures.taken c.args.line.now ∙ c.counted.ensures

pub returns-in-None-clause-taken : goal.returns-in-None-clause-taken
returns-in-None-clause-taken c =
    let read = c.in_ok-stated.ensures ∙ ap (λ (o : Option Line). Ok (option_map stated o)) c.in-None.is in
    judged_nothing c.args.self c.args.line.now (sym c.has_room.ensures ∙ c.if-not-has_room.false) read
    ∙ c.counted-in-None.ensures
