use Rattle.std.proofs.Common.{◌∙◌, arith}
use Rattle.script_lang.proofs.WrongPlaces.{no_place_left}
use Rattle.script_lang.proofs.wrong.find_among.Goals as goal

pub returns : goal.returns
returns c = c.beyond.ensures c.args.fault c.loop-rest.place
    ∙ no_place_left c.args.fault c.args.verb c.loop-rest.place c.loop-rest.rest.now _ (omega arith)
    ∙ c.loop-rest.invariant.0
