use Rattle.std.proofs.Common.{sym}
use Rattle.repo_store.proofs.TakenLemmas.{alone_among, no_part}
use Rattle.repo_store.proofs.names.Names.take_part.Goals as goal

pub take_out-requires-clause-alone : goal.take_out-requires-clause-alone
take_out-requires-clause-alone c =
    alone_among c.args.kept.now.held c.args.self.now.settled.items c.args.part c.in-Some.slot c.requires.rises
    c.requires.settled (sym c.in-Some.ensures.found)

pub take_out-requires-in-Some-clause-alone : goal.take_out-requires-in-Some-clause-alone
take_out-requires-in-Some-clause-alone c =
    alone_among c.args.kept.now.held c.args.self.now.recent.items c.args.part c.in-Some.slot c.requires.rises
    c.requires.recent (sym c.in-Some.ensures.found)

pub returns-in_default-clause-settled : goal.returns-in_default-clause-settled
returns-in_default-clause-settled c =
    no_part c.args.kept.now.held c.args.self.now.settled.items c.args.part c.requires.rises c.requires.settled
    (sym c.in_default.ensures.found)

pub returns-in_default-clause-recent : goal.returns-in_default-clause-recent
returns-in_default-clause-recent c =
    no_part c.args.kept.now.held c.args.self.now.recent.items c.args.part c.requires.rises c.requires.recent
    (sym c.in_default.ensures.found)
