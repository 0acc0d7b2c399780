use Rattle.std.proofs.Common.{Ok, Err, sym, ◌∙◌}
use Rattle.repo_catalog.proofs.PairLemmas.{found_pair, is_among_by}
use Rattle.repo_watch.proofs.After.{found_after, missed_after}
use Rattle.repo_watch.proofs.announced.search.Goals as goal

pub returns-in-Ok-clause-announced : goal.returns-in-Ok-clause-announced
returns-in-Ok-clause-announced c =
    is_among_by c.args.pair c.args.announced.now (Ok c.in-Ok.place) c.requires c.in-Ok.ensures.bound
    c.in-Ok.ensures.position

pub returns-in-Ok-clause-after : goal.returns-in-Ok-clause-after
returns-in-Ok-clause-after c =
    c.split_at.ensures.back
    ∙ sym (found_after c.args.pair c.args.announced.now c.in-Ok.place c.requires
    (found_pair c.args.pair c.args.announced.now (Ok c.in-Ok.place) c.requires c.in-Ok.ensures.bound
    c.in-Ok.ensures.position))

pub returns-in-Err-clause-announced : goal.returns-in-Err-clause-announced
returns-in-Err-clause-announced c =
    is_among_by c.args.pair c.args.announced.now (Err c.in-Err.place) c.requires c.in-Err.ensures.bound
    c.in-Err.ensures.position

pub returns-in-Err-clause-after : goal.returns-in-Err-clause-after
returns-in-Err-clause-after c =
    c.split_at-in-Err.ensures.back
    ∙ sym (missed_after c.args.pair c.args.announced.now c.in-Err.place
    (found_pair c.args.pair c.args.announced.now (Err c.in-Err.place) c.requires c.in-Err.ensures.bound
    c.in-Err.ensures.position))
