use Rattle.std.proofs.Common.{◌∙◌}
use Rattle.repo_catalog.proofs.PairLemmas.{is_among_by}
use Rattle.repo_catalog.proofs.search.is_among.Goals as goal

pub returns : goal.returns
returns c = λ rises.
    c.is_ok.ensures.value
    ∙ is_among_by c.args.pair c.args.publications.now c.binary_search.result rises c.binary_search.ensures.bound
    c.binary_search.ensures.position
