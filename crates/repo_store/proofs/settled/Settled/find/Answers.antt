use Rattle.std.proofs.Common.{sym, ap, subst, ◌∙◌}
use Rattle.repo_store.specs.Indexes.{IsAlone}
use Rattle.repo_store.specs.Blocks.{SettledList}
use Rattle.repo_store.proofs.settled.Settled.find.Goals as goal

pub find-requires-clause-alone : goal.find-requires-clause-alone
find-requires-clause-alone c =
    subst (IsAlone c.args.held) (sym (c.deref.ensures.value ∙ ap (λ (s : SettledList). s.items) c.self.view_is))
    c.requires.alone
