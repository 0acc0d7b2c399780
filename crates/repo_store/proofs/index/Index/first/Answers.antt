use Rattle.std.proofs.Common.{List, Option, subst, sym, ap, ◌∙◌}
use Rattle.std.specs.Prelude.{slice_get}
use Rattle.repo_store.specs.PacketTable.{Stored}
use Rattle.repo_store.specs.Indexes.{name_matches, IsFirstOf}
use Rattle.repo_store.specs.Blocks.{piece}
use Rattle.repo_store.proofs.AskedLemmas.{least_asked, first_asked}
use Rattle.repo_store.proofs.index.Index.first.Goals as goal

pub returns-then-can_be_prefix : goal.returns-then-can_be_prefix
returns-then-can_be_prefix c =
    let index = c.args.self.now in
    least_asked index.kept.now.slots index.held.now c.args.asked.now c.args.can_be_prefix
    (piece c.asked-start.result.0 c.asked-start.result.1 index.held.now) c.asked-start.ensures.asked
    c.least_between.result c.least_between.ensures

pub returns-else-can_be_prefix : goal.returns-else-can_be_prefix
returns-else-can_be_prefix c =
    let index = c.args.self.now in
    let test = name_matches index.kept.now.slots c.args.asked.now c.args.can_be_prefix in
    let found = piece c.asked-start.result.0 c.asked-start.result.1 index.held.now in
    subst (λ (o : Option Stored). IsFirstOf index.held.now test o)
    (sym (c.copied.ensures ∙ c.first.ensures.value ∙ ap (λ (xs : List Stored). slice_get xs 0) c.piece.ensures))
    (first_asked index.kept.now.slots index.held.now c.args.asked.now c.args.can_be_prefix found
    c.asked-start.ensures.asked c.if-can_be_prefix.false)
