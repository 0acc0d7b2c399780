use Rattle.std.proofs.Common.{◌≡◌, ◌+◌, refl}
use Rattle.std.specs.List.{remove}
use Rattle.repo_catalog.proofs.RowLemmas.{drop_first, drop_remove}
use Rattle.repo_catalog.proofs.entry_row.take_out.Goals as goal

pub returns-then-place-eq0-clause-items : goal.returns-then-place-eq0-clause-items
returns-then-place-eq0-clause-items c =
    let n = c.args.gone.now in
    drop_first n (n + 1) c.args.place c.args.all.now.items refl c.if-place-eq0.true

pub returns-clause-items : goal.returns-clause-items
returns-clause-items c =
    let n = c.args.gone.now in
    let i = c.args.place in
    let xs = c.args.all.now.items in
    let removed : c.remove.new.self.items ≡ remove xs (n + i) = c.remove.ensures.items in
    rw removed (drop_remove n i (n + i) xs refl c.requires.gone)
