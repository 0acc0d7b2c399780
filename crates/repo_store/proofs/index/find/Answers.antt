use Rattle.std.proofs.Common.{List, sym, ap, ◌∙◌}
use Rattle.std.specs.Prelude.{slice_get}
use Rattle.std.specs.Option.{option_copied}
use Rattle.std.specs.Ordering.{is_eq}
use Rattle.repo_store.specs.PacketTable.{Stored}
use Rattle.repo_store.specs.Indexes.{is_one_of}
use Rattle.repo_store.proofs.TakenLemmas.{none_of}
use Rattle.repo_store.proofs.index.find.Goals as goal

pub returns-in_err-next : goal.returns-in_err-next
returns-in_err-next c =
    let none =
    ap (λ (xs : List Stored). is_one_of c.args.held.0 (slice_get xs 0)) (sym c.split_at.ensures.back)
    ∙ ap (is_one_of c.args.held.0) (sym c.first.ensures.value ∙ ap option_copied c.in_err-next.was) in
    rw c.from_residual.ensures (
    none_of c.args.kept.now.slots c.args.index.now c.args.held c.place_of-place.result c.requires.in_order
    c.requires.alone c.place_of-place.ensures none)

pub returns-else-is_eq : goal.returns-else-is_eq
returns-else-is_eq c =
    let other =
    ap (λ (xs : List Stored). is_one_of c.args.held.0 (slice_get xs 0)) (sym c.split_at.ensures.back)
    ∙ ap (is_one_of c.args.held.0) (sym c.first.ensures.value ∙ ap option_copied c.in_ok-next.was)
    ∙ sym (c.is_eq.ensures ∙ ap is_eq c.cmp.ensures)
    ∙ c.if-is_eq.false in
    none_of c.args.kept.now.slots c.args.index.now c.args.held c.place_of-place.result c.requires.in_order
    c.requires.alone c.place_of-place.ensures other
