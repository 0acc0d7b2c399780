use Rattle.std.proofs.Common.{codes}
use Rattle.lab_picture.specs.declared.shape.Shape.TheVariants as shape
use Rattle.lab_picture.specs.declared.shape.Symbol.TheVariants as symbol
use Rattle.lab_picture.specs.Page.{arrow_meaning, count_meaning, meaning, other_meanings}
use Rattle.lab_picture.proofs.Eachs.{four}
use Rattle.lab_picture.proofs.page.put_other_meanings.Goals as goal

pub returns : goal.returns
unfolding other_meanings
returns c = four c.args.out.now.items c.put_meaning.new.out.items c.put_arrow_meaning.new.out.items
    c.put_arrow_meaning-2.new.out.items c.put_count_meaning.new.out.items
    (meaning symbol.Fetch 66 c.args.y (codes "came of planned"))
    (arrow_meaning shape.Arrow 202 c.args.y (codes "sync or Data"))
    (arrow_meaning shape.DashedArrow 330 c.args.y (codes "suppressed")) (count_meaning 460 c.args.y)
    c.in_ok-put_meaning.ensures c.in_ok-put_arrow_meaning.ensures c.in_ok-put_arrow_meaning-2.ensures
    c.put_count_meaning.result c.put_count_meaning.ensures
