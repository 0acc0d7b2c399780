use Rattle.std.proofs.Common.{codes}
use Rattle.lab_picture.specs.declared.shape.Symbol.TheVariants as symbol
use Rattle.lab_picture.specs.Page.{first_meanings, meaning}
use Rattle.lab_picture.proofs.Eachs.{five}
use Rattle.lab_picture.proofs.page.put_first_meanings.Goals as goal

pub returns : goal.returns
unfolding first_meanings
returns c = five c.args.out.now.items c.put_meaning.new.out.items c.put_meaning-2.new.out.items
    c.put_meaning-3.new.out.items c.put_meaning-4.new.out.items c.put_meaning-5.new.out.items
    (meaning symbol.Publish 64 c.args.y (codes "publish")) (meaning symbol.Withdraw 150 c.args.y (codes "withdraw"))
    (meaning symbol.Timer 244 c.args.y (codes "timer sends")) (meaning symbol.Restart 358 c.args.y (codes "restart"))
    (meaning symbol.Command 444 c.args.y (codes "command"))
    c.in_ok-put_meaning.ensures c.in_ok-put_meaning-2.ensures c.in_ok-put_meaning-3.ensures
    c.in_ok-put_meaning-4.ensures c.put_meaning-5.result c.put_meaning-5.ensures
