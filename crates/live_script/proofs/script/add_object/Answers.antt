use Rattle.live_script.proofs.Publishing.{list_longer}
use Rattle.live_script.proofs.script.add_object.Goals as goal

pub returns : goal.returns
returns c =
    list_longer c.args.lists.now.items c.args.member c.args.object c.index_mut.result.now c.push.new.self c.requires
    c.index_mut.ensures.value c.in_ok-push.ensures.items
