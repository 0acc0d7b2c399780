use Rattle.repo_store.proofs.NameLayerLemmas.{index_same, index_looked_through}
use Rattle.sorted_lists.proofs.Members.{same_then}
use Rattle.repo_store.proofs.names.Names.order.Goals as goal

pub returns-clause-index : goal.returns-clause-index
returns-clause-index c =
    let k = c.args.kept.now in
    let looked = c.forget_dropped.ensures in
    index_same k.slots k.held c.place_waiting.new.self c.requires.index.rises c.place_waiting.ensures.in_order
    (same_then c.place_waiting.ensures.same
    (index_looked_through k.slots k.held c.args.self.now c.forget_dropped.new.self c.requires.index looked.settled
    looked.recent looked.waiting))

pub returns-clause-room : goal.returns-clause-room
returns-clause-room c n room = c.place_waiting.ensures.room n (c.forget_dropped.ensures.room n room)
