use Rattle.repo_store.proofs.store.Store.order_names.Goals as goal

pub invariant_of-self : goal.invariant_of-self
invariant_of-self c = record {
  names = c.order.ensures.index;
  room = c.order.ensures.room c.self.inside.kept.spare c.self.invariant.room;
}
