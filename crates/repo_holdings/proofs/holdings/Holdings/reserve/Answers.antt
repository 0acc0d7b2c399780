use Rattle.std.proofs.Common.{◌∙◌}
use Rattle.repo_holdings.proofs.HoldingsLemmas.{kept_still, most_room}
use Rattle.repo_holdings.proofs.holdings.Holdings.reserve.Goals as goal

pub invariant_of-self : goal.invariant_of-self
invariant_of-self c = record {
  kept =
      kept_still c.self.inside.stock c.make_room.new.stock _ _ c.make_room.ensures.stock c.make_room.ensures.catalogue
      c.self.invariant.kept;
  room = c.make_room.ensures.still c.self.inside.spare c.self.invariant.room;
  none_fresh = c.make_room.ensures.fresh ∙ c.self.invariant.none_fresh;
  none_gone = c.make_room.ensures.gone ∙ c.self.invariant.none_gone;
}

pub invariant_of-self-2 : goal.invariant_of-self-2
invariant_of-self-2 c = record {
  kept =
      kept_still c.self.inside.stock c.make_room.new.stock _ _ c.make_room.ensures.stock c.make_room.ensures.catalogue
      c.self.invariant.kept;
  room =
      most_room _ _ _ _ _ _ (c.make_room.ensures.still c.self.inside.spare c.self.invariant.room)
      c.in_ok-make_room.ensures.room c.max-self-inside.ensures;
  none_fresh = c.make_room.ensures.fresh ∙ c.self.invariant.none_fresh;
  none_gone = c.make_room.ensures.gone ∙ c.self.invariant.none_gone;
}
