use Rattle.std.proofs.Common.{arith}
use Rattle.repo_store.proofs.NameLayerLemmas.{index_kept, reserved}
use Rattle.repo_store.proofs.store.Store.reserve.Goals as goal

pub invariant_of-self : goal.invariant_of-self
invariant_of-self c =
    let k = c.self.inside.kept in
    record {
      names =
          index_kept k.slots k.held c.self.inside.names c.reserve.new.self c.reserve.ensures.same
          c.self.invariant.names;
      room = c.reserve.ensures.kept k.spare c.self.invariant.room;
    }

pub invariant_of-self-2 : goal.invariant_of-self-2
invariant_of-self-2 c =
    let k = c.self.inside.kept in
    let both =
    reserved k c.reserve-2.new.self c.self.inside.names c.reserve.new.self c.args.n c.reserve-2.result
    c.reserve-2.ensures.ok c.reserve-2.ensures.err (omega (arith, c.spare.ensures, c.if-n-spare.false))
    c.reserve.ensures.same (c.reserve.ensures.kept k.spare c.self.invariant.room) c.in_ok-reserve.ensures.room
    c.self.invariant.names in
    record { names = both.0; room = both.1 }
