use Rattle.std.proofs.Common.{length, refl, ap, ◌∙◌, arith}
use Rattle.std.proofs.lemmas.List.{length-replicate}
use Rattle.svs_vector.specs.Vectors.{join}
use Rattle.bench_world.proofs.KnownByAll.{all_begins, all_goes_on, all_ends}
use Rattle.bench_world.proofs.sync_exchange.all_known.Goals as goal

pub loop-member-init : goal.loop-member-init
loop-member-init c = record {
  width = ap length c.in_ok-all.ensures ∙ length-replicate (length c.args.members.now) 0;
  joined =
      all_begins c.args.members.now (length c.args.members.now) c.in_ok-all.all refl c.in_ok-all.ensures c.requires;
}

pub loop-member-preserved : goal.loop-member-preserved
loop-member-preserved c = record {
  width = c.join.ensures.width ∙ c.loop-member.invariant.width;
  joined =
      all_goes_on c.args.members.now c.loop-member.member-index c.member-item.result c.loop-member.all c.join.new.self
      (omega arith) c.member-item.is
      (c.join.ensures.joined ∙ ap (join c.loop-member.all) c.vector.ensures.known) c.loop-member.invariant.joined;
}

pub returns : goal.returns
returns c =
    all_ends c.args.members.now c.loop-member.member-index c.loop-member.all (omega arith)
    c.loop-member.invariant.joined
