use Rattle.std.proofs.Common.{length, subst, ap, arith}
use Rattle.repo_store.specs.PacketTable.{PacketTableState}
use Rattle.repo_store.specs.Slots.{HeldIsSound}
use Rattle.repo_store.proofs.SlotLemmas.{sound_seen}
use Rattle.repo_store.proofs.DropLemmas.{dropping_all_none, dropping_all_more, dropping_all_end, fewer_left}
use Rattle.repo_store.proofs.packet_table.PacketTable.drop_all.Goals as goal

pub loop-pair-init : goal.loop-pair-init
loop-pair-init c = dropping_all_none c.args.pairs.now c.args.self.now

pub loop-pair-preserved : goal.loop-pair-preserved
loop-pair-preserved c =
    dropping_all_more c.args.pairs.now c.loop-pair.pair-index (0, 0) c.args.self.now c.loop-pair.self
    c.drop_pair.new.self c.loop-pair-test.true c.drop_pair.ensures.held c.drop_pair.ensures.same
    c.drop_pair.ensures.spare c.drop_pair.ensures.few c.loop-pair.invariant

pub overflow_sub-result : goal.overflow_sub-result
overflow_sub-result c =
    let fewer =
    fewer_left c.args.pairs.now c.loop-pair.pair-index c.args.self.now c.loop-pair.self c.loop-pair-test.false
    c.loop-pair.invariant in
    let seen = ap (λ (k : PacketTableState). length k.held) c.self.view_is in
    let left = ap (λ (k : PacketTableState). length k.held) c.self-2.view_is in
    omega (arith, c.len.ensures.len, c.len-before.ensures.len, fewer, seen, left)

pub returns-clause-number : goal.returns-clause-number
returns-clause-number c =
    let fewer =
    fewer_left c.args.pairs.now c.loop-pair.pair-index c.args.self.now c.loop-pair.self c.loop-pair-test.false
    c.loop-pair.invariant in
    let seen = ap (λ (k : PacketTableState). length k.held) c.self.view_is in
    let left = ap (λ (k : PacketTableState). length k.held) c.self-2.view_is in
    omega (arith, c.len.ensures.len, c.len-before.ensures.len, fewer, seen, left)

pub returns-clause-held : goal.returns-clause-held
returns-clause-held c =
    dropping_all_end c.args.pairs.now c.loop-pair.pair-index c.args.self.now c.loop-pair.self c.loop-pair-test.false
    c.loop-pair.invariant

pub returns-clause-sound : goal.returns-clause-sound
returns-clause-sound c = subst HeldIsSound c.self.view_is (sound_seen c.self.inside c.self.invariant)

pub returns-clause-few : goal.returns-clause-few
returns-clause-few c =
    let seen = ap (λ (k : PacketTableState). length k.held) c.self.view_is in
    let left = ap (λ (k : PacketTableState). length k.held) c.self-2.view_is in
    omega (arith, c.len.ensures.len, c.len-before.ensures.len, c.loop-pair.invariant.few, seen, left)
