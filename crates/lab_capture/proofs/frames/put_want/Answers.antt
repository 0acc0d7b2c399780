use Rattle.std.proofs.lemmas.Result.{on_ok_weaker}
use Rattle.std.specs.Option.{option_map}
use Rattle.bench_world.specs.Worlds.{world_of}
use Rattle.lab_capture.specs.Capturings.{claimed}
use Rattle.lab_capture.proofs.Texts.{want_text}
use Rattle.lab_capture.proofs.frames.put_want.Goals as goal

pub returns : goal.returns
returns c = on_ok_weaker c.put_if.result (λ then.
    want_text c.args.world.now.keys (world_of c.args.world.now) (claimed c.args.claim.now) c.args.out.now.items
    c.put_sent.new.out.items c.put_if.new.out.items c.member_at-asker.result c.member_at-asked.result
    c.deref.result.now (option_map (λ p. p.now) c.packet_of.result) c.member_at-asker.ensures.member
    c.member_at-asked.ensures.member c.deref.ensures.value c.packet_of.ensures c.in_ok-put_sent.ensures then)
    c.put_if.ensures
