use Rattle.std.proofs.Common.{◌≡◌, ◌-◌, ◌==◌, ℕ, Option, Some, None, if◌then◌else◌, refl, sym, ap, ◌∙◌}
use Rattle.std.specs.Option.{option_map}
use Rattle.std.specs.List.{slice_get}
use Rattle.std.proofs.lemmas.Option.{slice_get-map}
use Rattle.bench_net.specs.SentList.{SentPacket}
use Rattle.group_model.specs.Events.{SyncInterest}
use Rattle.bench_world.specs.Kept.{world_state}
use Rattle.bench_world.specs.Showing.{sender_at}
use Rattle.bench_world.specs.Worlds.{GroupState, sync_in, world_of}
use Rattle.bench_world.proofs.world.World.sender.Goals as goal

of_packet : (o : Option SentPacket)
    → option_map (λ (p : SentPacket). p.sender) o ≡ option_map (λ (s : SyncInterest). s.sender) (option_map sync_in o)
of_packet (Some p) = refl
of_packet None = refl

pub returns : goal.returns
returns c =
    let s = world_state c.self.inside in
    let nobody : Option ℕ = None in
    c.sender.ensures
    ∙ ap (λ (o : Option ℕ). if c.args.k == 0 then nobody else o)
    (of_packet (slice_get s.sent (c.args.k - 1))
    ∙ ap (option_map (λ (y : SyncInterest). y.sender)) (sym (slice_get-map sync_in s.sent (c.args.k - 1))))
    ∙ ap (λ (x : GroupState). sender_at (world_of x) c.args.k) c.self.view_is
