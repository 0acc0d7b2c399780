-- What a member's timer brings about.
use Rattle.std.specs.Prelude.{ℕ, List, [], ◌∷◌, ◌++◌}
use Rattle.bench_net.specs.SentList.{SentPacket, sent_packet}
use Rattle.repo_member.specs.declared.member.syncing.Fire.{Fire}
use Rattle.repo_member.specs.declared.member.syncing.Fire.TheVariants as fire
use Rattle.bench_world.specs.EventValues.{ReportValue}
use Rattle.bench_world.specs.EventValues.ReportValue.{FireEarly, FireQuiet, FireSent}

-- The packets that were sent, after the timer of member `m` fired, whose vector is `vector`.
abbrev pub after_firing : ℕ → List ℕ → Fire → List SentPacket → List SentPacket
after_firing m vector fire.Early sent = sent
after_firing m vector fire.Quiet sent = sent
after_firing m vector (fire.Sent sync) sent = sent ++ sent_packet m vector sync.items ∷ []

-- The report of the timer of member `m`, where the next sync Interest has the number `k`.
abbrev pub fire_report : ℕ → ℕ → Fire → ReportValue
fire_report m k fire.Early = FireEarly m
fire_report m k fire.Quiet = FireQuiet m
fire_report m k (fire.Sent sync) = FireSent m k
