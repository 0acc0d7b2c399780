-- What a block of an insertion brings about.
use Rattle.std.specs.Prelude.{ℕ, List, [], ◌∷◌, ◌++◌, slice_set}
use Rattle.bench_net.specs.SentList.{SentPacket, sent_packet}
use Rattle.repo_member.specs.declared.member.block.Blocked.{Blocked}
use Rattle.repo_member.specs.declared.member.block.Blocked.TheVariants as blocked
use Rattle.bench_world.specs.EventValues.{ReportValue}
use Rattle.bench_world.specs.EventValues.ReportValue.{Block404, Block200, Block300, BlockPublished}

-- The packets that were sent, after a block of member `m`, whose vector was `vector` before.
abbrev pub after_blocked : ℕ → List ℕ → Blocked → List SentPacket → List SentPacket
after_blocked m vector blocked.Unknown sent = sent
after_blocked m vector blocked.Waiting sent = sent
after_blocked m vector blocked.Already sent = sent
after_blocked m vector (blocked.Published published) sent =
    sent ++ sent_packet m (slice_set vector m published.seq) published.sync.items ∷ []

-- The report of a block of member `m`, where the next sync Interest has the number `k`.
abbrev pub blocked_report : ℕ → ℕ → Blocked → ReportValue
blocked_report m k blocked.Unknown = Block404 m
blocked_report m k blocked.Waiting = Block300 m
blocked_report m k blocked.Already = Block200 m
blocked_report m k (blocked.Published published) = BlockPublished m published.seq k
