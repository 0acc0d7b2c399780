-- The report and the counts of octets that were received for a claim.
use Rattle.std.specs.Prelude.{ℕ, Option, Some, None}
use Rattle.bench_world.specs.declared.answering.Fed.{Fed}
use Rattle.bench_world.specs.declared.answering.Fed.TheVariants.{Kept, Refused}
use Rattle.bench_world.specs.EventValues.{ReportValue}

-- The report of octets that were received for a claim: they are kept, or refused for a reason.
abbrev pub fed_reply : ℕ → ℕ → Fed → ReportValue
fed_reply m f Kept = ReportValue.FeedKept m f
fed_reply m f (Refused refusal) = ReportValue.FeedRefused m f refusal

-- How many parts become held: one if octets are kept, and else none.
abbrev pub parts_kept : Option ℕ → ℕ
parts_kept None = 0
parts_kept (Some octets) = 1
