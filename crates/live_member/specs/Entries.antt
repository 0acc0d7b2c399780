-- How the entries of a journal are counted.
use Rattle.std.specs.Prelude.{ℕ, ◌==◌, List, sum_by, if◌then◌else◌}
use Rattle.live_member.specs.declared.event.LiveEvent.{LiveEvent}
use Rattle.live_member.specs.declared.event.LiveEvent.TheVariants as event
use Rattle.live_member.specs.declared.event.LiveEntry.{LiveEntry}

-- 1 for a claim by the fetcher `f`, 0 for any other event.
abbrev pub is_claim_by : ℕ → LiveEvent → ℕ
is_claim_by f (event.Claim k) = if k == f then 1 else 0
is_claim_by f _ = 0

-- How many of the entries are claims by the fetcher `f`, whatever was replied.
abbrev pub claims_by : ℕ → List LiveEntry → ℕ
claims_by f entries = sum_by (λ (e : LiveEntry). is_claim_by f e.event) entries
