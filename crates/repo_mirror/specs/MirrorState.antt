-- What a mirror has, as contracts see it.
use Rattle.std.specs.Prelude.{ℕ, List, [], replicate}
use Rattle.repo_plan.specs.declared.part.Part.{Part}
use Rattle.repo_plan.specs.Parts.{Pair}
use Rattle.repo_plan.specs.Plan.{PlanState, no_claims}
use Rattle.repo_holdings.specs.Records.{Packet}
use Rattle.repo_holdings.specs.HoldingsState.{HoldingsState, held_plan}
use Rattle.repo_watch.specs.declared.pattern.Pattern.{Pattern}
use Rattle.repo_mirror.specs.Asked.{asked_numbers}

-- A mirror by itself: its pattern, what it knows of and holds, and how often it tried parts.
pub record MirrorState : Type 0 where
  pub pattern : Pattern
  pub known : List ℕ  -- its vector: a SeqNo for each member
  pub store : List Packet  -- the packet of each part that it keeps, in order of the parts
  pub passed : List Pair  -- publications it got the record of, whose object its pattern refuses, in order
  pub attempts : List (Part × ℕ)  -- of the parts that it didn't pass over, in order, without 0

-- A mirror of a group of `members` members, which knows of nothing.
abbrev pub initial_mirror : Pattern → ℕ → MirrorState
initial_mirror pattern members = record {
  pattern = pattern;
  known = replicate members 0;
  store = [];
  passed = [];
  attempts = [];
}

-- What the mirror has of publications: it knows those of the publishers that it asks, hides those that it passed over,
-- and claims nothing.
abbrev pub mirror_holdings : MirrorState → HoldingsState
mirror_holdings m = record {
  known = asked_numbers m.pattern.publisher 0 m.known;
  store = m.store;
  hidden = m.passed;
  claims = no_claims;
  attempts = m.attempts;
  spare = 0;
}

-- The mirror's fetch plan. The wanted parts are read there.
abbrev pub fetch_plan : MirrorState → PlanState
fetch_plan m = held_plan (mirror_holdings m)
