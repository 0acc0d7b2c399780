-- How a mirror is kept.
use Rattle.std.specs.Prelude.{◌≡◌, ◌≤◌, length}
use Rattle.repo_plan.specs.Plan.{no_claims}
use Rattle.repo_mirror.specs.declared.mirror.Mirror.TheInside.{Inside}
use Rattle.repo_mirror.specs.MirrorState.{MirrorState}
use Rattle.repo_mirror.specs.Asked.{asked_numbers}
use Rattle.repo_mirror.specs.PacketsFor.{ArePacketsFor}

-- What a mirror's fields say.
abbrev pub mirror_state : Inside → MirrorState
mirror_state m = record {
  pattern = m.pattern;
  known = m.vector;
  store = m.held.store;
  passed = m.held.hidden;
  attempts = m.held.attempts;
}

-- What holds of a mirror's fields: its vector has at most 16 numbers, its holdings have those of the publishers that
-- are asked and no claims, and each stored packet passed its checks and is none that is passed over.
pub record IsMirror (m : Inside) : Type 0 where
  pub few : length m.vector ≤ 16
  pub known : m.held.known ≡ asked_numbers m.pattern.publisher 0 m.vector
  pub claims : m.held.claims ≡ no_claims
  pub packets : ArePacketsFor m.pattern m.held.store
