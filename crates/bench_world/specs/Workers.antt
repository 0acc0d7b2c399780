-- Events with the same effect.
use Rattle.std.specs.Prelude.{◌≡◌}
use Rattle.group_model.specs.World.{Environment, World}
use Rattle.group_model.specs.Steps.{after_event}
use Rattle.group_model.specs.Refusals.{refusal}
use Rattle.repo_member.specs.Groups.{GroupKeys}
use Rattle.bench_world.specs.EventValues.{EventValue, group_event, event_report}

-- In each world the events `a` and `b` have the same refusal, the same world after them, and the same report.
pub record ComeToTheSame (g : GroupKeys) (a b : EventValue) : Type 0 where
  pub refused : (env : Environment) (w : World) → refusal env w (group_event g a) ≡ refusal env w (group_event g b)
  pub world : (env : Environment) (w : World) → after_event env w (group_event g a)
      ≡ after_event env w (group_event g b)
  pub report : (env : Environment) (w : World) → event_report g env w a ≡ event_report g env w b
