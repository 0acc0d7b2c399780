-- What notes say of each member and of each mirror after the lines of a run.
use Rattle.std.specs.Prelude.{ℕ, ◌&&◌, List, map, filter, length, Some, None}
use Rattle.sorted_lists.specs.Range.{numbers_from}
use Rattle.svs_sync.specs.Suppression.{mode_of}
use Rattle.repo_plan.specs.declared.part.Part.{Part}
use Rattle.repo_plan.specs.Parts.{pair_of}
use Rattle.repo_plan.specs.Plan.{wanted}
use Rattle.group_model.specs.Publications.{all_parts}
use Rattle.group_model.specs.Member.{plan_of}
use Rattle.group_model.specs.World.{World, catalogue_at, logs, member}
use Rattle.repo_mirror.specs.Asked.{is_for}
use Rattle.script_lang.specs.Checking.{Declared, party_label}
use Rattle.script_story.specs.Mirrors.{Mirroring, mirror_of, mirrored_entries, wanted_by}
use Rattle.lab_trace.specs.declared.values.Timer.{Timer}
use Rattle.lab_trace.specs.declared.values.Counts.{Counts}
use Rattle.lab_trace.specs.declared.values.Figures.{Figures}
use Rattle.lab_trace.specs.declared.values.Values.{Values}
use Rattle.lab_trace.specs.SameValues.{values_of}

-- The labels of the members, in order of their numbers.
abbrev pub member_labels : Declared → List (List ℕ)
member_labels d = map party_label d.members

-- How many parts a member holds, how many it wants, claimed ones among them, and how many entries it lists.
abbrev pub member_counts : World → ℕ → Counts
member_counts w m = record {
  holds = length (member w m).held;
  wants = length (wanted (plan_of (logs w) (member w m)));
  lists = length (catalogue_at w m);
}

-- The parts whose packets a mirror keeps: those that it holds, without the records of objects that its pattern doesn't
-- accept.
abbrev pub kept_by : World → Mirroring → List Part
kept_by w m = filter (λ t. m.holds t && is_for m.pattern (logs w) (pair_of t)) (all_parts (logs w))

-- How many parts a mirror keeps, how many it wants, and how many entries it lists.
abbrev pub mirror_counts : World → Mirroring → Counts
mirror_counts w m = record {
  holds = length (kept_by w m);
  wants = length (wanted_by w m);
  lists = length (mirrored_entries w m);
}

-- The mode and the deadline of a member's timer.
abbrev pub member_timer : World → ℕ → Timer
member_timer w m = record {
  mode = mode_of (member w m).machine.heard;
  deadline = (member w m).machine.deadline;
}

-- The timer of a member, and its counts.
abbrev pub member_figures : World → ℕ → Figures
member_figures w m = record { timer = Some (member_timer w m); counts = member_counts w m }

-- What a note says of a member: its vector, its timer and its counts.
abbrev pub member_values : World → ℕ → Values
member_values w m = values_of (member w m).known (member_figures w m)

-- The counts of a mirror, which has no timer.
abbrev pub mirror_figures : World → Mirroring → Figures
mirror_figures w m = record { timer = None; counts = mirror_counts w m }

-- What a note says of a mirror: its vector and its counts.
abbrev pub mirror_values : World → List Mirroring → ℕ → Values
mirror_values w mirrors i = values_of (mirror_of mirrors i).known (mirror_figures w (mirror_of mirrors i))

-- What notes say of members and mirrors, in order of their numbers.
pub record Noted : Type 0 where
  pub members : List Values
  pub mirrors : List Values

-- What notes say of the members of a world.
abbrev pub members_values : World → List Values
members_values w = map (member_values w) (numbers_from 0 (length w.members))

-- What notes say of the mirrors.
abbrev pub mirrors_values : List Mirroring → World → List Values
mirrors_values mirrors w = map (mirror_values w mirrors) (numbers_from 0 (length mirrors))

abbrev pub world_values : List Mirroring → World → Noted
world_values mirrors w = record { members = members_values w; mirrors = mirrors_values mirrors w }
