-- What a live group stands for, and the group as a journal of one member sees it.
use Rattle.std.specs.Prelude.{ℕ, ◌+◌, ◌≤◌, false, List, [], map, length, sum_by, slice_index, slice_index_or, slice_set}
use Rattle.repo_plan.specs.Parts.{last_part, shape_of_segments}
use Rattle.repo_object.specs.Objects.{NamedContents, Post}
use Rattle.repo_object.specs.Objects.Post.{Offers}
use Rattle.repo_member.specs.Groups.{GroupKeys, no_nodes}
use Rattle.repo_member.specs.InGroup.{AreLogs}
use Rattle.group_model.specs.Publications.{Logs, all_parts}
use Rattle.group_model.specs.Events.Response.{Nothing}
use Rattle.group_model.specs.Member.{Member}
use Rattle.group_model.specs.World.{World, Environment, no_member}

-- The group, and for each member the objects that it is to publish, in order, and the one value of all its draws.
pub record Meaning : Type 0 where
  pub group : GroupKeys
  pub lists : List (List NamedContents)
  pub draws : List ℕ

-- A run of this group, with these lists and draws.
abbrev pub meaning_of : GroupKeys → List (List NamedContents) → List ℕ → Meaning
meaning_of group lists draws = record { group = group; lists = lists; draws = draws }

-- A group without members.
abbrev pub no_meaning : Meaning
no_meaning = record {
  group = record { name = []; members = no_nodes; clients = no_nodes };
  lists = [];
  draws = [];
}

-- The objects that a member is to publish.
abbrev pub objects_of : Meaning → ℕ → List NamedContents
objects_of t j = slice_index_or t.lists j []

-- Objects as publications.
abbrev pub as_posts : List NamedContents → List Post
as_posts objects = map (λ (o : NamedContents). Offers o) objects

-- What the members have published once each has published its whole list.
abbrev pub whole_logs : Meaning → Logs
whole_logs t = map as_posts t.lists

-- ---- limits

-- How many objects all lists together have at most.
abbrev pub object_limit : ℕ
object_limit = 200

-- How many parts the objects of all lists together have at most.
abbrev pub part_limit : ℕ
part_limit = 4000

-- How many parts an object has: its record, its index packets and its segments.
abbrev pub part_count : NamedContents → ℕ
part_count object = last_part (shape_of_segments (length object.contents)) + 1

-- The members of the group can publish their whole lists, which together have at most 200 objects and 4,000 parts.
pub record IsWithinLimits (t : Meaning) : Type 0 where
  pub logs : AreLogs t.group (whole_logs t)
  pub objects : sum_by length t.lists ≤ object_limit
  pub parts : length (all_parts (whole_logs t)) ≤ part_limit

-- ---- the group around a member

-- The logs of the group where the member `j` has published `log` and the others their whole lists.
abbrev pub logs_at : Meaning → ℕ → List Post → Logs
logs_at t j log = slice_set (whole_logs t) j log

-- A member that has this log and nothing else.
abbrev pub with_log : List Post → Member
with_log log = record no_member { log = log }

-- The group around a member: the others have published their whole lists, nothing was sent, and no time passes.
abbrev pub world_at : Meaning → ℕ → Member → World
world_at t j m = record {
  members = slice_set (map with_log (whole_logs t)) j m;
  sent = [];
  time = 0;
  issued = [];
  tally = record { delivered = 0; attempts = 0; parts = 0; octets = 0 };
}

-- Every draw of a member has its one value. Nobody is asked over a network.
abbrev pub environment : Meaning → Environment
environment t = record {
  draw = λ j k. slice_index t.draws j;
  passes = λ asker part attempt loss. false;
  serves = λ logs held part. Nothing;
  size = λ logs part. 0;
}
