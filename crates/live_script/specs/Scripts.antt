-- What is kept of an input's lines, and what they give in the end.
use Rattle.std.specs.Prelude.{◌≡◌, ◌≤◌, ℕ, ◌+◌, Bool, true, ◌&&◌, List, [], map, length, sum_by, Option, Some, None}
use Rattle.std.specs.Prelude.{Ok, IsTrue, is_some, nat_le, string_bytes}
use Rattle.std.specs.List.{All}
use Rattle.ndn_name.specs.Names.{Component}
use Rattle.script_lang.specs.Limits.{script_lines, script_octets}
use Rattle.script_lang.specs.Checking.{party_label, publication_parts, party_node}
use Rattle.script_lang.specs.Forms.{Stated}
use Rattle.script_lang.specs.Lines.{line_of}
use Rattle.repo_object.specs.Objects.{IsObject, is_object_name}
use Rattle.repo_member.specs.Groups.{GroupKeys, no_nodes}
use Rattle.live_member.specs.Meanings.{meaning_of, IsWithinLimits, object_limit, part_count, part_limit}
use Rattle.live_script.specs.declared.members.Members.{Members}
use Rattle.live_script.specs.declared.totals.Totals.{Totals}
use Rattle.live_script.specs.Evaluation.{Reached, nobody}
use Rattle.live_script.specs.Limits.{live_contents}

-- ---- totals

-- Totals over publications: how many there are, the octets of their contents, and their parts.
pub record TotalsView : Type 0 where
  pub objects : ℕ
  pub contents : ℕ
  pub parts : ℕ

-- What contracts see of the totals.
abbrev pub totals_view : Totals → TotalsView
totals_view t = record { objects = t.objects; contents = t.contents; parts = t.parts }

-- The totals before the first publication.
abbrev pub no_totals : TotalsView
no_totals = record { objects = 0; contents = 0; parts = 0 }

-- The totals with one more publication, of `octets` octets in `segments` segments.
abbrev pub with_one_more : ℕ → ℕ → TotalsView → TotalsView
with_one_more octets segments t = record {
  objects = t.objects + 1;
  contents = t.contents + octets;
  parts = t.parts + publication_parts segments;
}

-- The totals are within the limits of a live group.
abbrev pub are_few : TotalsView → Bool
are_few t = nat_le t.objects object_limit && nat_le t.contents live_contents && nat_le t.parts part_limit

-- ---- what is kept

-- The names and keys of the group, where a line named it.
abbrev pub group_keys : Option GroupKeys → GroupKeys
group_keys None = nobody
group_keys (Some group) = group

-- What is kept is what the lines declare: the group, in order its members' labels and lists, and the totals over these,
-- which are within the limits. No client is declared.
pub record IsKept (labels : List (List ℕ)) (group : Option GroupKeys) (totals : TotalsView) (r : Reached) : Type 0 where
  pub lines : r.lines ≤ script_lines
  pub octets : r.octets ≤ script_octets
  pub there : r.declared.group ≡ is_some group
  pub names : labels ≡ map party_label r.declared.members
  pub nodes : map party_node r.declared.members ≡ r.keys.members.names
  pub clients : r.declared.clients ≡ []
  pub no_clients : r.keys.clients ≡ no_nodes
  pub width : length r.lists ≡ length r.declared.members
  pub objects : All (All IsObject) r.lists
  pub count : totals.objects ≡ sum_by length r.lists
  pub contents : totals.contents ≡ r.declared.totals.contents
  pub parts : totals.parts ≡ r.declared.totals.parts
  pub counted : totals.parts ≡ sum_by (sum_by part_count) r.lists
  pub few : are_few totals ≡ true

-- ---- lines

-- Some octets are this line.
pub record IsLine (line : Stated) : Type 0 where
  pub octets : List ℕ
  pub read : line_of octets ≡ Ok (Some line)

-- What is published has an object's name, a size of 1 to 8,000 and not too many octets.
pub record IsPublication (name : List Component) (size : ℕ) (content : List ℕ) : Type 0 where
  pub named : IsTrue (is_object_name name)
  pub some : 1 ≤ size
  pub few : size ≤ 8000
  pub octets : length content ≤ 16000000

-- ---- what is given

-- The group, the labels and the lists of all lines, which a live group can run with any draws.
pub record Gives (r : Reached) (m : Members) : Type 0 where
  pub group : m.group ≡ r.keys
  pub labels : map string_bytes m.labels.items ≡ map party_label r.declared.members
  pub lists : map (λ l. l.items) m.lists.items ≡ r.lists
  pub within : (draws : List ℕ) → IsWithinLimits (meaning_of r.keys r.lists draws)

-- No line named a group: there is no member.
pub record GivesNobody (r : Reached) : Type 0 where
  pub keys : r.keys ≡ nobody
  pub members : r.declared.members ≡ []
  pub lists : r.lists ≡ []
