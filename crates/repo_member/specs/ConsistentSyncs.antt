-- A sync Interest of a group's member is read with its sender and vector, and each member takes it.
use Rattle.std.specs.Prelude.{◌≡◌, ℕ, ◌<◌, List, length, Some, Ok, slice_get}
use Rattle.ndn_name.specs.Names.{Component, encoding}
use Rattle.ndn_sign.specs.Ring.{key_number}
use Rattle.svs_sync.specs.SyncInterest.{sync_verdict}
use Rattle.repo_object.specs.Objects.{key_name}
use Rattle.group_model.specs.Publications.{Logs}
use Rattle.group_model.specs.Sound.{IsConsistentVector}
use Rattle.repo_member.specs.Groups.{NodeKeys, GroupKeys, HaveKeys}
use Rattle.repo_member.specs.MemberState.{MemberState}
use Rattle.repo_member.specs.Verdicts.{sync_of, hear_verdict}
use Rattle.repo_member.specs.InGroup.{AreLogs}
use Rattle.repo_member.specs.ConsistentMembers.{IsConsistentMember}

-- A node's key is found under the node's number, since the nodes, and so their keys, have different names.
abbrev pub KeysAreFound : Type 0
KeysAreFound = (nodes : NodeKeys) (number : ℕ) (node : List Component) → HaveKeys nodes
    → slice_get nodes.names number ≡ Some node → key_number (encoding (key_name node)) nodes.ring ≡ Some number

-- A sync Interest of member `sender` is read as that member's, with the vector that it was made with.
abbrev pub SyncsAreReceived : Type 0
SyncsAreReceived = (g : GroupKeys) (logs : Logs) (sender : ℕ) (vector : List ℕ) → AreLogs g logs
    → sender < length g.members.names → IsConsistentVector logs vector
    → sync_verdict g.name g.members.names g.members.ring (sync_of g sender vector) ≡ Ok (sender, vector)

-- Each consistent member takes the vector of a sync Interest that a member of its group made.
abbrev pub SyncsAreTaken : Type 0
SyncsAreTaken = (g : GroupKeys) (logs : Logs) (a : MemberState) (sender : ℕ) (vector : List ℕ) → AreLogs g logs
    → IsConsistentMember g logs a → sender < length g.members.names → IsConsistentVector logs vector
    → hear_verdict g a (sync_of g sender vector) ≡ Ok vector
