-- What is to be published, and what publishing answers.
use Rattle.std.specs.Prelude.{◌≡◌, ◌<◌, ◌^◌, ℕ, List, [], ◌∷◌, ◌++◌, Vec, length, slice_set}
use Rattle.std.specs.Global.{Global}
use Rattle.svs_sync.specs.SyncStates.{becomes_steady}
use Rattle.repo_object.specs.Objects.{Post, IsPost}
use Rattle.repo_object.specs.Publication.{packets}
use Rattle.repo_holdings.specs.declared.record_summary.RecordSummary.{RecordSummary}
use Rattle.repo_holdings.specs.NewPublications.{ArePackets, as_parts, with_packets}
use Rattle.repo_member.specs.declared.member.publishing.Published.{Published}
use Rattle.repo_member.specs.Groups.{GroupKeys, publisher_at}
use Rattle.repo_member.specs.MemberState.{MemberState, publication_limit, next_seq, member_publishes}
use Rattle.repo_member.specs.Verdicts.{sync_of}

-- all that publishing `post` makes: its packets, of which the first is a record that `received` describes, and the sync
-- Interest
pub record IsPrepared (g : GroupKeys) (a : MemberState) (post : Post) (received : RecordSummary) (made : List (List ℕ))
    (sync : List ℕ)
    : Type 0 where
  pub packed : made ≡ packets (publisher_at g a.number) (next_seq a) post
  pub parts : ArePackets received made
  pub synced : sync ≡ sync_of g a.number (slice_set a.known a.number (next_seq a))

-- the member publishes `post`, whose packets are `made`
abbrev pub publishes_packets : Post → List (List ℕ) → ℕ → ℕ → MemberState → MemberState
publishes_packets post made time draw a = record a {
  log = a.log ++ post ∷ [];
  known = slice_set a.known a.number (next_seq a);
  store = with_packets (as_parts (a.number, next_seq a) 0 made) a.store;
  machine = becomes_steady time draw a.machine;
}

-- the time and the number of the sync state's draws are so small that 64 bits hold them after a change
pub record CanDraw (time : ℕ) (a : MemberState) : Type 0 where
  pub early : time < 2 ^ 62
  pub few : a.machine.draws < 2 ^ 62

-- the publication `made` is published with the packets `packed`, and the answer has its number and the sync Interest
-- `interest`
pub record ArePublished (old : MemberState) (made : Post) (packed : List (List ℕ)) (interest : Vec ℕ Global)
    (time draw : ℕ) (later : MemberState) (published : Published)
    : Type 0 where
  pub new : later ≡ publishes_packets made packed time draw old
  pub seq : published.seq ≡ next_seq old
  pub sync : published.sync ≡ interest

-- the publication `made` is within the limits and is published, there was a number for it, and the answer has its
-- number and the sync Interest that reports it
pub record IsPublished (g : GroupKeys) (old : MemberState) (made : Post) (time draw : ℕ) (later : MemberState)
    (published : Published)
    : Type 0 where
  pub room : length old.log < publication_limit
  pub post : IsPost (next_seq old) made
  pub new : later ≡ member_publishes g made time draw old
  pub seq : published.seq ≡ next_seq old
  pub sync : published.sync.items ≡ sync_of g old.number later.known
