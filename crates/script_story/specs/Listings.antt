-- What members list: right after a settle, whatever was deleted; from then on; and where all know of all.
use Rattle.std.specs.Prelude.{ℕ, ◌≡◌, ◌≢◌, ◌<◌, ◌↔◌, true, false, List, [], ◌∷◌, ◌++◌, length, slice_index}
use Rattle.repo_plan.specs.Parts.{Pair}
use Rattle.repo_catalog.specs.Entries.{lists}
use Rattle.group_model.specs.Publications.{last_of}
use Rattle.group_model.specs.Member.{has_deleted}
use Rattle.group_model.specs.World.{World, catalogue_at, logs, member, sent_at}
use Rattle.group_model.specs.Catalogues.{BelongsInJoin, HoldsNoWithdrawal}
use Rattle.group_model.specs.Settles.{IsHeldAmong}
use Rattle.group_model.specs.Lasting.{StaysListed}
use Rattle.group_model.specs.Laws.{NothingDeleted, NothingWanted}
use Rattle.script_lang.specs.declared.verb.Verb.TheVariants as verb
use Rattle.script_lang.specs.Kinds.{Text, Number}
use Rattle.script_lang.specs.Forms.{statement}
use Rattle.script_report.specs.Labels.{label_at}
use Rattle.script_story.specs.Evaluation.{RunEnvironment}
use Rattle.script_story.specs.ScriptRun.{Reached}
use Rattle.script_story.specs.Headline.{AreTakenFirst, IsJoined, IsSettleLine, LinesAreTaken, Says, group_at, labels_at}

-- ---- right after a settle

-- What a member is to list after a settle: an object of which the members held every part between them before it, that
-- the member hasn't deleted, and of whose withdrawals it holds no record.
pub record IsLeftToList (before after : World) (m : ℕ) (pair : Pair) : Type 0 where
  pub held : IsHeldAmong before pair
  pub undeleted : has_deleted (member after m) pair ≡ false
  pub not_withdrawn : HoldsNoWithdrawal (logs after) (member after m) pair

-- Right after a `settle` line each member lists exactly the objects for which `IsLeftToList` holds.
abbrev pub SettledListWhatIsHeld : Type 0
SettledListWhatIsHeld = (env : RunEnvironment) (lines reports : List (List ℕ)) (r : Reached)
    → AreTakenFirst env lines reports r → (report : List ℕ) (new : Reached) → IsSettleLine env r report new
    → (m : ℕ) (pair : Pair) → m < length (group_at env r).members
    → (lists pair (catalogue_at (group_at env new) m) ≡ true)
    ↔ IsLeftToList (group_at env r) (group_at env new) m pair

-- What a member is to list after a settle, in the words of the join: an object in the join of all publications, so that
-- no publication withdraws it, of which the members held every part between them before the settle, and that the member
-- hasn't deleted.
pub record IsLeftOfJoin (before after : World) (m : ℕ) (pair : Pair) : Type 0 where
  pub joins : BelongsInJoin (logs after) pair
  pub held : IsHeldAmong before pair
  pub undeleted : has_deleted (member after m) pair ≡ false

-- Right after a `settle` line each member lists exactly the objects for which `IsLeftOfJoin` holds. No withdrawal is
-- ever deleted, so each of them reaches all members in a settle.
abbrev pub SettledListWhatIsLeft : Type 0
SettledListWhatIsLeft = (env : RunEnvironment) (lines reports : List (List ℕ)) (r : Reached)
    → AreTakenFirst env lines reports r → (report : List ℕ) (new : Reached) → IsSettleLine env r report new
    → (m : ℕ) (pair : Pair) → m < length (group_at env r).members
    → (lists pair (catalogue_at (group_at env new) m) ≡ true)
    ↔ IsLeftOfJoin (group_at env r) (group_at env new) m pair

-- ---- from then on

-- What a member lists it lists after any further lines that are taken, with the same object, unless it has deleted it
-- by then or holds the record of a withdrawal of it.
abbrev pub ListedStay : Type 0
ListedStay = (env : RunEnvironment) (before printed : List (List ℕ)) (r : Reached)
    → AreTakenFirst env before printed r
    → (lines reports : List (List ℕ)) (last : Reached) → LinesAreTaken env r lines reports last
    → (m : ℕ) (pair : Pair) → m < length (group_at env r).members
    → lists pair (catalogue_at (group_at env r) m) ≡ true
    → StaysListed (group_at env r) (group_at env last) m pair

-- ---- where all are informed of all

-- One of `lines` delivers to member `m`, by its label, a sync Interest whose vector has for member `p` the number of
-- the last publication that `p` makes in these lines.
pub record IsInformedOfAll (env : RunEnvironment) (lines : List (List ℕ)) (last : Reached) (m p : ℕ) : Type 0 where
  pub before : List (List ℕ)
  pub line : List ℕ
  pub others : List (List ℕ)
  pub lines_are : lines ≡ before ++ line ∷ others
  pub printed : List (List ℕ)
  pub here : Reached
  pub taken : AreTakenFirst env before printed here
  pub sync : ℕ
  pub stated : Says line (statement verb.Deliver (Number sync ∷ Text (label_at (labels_at last) m) ∷ []))
  pub tells : slice_index (sent_at (group_at env here) sync).vector p ≡ last_of (logs (group_at env last)) p

-- Where each member is informed of all that each other has published, if it has published at all, and nothing is wanted
-- or deleted in the end, each catalogue is the join of all publications, and is printed so, with no settle.
abbrev pub InformedMembersJoin : Type 0
InformedMembersJoin = (env : RunEnvironment) (lines reports : List (List ℕ)) (r : Reached)
    → AreTakenFirst env lines reports r
    → ((m p : ℕ) → m < length (labels_at r) → m ≢ p → 0 < last_of (logs (group_at env r)) p
    → IsInformedOfAll env lines r m p)
    → NothingWanted (group_at env r) → NothingDeleted (group_at env r) → IsJoined env r
