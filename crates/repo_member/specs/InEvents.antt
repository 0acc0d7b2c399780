-- Each change of a member by itself is what an event of its group makes of it.
use Rattle.std.specs.Prelude.{◌≡◌, ℕ, ◌<◌, [], ◌∷◌, List, map, Some, None, Result, length, slice_index, nat_lt}
use Rattle.std.specs.Prelude.{if◌then◌else◌}
use Rattle.svs_vector.specs.Vectors.{join_all, HaveSameVectors}
use Rattle.repo_plan.specs.declared.part.Part.{Part}
use Rattle.repo_plan.specs.Parts.{part_cmp}
use Rattle.sorted_lists.specs.SortedList.{contains}
use Rattle.repo_plan.specs.Plan.{claim_of, unclaimed, first}
use Rattle.repo_object.specs.Objects.{NamedContents}
use Rattle.repo_object.specs.Objects.Post.{Offers, Withdraws}
use Rattle.repo_command.specs.declared.command.Command.{Command}
use Rattle.group_model.specs.Publications.{Logs}
use Rattle.group_model.specs.Events.{SyncInterest, Response, Event}
use Rattle.group_model.specs.World.{Environment, World, member, logs, sent_at, catalogue_at}
use Rattle.group_model.specs.Steps.{drawn, unclaimed_at, passes_checks, response_from, response_read, planned_parts}
use Rattle.group_model.specs.Steps.{fetched_parts}
use Rattle.group_model.specs.Steps.{attempts_for, settled_vector, new_parts, block_at, after_gathering, after_event}
use Rattle.group_model.specs.Steps.{reply_to}
use Rattle.group_model.specs.Replies.{Reply}
use Rattle.group_model.specs.Refusals.{refusal}
use Rattle.repo_member.specs.Groups.{GroupKeys}
use Rattle.repo_holdings.specs.Listed.{member_catalogue}
use Rattle.repo_member.specs.MemberState.{MemberState, member_plan, member_publishes, member_learns, member_hears}
use Rattle.repo_member.specs.MemberState.{member_fires}
use Rattle.repo_holdings.specs.Taking.{Fetched}
use Rattle.repo_member.specs.MemberState.{member_claims, member_accepts, member_takes, member_ends_claims}
use Rattle.repo_member.specs.MemberState.{member_resets}
use Rattle.repo_member.specs.MemberState.{member_restarts}
use Rattle.repo_member.specs.InGroup.{in_group, StoresInOrder, AreLogs, StoresConsistently, asked_for, parts_fetched}
use Rattle.repo_member.specs.InGroup.{AreTries}
use Rattle.repo_member.specs.Commanded.{member_obeys, member_after_order, answer_to, member_order_answer}
use Rattle.repo_member.specs.Blocks.{member_block, member_blocks}

-- The member `j` of the group is the member `a` by itself.
pub record IsMemberOf (w : World) (j : ℕ) (a : MemberState) : Type 0 where
  pub there : j < length w.members
  pub number : a.number ≡ j
  pub same : member w j ≡ in_group a

-- The group's logs are within the limits, and the member stores the packets of what was published.
pub record IsConsistentIn (g : GroupKeys) (w : World) (a : MemberState) : Type 0 where
  pub published : AreLogs g (logs w)
  pub stores : StoresConsistently g (logs w) a

-- ---- what is published, heard and fired

-- The member publishes an object.
abbrev pub PublishIsEvent : Type 0
PublishIsEvent = (env : Environment) (w : World) (j : ℕ) (g : GroupKeys) (object : NamedContents) (a : MemberState)
    → IsMemberOf w j a → StoresInOrder a
    → member (after_event env w (Event.Publish j object)) j
    ≡ in_group (member_publishes g (Offers object) w.time (drawn env w j) a)

-- The member withdraws a publication.
abbrev pub WithdrawIsEvent : Type 0
WithdrawIsEvent = (env : Environment) (w : World) (j seq : ℕ) (g : GroupKeys) (a : MemberState)
    → IsMemberOf w j a → StoresInOrder a
    → member (after_event env w (Event.Withdraw j seq)) j
    ≡ in_group (member_publishes g (Withdraws seq) w.time (drawn env w j) a)

-- The member hears a sync Interest that was sent in the group.
abbrev pub DeliverIsEvent : Type 0
DeliverIsEvent = (env : Environment) (w : World) (k j : ℕ) (a : MemberState) → IsMemberOf w j a
    → member (after_event env w (Event.Deliver k j)) j
    ≡ in_group (member_hears (sent_at w k).vector w.time (drawn env w j) a)

-- A vector that reports more publications of the member than it made is refused.
abbrev pub HearIsEvent : Type 0
HearIsEvent = (env : Environment) (w : World) (j : ℕ) (sync : SyncInterest) (a : MemberState) → IsMemberOf w j a
    → member (after_event env w (Event.Hear j (Some sync))) j
    ≡ in_group
    (if nat_lt (length a.log) (slice_index sync.vector a.number) then a
    else member_hears sync.vector w.time (drawn env w j) a)

-- The member's timer is asked.
abbrev pub FireIsEvent : Type 0
FireIsEvent = (env : Environment) (w : World) (j : ℕ) (a : MemberState) → IsMemberOf w j a
    → member (after_event env w (Event.Fire j)) j ≡ in_group (member_fires w.time (drawn env w j) a)

-- The member starts again.
abbrev pub RestartIsEvent : Type 0
RestartIsEvent = (env : Environment) (w : World) (j : ℕ) (a : MemberState) → IsMemberOf w j a
    → member (after_event env w (Event.Restart j)) j ≡ in_group (member_restarts w.time (drawn env w j) a)

-- ---- what is claimed and received

-- A fetcher that claims nothing claims the part that the group says.
abbrev pub ClaimIsEvent : Type 0
ClaimIsEvent = (env : Environment) (w : World) (j f : ℕ) (g : GroupKeys) (a : MemberState)
    → IsMemberOf w j a → IsConsistentIn g w a → claim_of (member_plan a) f ≡ None
    → member (after_event env w (Event.Claim j f)) j ≡ in_group (member_claims f (first (unclaimed (member_plan a))) a)

-- A fetcher loses its claim.
abbrev pub LoseIsEvent : Type 0
LoseIsEvent = (env : Environment) (w : World) (j f : ℕ) (a : MemberState) → IsMemberOf w j a
    → member (after_event env w (Event.Lose j f)) j ≡ in_group (member_claims f None a)

-- What another member gives for a claimed part is accepted where it passes its checks.
abbrev pub AnswerIsEvent : Type 0
AnswerIsEvent = (env : Environment) (w : World) (j f q : ℕ) (t : Part) (octets : List ℕ) (a : MemberState)
    → IsMemberOf w j a → StoresInOrder a → claim_of (member_plan a) f ≡ Some t
    → member (after_event env w (Event.Answer j f q)) j
    ≡ in_group (if passes_checks (response_from env w q (Some t)) then member_accepts f t octets a else a)

-- Octets from outside are accepted for a claimed part where they pass its checks.
abbrev pub FeedIsEvent : Type 0
FeedIsEvent = (env : Environment) (w : World) (j f : ℕ) (read : Logs → Part → Response) (t : Part) (octets : List ℕ)
    (a : MemberState)
    → IsMemberOf w j a → StoresInOrder a → claim_of (member_plan a) f ≡ Some t
    → member (after_event env w (Event.Feed j f read)) j
    ≡ in_group (if passes_checks (response_read w read (Some t)) then member_accepts f t octets a else a)

-- A fetch's outcome is that of the group's fetch.
pub record IsOutcomeIn (env : Environment) (w : World) (j tries loss : ℕ) (xs : List Fetched) : Type 0 where
  pub asked : asked_for xs ≡ planned_parts w j
  pub came : parts_fetched xs ≡ fetched_parts env w j tries loss
  pub tried : AreTries (attempts_for env w j tries loss) xs

-- The result of a fetch is taken, where the group has the same outcome.
abbrev pub FetchIsEvent : Type 0
FetchIsEvent = (env : Environment) (w : World) (j tries loss : ℕ) (xs : List Fetched) (a : MemberState)
    → IsMemberOf w j a → StoresInOrder a → IsOutcomeIn env w j tries loss xs
    → member (after_event env w (Event.Fetch j tries loss)) j ≡ in_group (member_takes xs a)

-- ---- commands and blocks

-- The member obeys a command that a client made. Octets that are refused with a code change nothing.
abbrev pub OrderIsEvent : Type 0
OrderIsEvent = (env : Environment) (w : World) (j : ℕ) (order : Result (ℕ × Command) ℕ) (g : GroupKeys)
    (a : MemberState)
    → IsMemberOf w j a → IsConsistentIn g w a
    → member (after_event env w (Event.Order j order)) j ≡ in_group (member_after_order order a)

-- The group replies to a client's command, or to octets that are refused with a code, with the member's answer.
abbrev pub OrderIsAnswered : Type 0
OrderIsAnswered = (env : Environment) (w : World) (j : ℕ) (order : Result (ℕ × Command) ℕ) (g : GroupKeys)
    (a : MemberState)
    → IsMemberOf w j a → IsConsistentIn g w a
    → reply_to env w (Event.Order j order) ≡ Reply.Commanded (member_order_answer order a)

-- A client makes a command and gives it to the member.
abbrev pub IssueIsEvent : Type 0
IssueIsEvent = (env : Environment) (w : World) (j client : ℕ) (command : Command) (g : GroupKeys) (a : MemberState)
    → IsMemberOf w j a → IsConsistentIn g w a
    → member (after_event env w (Event.Issue j client command)) j ≡ in_group (member_obeys command a)

-- The group replies to a command that a client makes with the member's answer.
abbrev pub IssueIsAnswered : Type 0
IssueIsAnswered = (env : Environment) (w : World) (j client : ℕ) (command : Command) (g : GroupKeys) (a : MemberState)
    → IsMemberOf w j a → IsConsistentIn g w a
    → reply_to env w (Event.Issue j client command) ≡ Reply.Commanded (answer_to command a)

-- A block has the same result in the group and in the member by itself.
abbrev pub BlockStatesAlike : Type 0
BlockStatesAlike = (w : World) (j process index : ℕ) (content : List ℕ) (a : MemberState) → IsMemberOf w j a
    → block_at w j process index content ≡ member_block a process index content

-- The member takes a block that isn't refused.
abbrev pub BlockIsEvent : Type 0
BlockIsEvent = (env : Environment) (w : World) (j process index : ℕ) (content : List ℕ) (g : GroupKeys)
    (a : MemberState)
    → IsMemberOf w j a → StoresInOrder a → refusal env w (Event.Block j process index content) ≡ None
    → member (after_event env w (Event.Block j process index content)) j
    ≡ in_group (member_blocks g process index content w.time (drawn env w j) a)

-- ---- a settle

-- The member after it took vectors one by one, without its sync state being informed of them.
abbrev pub learns_all : List (List ℕ) → MemberState → MemberState
learns_all [] a = a
learns_all (received ∷ others) a = learns_all others (member_learns received a)

-- A member that takes vectors one by one has the join of its own and them all, and nothing else of it changes.
abbrev pub LearnsAtOnce : Type 0
LearnsAtOnce = (vectors : List (List ℕ)) (a : MemberState)
    → learns_all vectors a ≡ record a { known = join_all (a.known ∷ vectors) }

-- The vectors, with the member's own, are those of the group's members, in any order and with any repeats.
abbrev pub AreAllVectors : World → MemberState → List (List ℕ) → Type 0
AreAllVectors w a vectors = HaveSameVectors (a.known ∷ vectors) (map (λ m. m.known) w.members)

-- A member that takes the vectors of all members has the vector that the group settles on.
abbrev pub LearnsWhatAllKnow : Type 0
LearnsWhatAllKnow = (w : World) (a : MemberState) (vectors : List (List ℕ)) → AreAllVectors w a vectors
    → (learns_all vectors a).known ≡ settled_vector w

-- In a settle the member takes the vectors of all members, it receives just the parts that it gains, in any order, and
-- no attempt is counted.
pub record IsSettling (w : World) (j : ℕ) (a : MemberState) (vectors : List (List ℕ)) (xs : List Fetched) : Type 0 where
  pub received : AreAllVectors w a vectors
  pub came : (t : Part) → contains part_cmp (parts_fetched xs) t ≡ contains part_cmp (new_parts w (member w j)) t
  pub tried : AreTries (λ t. 0) xs

-- In a settle the member takes all vectors and what it fetched from others.
abbrev pub GatheringIsEvent : Type 0
GatheringIsEvent = (env : Environment) (w : World) (j : ℕ) (vectors : List (List ℕ)) (xs : List Fetched)
    (a : MemberState)
    → IsMemberOf w j a → StoresInOrder a → IsSettling w j a vectors xs
    → member (after_gathering env w) j ≡ in_group (member_takes xs (learns_all vectors (member_ends_claims a)))

-- After a settle the member's sync state is Steady anew, too.
abbrev pub SettleIsEvent : Type 0
SettleIsEvent = (env : Environment) (w : World) (j : ℕ) (vectors : List (List ℕ)) (xs : List Fetched) (a : MemberState)
    → IsMemberOf w j a → StoresInOrder a → IsSettling w j a vectors xs
    → member (after_event env w Event.Settle) j
    ≡ in_group (member_resets w.time (drawn env w j) (member_takes xs (learns_all vectors (member_ends_claims a))))

-- ---- what is reported

-- The parts that a member can claim or fetch are those that the group has for it.
abbrev pub OpenPartsAlike : Type 0
OpenPartsAlike = (w : World) (j : ℕ) (g : GroupKeys) (a : MemberState) → IsMemberOf w j a → IsConsistentIn g w a
    → unclaimed_at w j ≡ unclaimed (member_plan a)

-- The member lists the catalogue that the group has for it.
abbrev pub CataloguesAlike : Type 0
CataloguesAlike = (w : World) (j : ℕ) (g : GroupKeys) (a : MemberState) → IsMemberOf w j a → IsConsistentIn g w a
    → catalogue_at w j ≡ member_catalogue a.store
