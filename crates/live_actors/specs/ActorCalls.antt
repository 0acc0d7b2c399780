-- What the actors of a live group do, as the list of their calls: a function of the answers to these.
use Rattle.std.specs.Prelude.{ℕ, zero, suc, ◌≡◌, ◌≤◌, ◌<◌, ◌==◌, Bool, true, false, Option, Some, None, ⊤}
use Rattle.std.specs.Prelude.{List, [], ◌∷◌, ◌++◌, ◌+◌, length, sum_by, if◌then◌else◌, nat_lt}
use Rattle.std.specs.List.{AllByRecursion}
use Rattle.repo_plan.specs.declared.part.Part.{Part}
use Rattle.live_member.specs.declared.event.LiveReply.{LiveReply}
use Rattle.live_member.specs.declared.event.LiveReply.TheVariants as reply
use Rattle.live_member.specs.Reports.{Loan}
use Rattle.live_actors.specs.declared.actor.Actor.{Actor}
use Rattle.live_actors.specs.declared.actor.Actor.TheVariants as actor

-- A call that an actor makes, with its answer. Sync Interests are seen as their octets.
pub data Call : Type 0 where
  Pass : (member actor : ℕ) → Call
  Publish : (member : ℕ) (told : Option (List ℕ)) → Call
  Tell : (other : ℕ) (told : List ℕ) → Call
  Take : (told : Option (List ℕ)) → Call
  Hear : (member : ℕ) (told : List ℕ) (replied : LiveReply) → Call
  Claim : (member f : ℕ) (claimed : LiveReply) → Call
  Lend : (publisher : ℕ) (part : Part) (lent : Option Loan) → Call
  Accept : (member f : ℕ) (lent : Loan) (ended : LiveReply) → Call
  Lose : (member f : ℕ) (ended : LiveReply) → Call

-- How many members there are, how many inboxes the actor may put sync Interests into, the calls that it made so far,
-- and how many tickets it has left.
pub record Progress : Type 0 where
  pub members : ℕ
  pub senders : ℕ
  pub calls : List Call
  pub left : ℕ

-- The tickets that a publish call takes: 1 where nothing was published, else 0.
abbrev pub last_look : Option (List ℕ) → ℕ
last_look None = 1
last_look (Some told) = 0

-- The tickets that a call takes: 1 for a claim, whatever is replied, and for a publish call where nothing was
-- published.
abbrev pub spends : Call → ℕ
spends (Claim member f claimed) = 1
spends (Publish member told) = last_look told
spends _ = 0

-- These calls were made, in this order, and no others, and their tickets were taken.
abbrev pub Makes : List Call → Progress → Progress → Type 0
Makes calls old new =
    (new.members ≡ old.members) × (new.senders ≡ old.senders) × (new.calls ≡ old.calls ++ calls)
    × (new.left + sum_by spends calls ≡ old.left)

-- If the reply is a part that was claimed, its publisher's number is below `members`, the number of members.
abbrev pub IsOfMember : ℕ → LiveReply → Type 0
IsOfMember members (reply.Claimed part) = part.publisher < members
IsOfMember members _ = ⊤

-- ---- a fetcher

-- The answers to a fetcher in one turn: the reply to its claim, what was lent for it, and the reply to the accept or
-- the lose.
pub record Turn : Type 0 where
  pub claimed : LiveReply
  pub lent : Option Loan
  pub ended : LiveReply

-- How a claim ends: what was lent is accepted, and where nothing was lent the claim is lost.
abbrev pub ends : ℕ → ℕ → Option Loan → LiveReply → Call
ends member f (Some lent) ended = Accept member f lent ended
ends member f None ended = Lose member f ended

-- The calls that end a claim: the gate, and then the accept or the lose.
abbrev pub end_calls : ℕ → ℕ → Option Loan → LiveReply → List Call
end_calls member f lent ended = Pass member f ∷ ends member f lent ended ∷ []

-- The gate was passed and the claim ended, and no other call made.
abbrev pub EndsClaim : ℕ → ℕ → Option Loan → Progress → Progress → Type 0
EndsClaim member f lent old new = (ended : LiveReply) × Makes (end_calls member f lent ended) old new

-- The calls after a claim. Where a part was claimed: the gate, its publisher lends, and the calls that end the claim.
-- Where none was: no calls.
abbrev pub fetches : ℕ → ℕ → LiveReply → Option Loan → LiveReply → List Call
fetches member f (reply.Claimed part) lent ended =
    Pass member f ∷ Lend part.publisher part lent ∷ end_calls member f lent ended
fetches member f _ lent ended = []

-- The calls of a turn: the gate, a claim, and the calls after it.
abbrev pub turn_calls : ℕ → ℕ → Turn → List Call
turn_calls member f turn =
    Pass member f ∷ Claim member f turn.claimed ∷ fetches member f turn.claimed turn.lent turn.ended

-- The calls of a fetcher in these turns, in order.
abbrev pub fetcher_calls : ℕ → ℕ → List Turn → List Call
fetcher_calls member f [] = []
fetcher_calls member f (turn ∷ turns) = turn_calls member f turn ++ fetcher_calls member f turns

-- One turn was taken, and no other call made.
abbrev pub TakesTurn : ℕ → ℕ → Progress → Progress → Type 0
TakesTurn member f old new = (turn : Turn) × Makes (turn_calls member f turn) old new

-- The fetcher `f` took `n` turns, and no other call was made.
abbrev pub Fetches : ℕ → ℕ → ℕ → Progress → Progress → Type 0
Fetches member f n old new =
    (turns : List Turn) × (length turns ≡ n) × Makes (fetcher_calls member f turns) old new

-- ---- the actor that publishes

-- The actor that publishes for the member `number`, in a group of `count` members, can do so: it may put sync Interests
-- into the inboxes of all members, and has a ticket left.
pub record CanPublish (count number : ℕ) (progress : Progress) : Type 0 where
  pub members : count ≡ progress.members
  pub senders : count ≡ progress.senders
  pub member : number < count
  pub ticket : 0 < progress.left

-- The sync Interest `told` is put into the inboxes of all members below a number, except `member`, in order.
abbrev pub tells : ℕ → ℕ → List ℕ → List Call
tells zero member told = []
tells (suc n) member told = tells n member told ++ (if n == member then [] else Tell n told ∷ [])

-- A sync Interest that was taken out of the inbox, and what the member replied when it heard it.
pub record Heard : Type 0 where
  pub told : List ℕ
  pub replied : LiveReply

-- Sync Interests were taken out of the inbox, one by one, and each was heard after the gate.
abbrev pub hears : ℕ → List Heard → List Call
hears member [] = []
hears member (heard ∷ later) =
    Take (Some heard.told) ∷ Pass member 0 ∷ Hear member heard.told heard.replied ∷ hears member later

-- How many sync Interests a member hears after each publication at most.
abbrev pub heard_at_once : ℕ
heard_at_once = 64

-- The sync Interests were taken and heard. Where they are fewer than 64, one more take found none.
abbrev pub hears_some : ℕ → List Heard → List Call
hears_some member heard =
    hears member heard ++ (if nat_lt (length heard) heard_at_once then Take None ∷ [] else [])

-- At most 64 sync Interests were taken and heard, and no other call was made.
abbrev pub HearsSome : ℕ → Progress → Progress → Type 0
HearsSome member old new =
    (heard : List Heard) × (length heard ≤ heard_at_once) × Makes (hears_some member heard) old new

-- A publication: its sync Interest, and what the member heard after it.
pub record Round : Type 0 where
  pub told : List ℕ
  pub heard : List Heard

-- The calls of a round: the gate, the publication, its sync Interest into the inboxes of all others, and the calls by
-- which the member hears.
abbrev pub round_calls : ℕ → ℕ → Round → List Call
round_calls members member round =
    (Pass member 0 ∷ Publish member (Some round.told) ∷ tells members member round.told)
    ++ hears_some member round.heard

-- The calls of these rounds, in order.
abbrev pub rounds_calls : ℕ → ℕ → List Round → List Call
rounds_calls members member [] = []
rounds_calls members member (round ∷ later) = round_calls members member round ++ rounds_calls members member later

-- The last calls of an actor that publishes: the gate, and a publish call where nothing was published.
abbrev pub last_calls : ℕ → List Call
last_calls member = Pass member 0 ∷ Publish member None ∷ []

-- The calls of a publishing actor for its next object: those of a round where one was published (`true`), else the last
-- calls.
abbrev pub PublishesNext : ℕ → Bool → Progress → Progress → Type 0
PublishesNext member true old new =
    (round : Round) × (length round.heard ≤ heard_at_once) × Makes (round_calls old.members member round) old new
PublishesNext member false old new = Makes (last_calls member) old new

-- The actor made rounds one after the other, then the last calls, and no other call.
abbrev pub Publishes : ℕ → Progress → Progress → Type 0
Publishes member old new =
    (rounds : List Round) × AllByRecursion (λ (r : Round). length r.heard ≤ heard_at_once) rounds
    × Makes (rounds_calls old.members member rounds ++ last_calls member) old new

-- ---- any actor

-- The actor's member is one of the group. An actor that publishes may put sync Interests into the inboxes of all
-- members.
abbrev pub IsActorIn : Progress → Actor → Type 0
IsActorIn progress (actor.Publish member) = (member < progress.members) × (progress.senders ≡ progress.members)
IsActorIn progress (actor.First member) = member < progress.members
IsActorIn progress (actor.Second member) = member < progress.members

-- All calls of an actor were made: its publications, or `turns` turns as fetcher 1 or 2.
abbrev pub Acts : ℕ → Actor → Progress → Progress → Type 0
Acts turns (actor.Publish member) old new = Publishes member old new
Acts turns (actor.First member) old new = Fetches member 1 turns old new
Acts turns (actor.Second member) old new = Fetches member 2 turns old new

-- The tickets of an actor: one for the publish call where nothing is published, or one for the claim of each turn.
abbrev pub tickets_of : Actor → ℕ → ℕ
tickets_of (actor.Publish member) turns = 1
tickets_of (actor.First member) turns = turns
tickets_of (actor.Second member) turns = turns
