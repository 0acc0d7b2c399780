-- The actors of a run.
use Rattle.std.specs.Prelude.{ℕ, zero, suc, ◌≡◌, ◌<◌, ◌≤◌, List, [], ◌∷◌, ◌++◌, map, length, sum_by, slice_index_or}
use Rattle.std.specs.List.{All}
use Rattle.live_inbox.specs.Ends.{InboxView}
use Rattle.live_actors.specs.declared.actor.Actor.{Actor}
use Rattle.live_actors.specs.declared.actor.Actor.TheVariants as actor
use Rattle.live_actors.specs.ActorCalls.{tickets_of}
use Rattle.live_group.specs.declared.actor_job.Job.{Job}
use Rattle.live_group.specs.declared.actor_job.Job.TheVariants.{Publish, First, Second}
use Rattle.live_group.specs.Senders.{HaveCapacity, inbox_capacity}

-- The member whose actor it is.
abbrev pub member_of : Actor → ℕ
member_of (actor.Publish member) = member
member_of (actor.First member) = member
member_of (actor.Second member) = member

module _ {L : Type 0} where
  -- Which actor it is.
  abbrev pub actor_of : Job L → Actor
  actor_of (Publish publisher) = actor.Publish publisher.member
  actor_of (First member) = actor.First member
  actor_of (Second member) = actor.Second member

  -- The first actor of a member has a line to each member's inbox, in order, and hears what is put into its own.
  abbrev pub IsWired : List InboxView → Job L → Type 0
  IsWired inboxes (Publish publisher) =
      (map (λ sender. sender.inbox) publisher.senders.items ≡ inboxes)
      × ((d : InboxView) → slice_index_or inboxes publisher.member d ≡ publisher.receiver.inbox)
  IsWired inboxes (First member) = Unit {0}
  IsWired inboxes (Second member) = Unit {0}

  -- The actor's member has a number below `members`.
  abbrev pub IsActorBelow : ℕ → Job L → Type 0
  IsActorBelow members job = member_of (actor_of job) < members

  -- A member's first actor has `senders` lines.
  abbrev pub HasSenders : ℕ → Job L → Type 0
  HasSenders senders (Publish publisher) = senders ≡ length publisher.senders.items
  HasSenders senders (First member) = Unit {0}
  HasSenders senders (Second member) = Unit {0}

  -- A job can be done with `seats` seats in a group of `count` members. Each member has a seat, and there are at most
  -- sixteen. The job is that of an actor of one of these members. If it publishes, it has a line to each member.
  pub record CanBeDone (seats count : ℕ) (job : Job L) : Type 0 where
    pub members : seats ≡ count
    pub few : seats ≤ 16
    pub actor : IsActorBelow seats job
    pub senders : HasSenders seats job

-- Three actors for each of the members below this number, in order.
abbrev pub actors_below : ℕ → List Actor
actors_below zero = []
actors_below (suc n) = actors_below n ++ actor.Publish n ∷ actor.First n ∷ actor.Second n ∷ []

-- How many tickets these actors have.
abbrev pub all_tickets : ℕ → List Actor → ℕ
all_tickets turns actors = sum_by (λ (a : Actor). tickets_of a turns) actors

-- The jobs are those of all actors of `members` members, each once, wired to the members' inboxes, each of the same
-- capacity.
pub record AreJobs {L : Type 0} (members : ℕ) (jobs : List (Job L)) : Type 0 where
  pub inboxes : List InboxView
  pub width : length inboxes ≡ members
  pub capacity : HaveCapacity inbox_capacity inboxes
  pub actors : map actor_of jobs ≡ actors_below members
  pub wired : All (IsWired inboxes) jobs
