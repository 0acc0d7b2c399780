-- What a call under the lock does.
use Rattle.std.specs.Prelude.{ℕ, ◌≡◌, ◌≢◌, ◌<◌, ◌≤◌, List, [], ◌∷◌, ◌++◌, length, Result, Ok, Err}
use Rattle.repo_object.specs.Objects.{NamedContents}
use Rattle.repo_object.specs.Objects.Post.{Offers}
use Rattle.repo_member.specs.InGroup.{in_group}
use Rattle.repo_member.specs.Verdicts.{sync_of}
use Rattle.live_member.specs.declared.event.LiveEvent.{LiveEvent}
use Rattle.live_member.specs.declared.event.LiveEvent.TheVariants as event
use Rattle.live_member.specs.declared.event.LiveReply.{LiveReply}
use Rattle.live_member.specs.declared.event.LiveReply.TheVariants as reply
use Rattle.live_member.specs.declared.event.LiveEntry.{LiveEntry}
use Rattle.live_member.specs.declared.live.NextTold.{NextTold}
use Rattle.live_member.specs.declared.live.NextTold.TheVariants as next
use Rattle.live_member.specs.Meanings.{Meaning}
use Rattle.live_member.specs.Replay.{after, reply_of}
use Rattle.live_member.specs.Lives.{Living, IsLive}

-- An entry of a journal: what happened, and what was replied.
abbrev pub entry : LiveEvent → LiveReply → LiveEntry
entry e r = record { event = e; reply = r }

-- The event `e` happens to the member, as one of its group, and `r` is the reply. The member keeps its number, and its
-- journal gains one entry, `e` with `r`.
pub record IsEntered (t : Meaning) (e : LiveEvent) (old new : Living) (r : LiveReply) : Type 0 where
  pub replied : r ≡ reply_of t old.state.number (in_group old.state) e
  pub changed : in_group new.state ≡ after t old.state.number (in_group old.state) e
  pub number : new.state.number ≡ old.state.number
  pub entered : new.journal ≡ old.journal ++ entry e r ∷ []

-- A call with the event `e` and the reply `r`. If the journal has fewer than `most` entries, the event is entered and
-- the unpublished objects stay. Otherwise the reply is Full and nothing changes. `IsLive` holds of `new`.
abbrev pub StepsBy : Meaning → ℕ → LiveEvent → Living → Living → LiveReply → Type 0
StepsBy t most e old new r =
    (most ≤ length old.journal → (r ≡ reply.Full) × (new ≡ old))
    × (length old.journal < most → IsEntered t e old new r × (new.unpublished ≡ old.unpublished))
    × IsLive t most new

-- The result of a call with the event `e`: a reply, as `StepsBy` says, or memory ran out, and nothing changed.
abbrev pub Steps : {A : Type 0} → Meaning → ℕ → LiveEvent → Living → Living → Result LiveReply A → Type 0
Steps t most e old new (Ok r) = StepsBy t most e old new r
Steps t most e old new (Err want) = new ≡ old

-- The journal isn't full. The first unpublished object is published and entered in the journal, and `octets` are the
-- sync Interest with the member's vector afterwards. `IsLive` holds of `new`.
pub record IsNext (t : Meaning) (most : ℕ) (old new : Living) (octets : List ℕ) : Type 0 where
  pub room : length old.journal < most
  pub object : NamedContents
  pub first : old.unpublished ≡ object ∷ new.unpublished
  pub log : new.state.log ≡ old.state.log ++ Offers object ∷ []
  pub reply : LiveReply
  pub entered : IsEntered t event.Publish old new reply
  pub told : octets ≡ sync_of t.group new.state.number new.state.known
  pub live : IsLive t most new

-- The result of `publish_next`: Done where no object is unpublished, and Full where one is and the journal has `most`
-- entries. Else the next object is published, or memory runs out. Only a publication changes anything.
abbrev pub Publishes : {A L : Type 0} → Meaning → ℕ → Living → Living → Result (NextTold L) A → Type 0
Publishes t most old new (Ok (next.Told octets)) = IsNext t most old new octets
Publishes t most old new (Ok next.Done) = (old.unpublished ≡ []) × (new ≡ old)
Publishes t most old new (Ok next.Full) = (old.unpublished ≢ []) × (most ≤ length old.journal) × (new ≡ old)
Publishes t most old new (Err want) = new ≡ old
