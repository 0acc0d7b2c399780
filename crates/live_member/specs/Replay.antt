-- What a journal's entries make of a member, by the events of its group, and what is replied.
use Rattle.std.specs.Prelude.{ℕ, ◌≡◌, ◌&&◌, ◌==◌, Bool, true, false, List, [], ◌∷◌, length, Option, Some, None}
use Rattle.std.specs.Prelude.{Result, Ok, Err}
use Rattle.std.specs.Prelude.{is_some, is_none, slice_index_or, if◌then◌else◌}
use Rattle.repo_object.specs.Objects.{NamedContents}
use Rattle.repo_plan.specs.declared.part.Part.{Part}
use Rattle.svs_sync.specs.declared.mode.Mode.{Mode}
use Rattle.svs_sync.specs.declared.mode.Mode.TheVariants.{Steady, Suppressed}
use Rattle.repo_member.specs.Verdicts.{group_verdict}
use Rattle.group_model.specs.Publications.{Logs, no_object}
use Rattle.group_model.specs.Events.{SyncInterest, Response, Event}
use Rattle.group_model.specs.Events.Response.{Nothing, Its}
use Rattle.group_model.specs.Member.{Member}
use Rattle.group_model.specs.World.{member}
use Rattle.group_model.specs.Replies.{Reply}
use Rattle.group_model.specs.Steps.{claim_at, after_event, reply_to}
use Rattle.live_member.specs.declared.event.LiveEvent.{LiveEvent}
use Rattle.live_member.specs.declared.event.LiveEvent.TheVariants as event
use Rattle.live_member.specs.declared.event.LiveReply.{LiveReply}
use Rattle.live_member.specs.declared.event.LiveReply.TheVariants as reply
use Rattle.live_member.specs.declared.event.LiveEntry.{LiveEntry}
use Rattle.live_member.specs.Meanings.{Meaning, objects_of, world_at, environment}

-- ---- an entry as an event of the group

-- The next object of the member's list.
abbrev pub next_object : Meaning → ℕ → Member → NamedContents
next_object t j m = slice_index_or (objects_of t j) (length m.log) no_object

-- The sync Interest, by its sender and vector, that octets with this verdict are; none where they are refused.
abbrev pub sync_read : {A : Type 0} → Result (ℕ × List ℕ) A → Option SyncInterest
sync_read (Ok told) = Some (record { sender = told.0; vector = told.1 })
sync_read (Err refusal) = None

-- The two parts are the same.
abbrev pub is_part : Part → Part → Bool
is_part t u = (t.publisher == u.publisher) && ((t.seq == u.seq) && (t.part == u.part))

-- The packet of the part `t` as the answer to a claim: it is taken where `t` is claimed, and for no other part.
abbrev pub fed : Part → Logs → Part → Response
fed t logs claimed = if is_part t claimed then Its else Nothing

-- The event of the group that an entry of a journal stands for.
abbrev pub event_of : Meaning → ℕ → Member → LiveEvent → Event
event_of t j m event.Publish = Event.Publish j (next_object t j m)
event_of t j m (event.Hear octets) = Event.Hear j (sync_read (group_verdict t.group octets))
event_of t j m (event.Claim f) = Event.Claim j f
event_of t j m (event.Accept f part) = Event.Feed j f (fed part)
event_of t j m (event.Lose f) = Event.Lose j f

-- A claim by a fetcher that claims a part, and a loss by one that claims none, are refused.
abbrev pub is_refused : Meaning → ℕ → Member → LiveEvent → Bool
is_refused t j m event.Publish = false
is_refused t j m (event.Hear octets) = false
is_refused t j m (event.Claim f) = is_some (claim_at (world_at t j m) j f)
is_refused t j m (event.Accept f part) = false
is_refused t j m (event.Lose f) = is_none (claim_at (world_at t j m) j f)

-- ---- the result of an entry

-- The reply with the mode of the sync state.
abbrev pub mode_reply : Mode → LiveReply
mode_reply Steady = reply.Steady
mode_reply Suppressed = reply.Suppressed

-- The reply that a journal has for a reply of the group. It is Refused for octets that are refused and for packets that
-- aren't taken.
abbrev pub live_reply : Reply → LiveReply
live_reply (Reply.Published seq segments sync) = reply.Published seq
live_reply (Reply.Heard mode) = mode_reply mode
live_reply (Reply.Claimed None) = reply.NoPart
live_reply (Reply.Claimed (Some t)) = reply.Claimed t
live_reply (Reply.Lost (Some t)) = reply.Lost t
live_reply (Reply.Fed true) = reply.Kept
live_reply _ = reply.Refused

-- The member `m`, of number `j`, after the event `e`. An event that is refused changes nothing.
abbrev pub after : Meaning → ℕ → Member → LiveEvent → Member
after t j m e =
    if is_refused t j m e then m else member (after_event (environment t) (world_at t j m) (event_of t j m e)) j

-- The reply to the event `e` at the member `m`, of number `j`: Refused, or the group's reply.
abbrev pub reply_of : Meaning → ℕ → Member → LiveEvent → LiveReply
reply_of t j m e =
    if is_refused t j m e then reply.Refused
    else live_reply (reply_to (environment t) (world_at t j m) (event_of t j m e))

-- The entries, replayed in order at the member `j` from the state `from`, give the replies that they have and end in
-- the state `to`.
abbrev pub Replays : Meaning → ℕ → List LiveEntry → Member → Member → Type 0
Replays t j [] from to = from ≡ to
Replays t j (e ∷ es) from to = (reply_of t j from e.event ≡ e.reply) × Replays t j es (after t j from e.event) to
