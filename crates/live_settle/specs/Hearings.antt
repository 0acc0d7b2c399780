-- What a member hears, entry by entry.
use Rattle.std.specs.Prelude.{ℕ, ◌≡◌, ◌≢◌, ◌==◌, not, List, ◌++◌, map, filter}
use Rattle.repo_member.specs.Verdicts.{sync_of}
use Rattle.live_member.specs.declared.event.LiveEvent.{LiveEvent}
use Rattle.live_member.specs.declared.event.LiveEvent.TheVariants as event
use Rattle.live_member.specs.declared.event.LiveReply.{LiveReply}
use Rattle.live_member.specs.declared.event.LiveEntry.{LiveEntry}
use Rattle.live_member.specs.Meanings.{Meaning}
use Rattle.live_member.specs.Lives.{Living}
use Rattle.live_member.specs.LockedCalls.{IsEntered}
use Rattle.live_settle.specs.Ready.{at}
use Rattle.live_settle.specs.Rans.{numbers_below}

-- The event in which the sync Interest of `other` is heard.
abbrev pub hearing : Meaning → Living → LiveEvent
hearing t other = event.Hear (sync_of t.group other.state.number other.state.known)

-- The member has heard the sync Interest of `other`, by one entry.
pub record HearsReport (t : Meaning) (other old new : Living) : Type 0 where
  pub reply : LiveReply
  pub entered : IsEntered t (hearing t other) old new reply

-- The member at place `j` has heard the one at place `p`. Where `p` is `j`, it hears nothing, and nothing changes.
pub record HearsOther (t : Meaning) (j p : ℕ) (old new : List Living) : Type 0 where
  pub heard : p ≢ j → HearsReport t (at old p) (at old j) (at new j)
  pub itself : p ≡ j → new ≡ old

-- The sync Interests of the first `n` members are heard, in order, but not that of the member at place `j`.
abbrev pub hearings : Meaning → ℕ → ℕ → List Living → List LiveEvent
hearings t j n ls = map (λ p. hearing t (at ls p)) (filter (λ p. not (p == j)) (numbers_below n))

-- The member at place `j` has heard the sync Interests of the first `n` members but its own, each by one entry.
pub record HearsFirst (t : Meaning) (j n : ℕ) (old new : List Living) : Type 0 where
  pub more : List LiveEntry
  pub journal : (at new j).journal ≡ (at old j).journal ++ more
  pub events : map (λ e. e.event) more ≡ hearings t j n old
