-- How contracts see a line to a member's inbox, and a member's own inbox.
use Rattle.std.specs.Prelude.{ℕ, ◌≡◌, ◌⊎◌, List, length}
use Rattle.std.specs.List.{All}
use Rattle.crossbeam_queue.specs.Fifo.{Held}
use Rattle.live_inbox.specs.Ends.{InboxView, PortView, MouthView, puts, HeldOf}

-- An inbox, with a port of it. Sync Interests are seen as their octets.
pub record SenderView : Type 0 where
  pub inbox : InboxView
  pub port : PortView (List ℕ)

-- An inbox, with its mouth.
pub record ReceiverView : Type 0 where
  pub inbox : InboxView
  pub mouth : MouthView (List ℕ)

-- An inbox, with its ports that nobody has yet.
pub record OpenedView : Type 0 where
  pub inbox : InboxView
  pub ports : List (PortView (List ℕ))

-- The octets were put into the inbox, after all others; or it was full at some time during the call, and nothing
-- changed.
abbrev pub Tells : List ℕ → SenderView → SenderView → Type 0
Tells octets old new =
    (new ≡ record old { port = puts octets old.port }) ⊎ ((new ≡ old) × Held old.inbox.capacity (HeldOf old.port))

-- Each of these inboxes has `n` ports that nobody has yet.
abbrev pub HavePorts : ℕ → List OpenedView → Type 0
HavePorts n inboxes = All (λ (o : OpenedView). length o.ports ≡ n) inboxes

-- The most sync Interests that an inbox holds.
abbrev pub inbox_capacity : ℕ
inbox_capacity = 8

-- Each of these inboxes holds at most `n` sync Interests.
abbrev pub HaveCapacity : ℕ → List InboxView → Type 0
HaveCapacity n inboxes = All (λ (i : InboxView). i.capacity ≡ n) inboxes
