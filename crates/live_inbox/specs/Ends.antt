-- How contracts see an inbox, its ports and its mouth.
use Rattle.std.specs.Prelude.{ℕ, zero, suc, ◌≡◌, ◌<◌, List, [], ◌∷◌, ◌++◌, map}
use Rattle.std.specs.List.{All}
use Rattle.atomic_table.specs.Seated.{TableId}
use Rattle.live_inbox.specs.declared.knowledge.Sent.{Sent}
use Rattle.live_inbox.specs.declared.knowledge.Returned.{Returned}
use Rattle.live_inbox.specs.declared.knowledge.Knowledge.{Knowledge}
use Rattle.live_inbox.specs.Knowledge.{mouth_knows, values_of, StandsBefore, StandsAfter}

-- What is fixed of an inbox: which it is, and how many values it holds at most.
pub record InboxView : Type 0 where
  pub inbox : TableId
  pub capacity : ℕ

-- A port: of which inbox, its number, how many ports there are, and what it has put, in order.
pub record PortView (T : Type 0) : Type 0 where
  pub inbox : TableId
  pub number : ℕ
  pub ports : ℕ
  pub put : List T

-- A mouth: of which inbox, how many ports there are, what it has taken, in order, and what stood in the inbox right
-- after its last take.
pub record MouthView (T : Type 0) : Type 0 where
  pub inbox : TableId
  pub ports : ℕ
  pub taken : List (Sent T)
  pub waiting : List (Sent T)

module _ {T : Type 0} where
  -- The port is one of the inbox.
  abbrev pub IsPortOf : InboxView → PortView T → Type 0
  IsPortOf inbox port = port.inbox ≡ inbox.inbox

  -- The mouth is that of the inbox.
  abbrev pub IsMouthOf : InboxView → MouthView T → Type 0
  IsMouthOf inbox mouth = mouth.inbox ≡ inbox.inbox

  -- A port that has put nothing.
  abbrev pub fresh_port : TableId → ℕ → ℕ → PortView T
  fresh_port inbox ports number = record { inbox = inbox; number = number; ports = ports; put = [] }

  -- The first ports of an inbox of `ports`, in order of their numbers, which begin at 0.
  abbrev pub fresh_ports : TableId → ℕ → ℕ → List (PortView T)
  fresh_ports inbox ports zero = []
  fresh_ports inbox ports (suc number) = fresh_ports inbox ports number ++ fresh_port inbox ports number ∷ []

  -- A mouth that has taken nothing.
  abbrev pub fresh_mouth : TableId → ℕ → MouthView T
  fresh_mouth inbox ports = record { inbox = inbox; ports = ports; taken = []; waiting = [] }

  -- A value, with the port that it was put into.
  abbrev pub sent : ℕ → T → Sent T
  sent port value = record { port = port; value = value }

  -- The port with one value more.
  abbrev pub puts : T → PortView T → PortView T
  puts value port = record port { put = port.put ++ value ∷ [] }

  -- What an inbox held at a time: each value is of one of its ports, and those of this port are the last that it put.
  abbrev pub HeldOf : PortView T → List (Sent T) → Type 0
  HeldOf port held = StandsAfter port.number port.ports port.put held

  -- What an inbox held at a time, beginning with what the mouth knew to stand there.
  abbrev pub HeldBefore : MouthView T → List (Sent T) → Type 0
  HeldBefore mouth held = StandsBefore mouth.waiting held

  -- The mouth has taken this value of one of the ports. It was the first that stood in the inbox.
  pub record HasTaken (old : MouthView T) (value : T) (new : MouthView T) : Type 0 where
    pub port : ℕ
    pub one : port < old.ports
    pub mouth : new ≡ record old { taken = old.taken ++ sent port value ∷ []; waiting = new.waiting }
    pub first : StandsBefore old.waiting (sent port value ∷ new.waiting)

  -- What a port had put, once it is taken back.
  abbrev pub returned : PortView T → Returned T
  returned port = record { port = port.number; put = port.put }

  -- What the mouth knows once all these ports are taken back.
  abbrev pub knows_returned : List (PortView T) → Knowledge T → Knowledge T
  knows_returned ports v = mouth_knows v.ports v.dealt v.taken v.waiting (map returned ports)

  -- These values are what is left of an inbox. For each port that came back, what was taken of it and then what is
  -- left of it is what it put, in its order, each once. Each value taken or left is of one of the ports, and what the
  -- mouth knew to stand in the inbox comes first.
  pub record AreLeft (ports : List (PortView T)) (mouth : MouthView T) (values : List T) : Type 0 where
    pub left : List (Sent T)
    pub same : map (λ x. x.value) left ≡ values
    pub each : All (λ port. values_of port.number (mouth.taken ++ left) ≡ port.put) ports
    pub own : All (λ x. x.port < mouth.ports) (mouth.taken ++ left)
    pub first : StandsBefore mouth.waiting left
