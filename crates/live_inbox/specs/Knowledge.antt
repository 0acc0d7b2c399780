-- What the ports of an inbox and its mouth know, and what they learn from each step.
use Rattle.std.specs.Prelude.{ℕ, ◌<◌, ◌≡◌, ◌==◌, true, false, List, [], ◌∷◌, ◌++◌, map}
use Rattle.std.specs.List.{All, filter}
use Rattle.live_inbox.specs.declared.knowledge.Sent.{Sent}
use Rattle.live_inbox.specs.declared.knowledge.Returned.{Returned}
use Rattle.live_inbox.specs.declared.knowledge.Knowledge.{Knowledge}

module _ {T : Type 0} where
  -- The values of one port, in order.
  abbrev pub values_of : ℕ → List (Sent T) → List T
  values_of port sent = map (λ x. x.value) (filter (λ x. x.port == port) sent)

  -- A port knows its number, how many ports there are, and what it has put.
  abbrev pub port_knows : ℕ → ℕ → List T → Knowledge T
  port_knows number ports put = record {
    puts = true;
    takes = false;
    port = number;
    ports = ports;
    put = put;
    dealt = 0;
    taken = [];
    waiting = [];
    returned = [];
  }

  -- The mouth knows how many ports there are and how many were dealt out, what it has taken, what stood in the queue
  -- at its last take, and what the ports had put that it took back.
  abbrev pub mouth_knows : ℕ → ℕ → List (Sent T) → List (Sent T) → List (Returned T) → Knowledge T
  mouth_knows ports dealt taken waiting returned = record {
    puts = false;
    takes = true;
    port = 0;
    ports = ports;
    put = [];
    dealt = dealt;
    taken = taken;
    waiting = waiting;
    returned = returned;
  }

  -- A port that was taken back knows nothing.
  abbrev pub knows_nothing : Knowledge T
  knows_nothing = record {
    puts = false;
    takes = false;
    port = 0;
    ports = 0;
    put = [];
    dealt = 0;
    taken = [];
    waiting = [];
    returned = [];
  }

  -- It is the mouth's, and no port was taken back.
  abbrev pub IsOpen : Knowledge T → Type 0
  IsOpen v = v ≡ mouth_knows v.ports v.dealt v.taken v.waiting []

  -- It is the mouth's, and these ports were taken back.
  abbrev pub IsClosing : List (Returned T) → Knowledge T → Type 0
  IsClosing returned v = v ≡ mouth_knows v.ports v.dealt v.taken v.waiting returned

  -- It is the mouth's, before it takes, and `dealt` of the ports were dealt out.
  pub record IsDealing (ports dealt : ℕ) (v : Knowledge T) : Type 0 where
    pub mouth : v ≡ mouth_knows v.ports dealt [] [] []
    pub ports_known : 0 < dealt → v.ports ≡ ports

  -- The port has put one value more.
  abbrev pub has_put : T → Knowledge T → Knowledge T
  has_put value v = port_knows v.port v.ports (v.put ++ value ∷ [])

  -- The mouth has taken a port back, with what the port knew.
  abbrev pub took_back : Knowledge T → Knowledge T → Knowledge T
  took_back port v = mouth_knows v.ports v.dealt v.taken v.waiting
      (v.returned ++ record { port = port.port; put = port.put } ∷ [])

  -- What was known to stand in the queue stands in front.
  abbrev pub StandsBefore : List (Sent T) → List (Sent T) → Type 0
  StandsBefore waiting items = (more : List (Sent T)) × (waiting ++ more ≡ items)

  -- The mouth has taken the first value in the queue, and knows what stands there now.
  pub record TakesFirst (v : Knowledge T) (x : Sent T) (w : Knowledge T) : Type 0 where
    pub knows : w ≡ mouth_knows v.ports v.dealt (v.taken ++ x ∷ []) w.waiting v.returned
    pub port : x.port < v.ports
    pub first : StandsBefore v.waiting (x ∷ w.waiting)

  -- Each value in the queue is of one of the ports, and those of this port are the last that it put.
  abbrev pub StandsAfter : ℕ → ℕ → List T → List (Sent T) → Type 0
  StandsAfter number ports put items = All (λ x. x.port < ports) items
      × ((before : List T) × (put ≡ before ++ values_of number items))
