-- The rule of an inbox, over what the queue holds and what each port and the mouth know.
use Rattle.std.specs.Prelude.{ℕ, ◌≡◌, ◌≤◌, ◌<◌, true, false, Bool, List, [], ◌++◌, map}
use Rattle.std.specs.List.{All}
use mathlib.Core.Option.{some}
use lib.ListN.{get_elem?}
use Rattle.live_inbox.specs.declared.knowledge.Sent.{Sent}
use Rattle.live_inbox.specs.declared.knowledge.Returned.{Returned}
use Rattle.live_inbox.specs.declared.knowledge.Knowledge.{Knowledge}
use Rattle.live_inbox.specs.Knowledge.{values_of, StandsBefore}

-- The history of an inbox so far. No port and no mouth knows it whole.
pub record History (T : Type 0) : Type 0 where
  pub reader : ℕ  -- the number of the mouth's place
  pub count : ℕ  -- how many ports there are to be
  pub dealt : ℕ  -- how many of them were dealt out
  pub place : ℕ → ℕ  -- the number of each port's place
  pub returned : ℕ → Bool  -- whether the mouth took the port back
  pub put : ℕ → List T  -- what each port has put
  pub taken : List (Sent T)  -- what the mouth has taken

module _ {T : Type 0} where
  -- What each port has put is what was taken of it and then what the queue holds of it.
  pub record IsWhole (h : History T) (items : List (Sent T)) : Type 0 where
    pub each : (port : ℕ) → values_of port (h.taken ++ items) ≡ h.put port
    pub few : h.dealt ≤ h.count
    pub undealt : (port : ℕ) → h.dealt ≤ port → (h.put port ≡ []) × (h.returned port ≡ false)

  -- A port has one place, where it is known what was put there.
  pub record IsPort (h : History T) (place : ℕ) (v : Knowledge T) : Type 0 where
    pub there : v.port < h.dealt
    pub ports : v.ports ≡ h.count
    pub only : h.place v.port ≡ place
    pub out : h.returned v.port ≡ false
    pub put : v.put ≡ h.put v.port

  -- What a port had put that was taken back is all that it has put.
  abbrev pub IsReturned : History T → Returned T → Type 0
  IsReturned h port = (h.put port.port ≡ port.put) × (h.returned port.port ≡ true)

  -- There is one mouth. What it knows to stand in the queue stands in front.
  pub record IsMouth (h : History T) (items : List (Sent T)) (place : ℕ) (v : Knowledge T) : Type 0 where
    pub only : place ≡ h.reader
    pub ports : v.ports ≡ h.count
    pub dealt : v.dealt ≡ h.dealt
    pub taken : v.taken ≡ h.taken
    pub waiting : StandsBefore v.waiting items
    pub returned : All (IsReturned h) v.returned

  -- There is one history of what the queue holds, and of it each place knows its part.
  pub record Delivers (items : List (Sent T)) (views : List (Knowledge T)) : Type 0 where
    pub history : History T
    pub whole : IsWhole history items
    pub ports : (place : ℕ) (v : Knowledge T) → get_elem? views place ≡ some v → v.puts ≡ true → IsPort history place v
    pub mouth : (place : ℕ) (v : Knowledge T) → get_elem? views place ≡ some v → v.takes ≡ true
        → IsMouth history items place v

  -- What each port had put that was taken back is what was taken of it and then what is left of it. All this is of the
  -- ports.
  abbrev pub AllThere : ℕ → List (Sent T) → List (Returned T) → List (Sent T) → Type 0
  AllThere ports taken returned left =
      All (λ x. x.port < ports) (taken ++ left) × All (λ port. values_of port.port (taken ++ left) ≡ port.put) returned

  -- These values are what is left where the mouth has this knowledge.
  pub record Remain (v : Knowledge T) (values : List T) : Type 0 where
    pub left : List (Sent T)
    pub same : map (λ x. x.value) left ≡ values
    pub there : AllThere v.ports v.taken v.returned left
    pub first : StandsBefore v.waiting left
