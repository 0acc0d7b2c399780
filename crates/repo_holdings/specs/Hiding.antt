-- Publications that are hidden for good.
use Rattle.std.specs.Prelude.{◌≡◌, ℕ, ◌+◌, false, List, [], ◌∷◌}
use Rattle.std.specs.List.{All}
use Rattle.repo_plan.specs.Parts.{Pair, pair_cmp}
use Rattle.sorted_lists.specs.SortedList.{Rises, insert_key}
use Rattle.repo_plan.specs.Plan.{PlanState, claims_part_in, after_hide, uses_room}
use Rattle.repo_store.specs.StoreList.{packets_outside}
use Rattle.repo_holdings.specs.declared.holdings.stock.Stock.{Stock}
use Rattle.repo_holdings.specs.Records.{Packet}
use Rattle.repo_holdings.specs.Listed.{is_withdrawal}
use Rattle.repo_holdings.specs.HoldingsState.{HoldingsState}

-- the packets without those of the listed publications
abbrev pub outside_all : List Pair → List Packet → List Packet
outside_all [] packets = packets
outside_all (pair ∷ pairs) packets = outside_all pairs (packets_outside pair packets)

-- the hidden publications, with the listed ones too
abbrev pub with_hidden : List Pair → List Pair → List Pair
with_hidden [] hidden = hidden
with_hidden (pair ∷ pairs) hidden = with_hidden pairs (insert_key pair_cmp pair hidden)

-- the plan after the listed publications were hidden one after another
abbrev pub plan_hides : List Pair → PlanState → PlanState
plan_hides [] plan = plan
plan_hides (pair ∷ pairs) plan = plan_hides pairs (uses_room (after_hide pair plan))

-- the publications `pairs` are hidden too, and what the plan knows, its claims and its attempts are unchanged
pub record IsHiding (pairs : List Pair) (old new : PlanState) : Type 0 where
  pub known : new.known ≡ old.known
  pub claims : new.claims ≡ old.claims
  pub hidden : new.hidden ≡ with_hidden pairs old.hidden
  pub attempts : new.attempts ≡ old.attempts

-- publications that can be hidden: none of their parts is claimed, they are in order, and none is a withdrawal
pub record CanBeHidden (pairs : List Pair) (s : Stock) : Type 0 where
  pub unclaimed : All (λ pair. claims_part_in s.plan pair ≡ false) pairs
  pub in_order : Rises pair_cmp pairs
  pub objects : All (λ pair. is_withdrawal s.store.packets pair ≡ false) pairs

-- the plan used the room for `n` changes, and the room of the store and of the notes is unchanged
pub record LeavesRoom (n : ℕ) (old new : Stock) : Type 0 where
  pub of_plan : new.plan.spare + n ≡ old.plan.spare
  pub of_store : new.store.spare ≡ old.store.spare
  pub of_notes : new.notes.spare ≡ old.notes.spare

-- the publications `pairs` are hidden, and none of their packets is stored
abbrev pub hides_all : List Pair → HoldingsState → HoldingsState
hides_all pairs h = record h { store = outside_all pairs h.store; hidden = with_hidden pairs h.hidden }
