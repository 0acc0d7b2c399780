-- The value of `Holdings`, as contracts see it.
use Rattle.std.specs.Prelude.{ℕ, ◌-◌, max, List, [], Option, replicate, slice_index, slice_set}
use Rattle.repo_plan.specs.declared.part.Part.{Part}
use Rattle.repo_plan.specs.Parts.{Pair, part_cmp}
use Rattle.sorted_lists.specs.SortedList.{Rises, keys}
use Rattle.repo_plan.specs.Plan.{PlanState, no_claims}
use Rattle.repo_holdings.specs.Records.{Packet}
use Rattle.repo_holdings.specs.Listed.{shapes_in}

-- what is known, held, hidden and claimed of publications
pub record HoldingsState : Type 0 where
  pub known : List ℕ  -- by publisher, the last number that is known
  pub store : List Packet  -- the packet of each part that is held, in order of the parts
  pub hidden : List Pair  -- in order
  pub claims : List (Option Part)  -- by fetcher; the first stands at place 0
  pub attempts : List (Part × ℕ)  -- in order, without 0
  pub spare : ℕ  -- for how many more parts there is capacity

-- empty holdings for `publishers` publishers
abbrev pub nothing_held : ℕ → HoldingsState
nothing_held publishers = record {
  known = replicate publishers 0;
  store = [];
  hidden = [];
  claims = no_claims;
  attempts = [];
  spare = 0;
}

-- the fetch plan: what is stored is held, and the stored records say which parts there are
abbrev pub held_plan : HoldingsState → PlanState
held_plan h = record {
  known = h.known;
  held = keys h.store;
  shapes = shapes_in h.store;
  claims = h.claims;
  hidden = h.hidden;
  attempts = h.attempts;
  spare = 0;
}

-- the parts whose packets are stored are in order, each once
abbrev pub AreInOrder : HoldingsState → Type 0
AreInOrder h = Rises part_cmp (keys h.store)

-- ---- changes

-- the last number that is known of `publisher` becomes `seq`, unless it is greater already
abbrev pub with_known_up_to : ℕ → ℕ → HoldingsState → HoldingsState
with_known_up_to publisher seq h =
    record h { known = slice_set h.known publisher (max (slice_index h.known publisher) seq) }

-- the claim of the fetcher `f` becomes `claim`: a part, or nothing
abbrev pub claims_too : ℕ → Option Part → HoldingsState → HoldingsState
claims_too f claim h = record h { claims = slice_set h.claims (f - 1) claim }
