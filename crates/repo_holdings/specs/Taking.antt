-- The results of parts that were asked for, and how they are taken.
use Rattle.std.specs.Prelude.{◌≡◌, ℕ, ◌+◌, ◌-◌, ◌<◌, ◌==◌, true, false, List, [], ◌∷◌, map, length, Option, Some, None}
use Rattle.std.specs.Prelude.{◌≤◌, ◌^◌, filter, is_some, option_map, unwrap_or, count_by, sum_by, vec_capacity, IfSome}
use Rattle.std.specs.Prelude.{if◌then◌else◌}
use Rattle.std.specs.List.{All}
use Rattle.std.specs.Ordering.{eq_by_cmp}
use Rattle.repo_plan.specs.declared.part.Part.{Part}
use Rattle.repo_plan.specs.Parts.{Pair, pair_cmp, part_cmp, pair_of}
use Rattle.sorted_lists.specs.SortedList.{contains, value_of, with_value}
use Rattle.repo_plan.specs.Plan.{PlanState, holds, hides, may_be_asked_for, is_claimed, attempts_of}
use Rattle.repo_object.specs.declared.job.Job.{Job}
use Rattle.repo_object.specs.Verdict.{CheckedPart}
use Rattle.repo_store.specs.StoreList.{with_packet}
use Rattle.repo_catalog.specs.declared.entry.Entry.{Entry}
use Rattle.repo_catalog.specs.Entries.{with_entries, without_all, AreApart, IsCatalogue}
use Rattle.repo_holdings.specs.Records.{Packet}
use Rattle.repo_holdings.specs.Listed.{is_withdrawn, member_catalogue}
use Rattle.repo_holdings.specs.Gaining.{KeepsOthers, IsArrival}
use Rattle.repo_holdings.specs.HoldingsState.{HoldingsState}
use Rattle.repo_holdings.specs.declared.changes.Change.{Change}
use Rattle.repo_holdings.specs.declared.holdings.pending.Pending.{Pending}
use Rattle.repo_holdings.specs.declared.holdings.stock.Stock.{Stock}
use Rattle.repo_holdings.specs.declared.holdings.taking.Taken.{Taken}
use Rattle.repo_holdings.specs.declared.holdings.taking.Tried.{Tried}
use Rattle.repo_holdings.specs.Changing.{changed, fresh_with, gone_with}
use Rattle.repo_holdings.specs.Stock.{IsSound, HasRoom}

-- the result of a part that was asked for: its packet, if one was received, and how often it was tried
pub record Fetched : Type 0 where
  pub part : Part
  pub packet : Option (List ℕ)
  pub attempts : ℕ

-- the packets `stored`, and the packet of the part `t`, if one was received
abbrev pub with_fetched : Part → Option (List ℕ) → List Packet → List Packet
with_fetched t None stored = stored
with_fetched t (Some octets) stored = with_packet t octets stored

-- the attempts, with `n` more for the part `t`
abbrev pub with_tries : Part → ℕ → List (Part × ℕ) → List (Part × ℕ)
with_tries t n attempts =
    if n == 0 then attempts
    else with_value part_cmp t (unwrap_or (value_of part_cmp attempts t) 0 + n) attempts

-- no part stands twice in the list
abbrev pub PartsDiffer : List Part → Type 0
PartsDiffer [] = Unit {0}
PartsDiffer (t ∷ ts) = (contains part_cmp ts t ≡ false) × PartsDiffer ts

-- the result of a tried part
abbrev pub came : Tried → Fetched
came x = record { part = x.part; packet = option_map (λ a. a.packet) x.arrival; attempts = x.attempts }

-- how many octets were received for a tried part: those of its packet, if there is one
abbrev pub arrival_octets : Tried → ℕ
arrival_octets x = length (unwrap_or (came x).packet [])

-- the result of a tried part can be taken: the part is wanted and unclaimed, the packet is of it, and it was not tried
-- too often
pub record CanBeTaken (plan : PlanState) (packets : List Packet) (x : Tried) : Type 0 where
  pub asked : may_be_asked_for plan x.part ≡ true
  pub not_held : holds plan x.part ≡ false
  pub not_hidden : hides plan (pair_of x.part) ≡ false
  pub not_claimed : is_claimed plan x.part ≡ false
  pub arrived : IfSome x.arrival (λ a. IsArrival packets x.part a.packet a.summary)
  pub few : attempts_of plan x.part + x.attempts < 2097152

-- the results of tried parts can be taken, and the parts are different
pub record AreTakable (plan : PlanState) (packets : List Packet) (xs : List Tried) : Type 0 where
  pub each : All (CanBeTaken plan packets) xs
  pub apart : PartsDiffer (map (λ (x : Tried). x.part) xs)

-- the packets `stored`, and all that were received
abbrev pub with_all_fetched : List Fetched → List Packet → List Packet
with_all_fetched [] stored = stored
with_all_fetched (x ∷ xs) stored = with_all_fetched xs (with_fetched x.part x.packet stored)

-- the parts of jobs, with the checked packets that were received for them
abbrev pub fetched_for : List Job → List (Option CheckedPart) → List Fetched
fetched_for (job ∷ jobs) (part ∷ parts) =
    record { part = job.want.part; packet = option_map (λ c. c.octets) part; attempts = 0 } ∷ fetched_for jobs parts
fetched_for _ _ = []

-- the packets `stored`, and all that were received for jobs
abbrev pub with_fetched_for : List Job → List (Option CheckedPart) → List Packet → List Packet
with_fetched_for jobs parts stored = with_all_fetched (fetched_for jobs parts) stored

-- the attempts, with those of all results
abbrev pub with_all_tries : List Fetched → List (Part × ℕ) → List (Part × ℕ)
with_all_tries [] attempts = attempts
with_all_tries (x ∷ xs) attempts = with_all_tries xs (with_tries x.part x.attempts attempts)

-- the results `xs` are taken, within the capacity: packets are stored, and attempts are counted
abbrev pub after_outcome : List Fetched → HoldingsState → HoldingsState
after_outcome xs h = record h {
  store = with_all_fetched xs h.store;
  attempts = with_all_tries xs h.attempts;
  spare = h.spare - length xs;
}

-- what a plan knows, its claims and its hidden publications are unchanged
abbrev pub KeepsButTries : PlanState → PlanState → Type 0
KeepsButTries old new = KeepsOthers old (record new { attempts = old.attempts })

-- ---- entries that wait

-- no publication stands twice in the list
abbrev pub AreApartPairs : List Pair → Type 0
AreApartPairs pairs = (pair : Pair) → length (filter (eq_by_cmp pair_cmp pair) pairs) ≤ 1

-- `entries` with the entries `fresh`, which wait to be listed, and without those of the publications `gone`, which wait
-- to be removed, are the entries of the objects that are stored whole and not withdrawn
pub record AreListedWith (fresh : List Entry) (gone : List Pair) (entries : List Entry) (packets : List Packet)
    : Type 0 where
  pub listed : without_all gone (with_entries fresh entries) ≡ member_catalogue packets
  pub withdrawn : (pair : Pair) → contains pair_cmp gone pair ≡ true → is_withdrawn packets pair ≡ true
  pub apart : AreApart fresh
  pub apart_gone : AreApartPairs gone
  pub in_order : IsCatalogue entries

-- `change` brings the catalogue of `packets` to that of `after`: it may be made at once, or wait
pub record IsChange (change : Change) (packets after : List Packet) : Type 0 where
  pub listed : member_catalogue after ≡ changed change (member_catalogue packets)
  pub waits : (fresh entries : List Entry) (gone : List Pair) → AreListedWith fresh gone entries packets
      → AreListedWith (fresh_with fresh change) (gone_with gone change) entries after

-- ---- one after another

-- the stock is sound, and there is room for `n` parts, each of which may be held and tried, and for `n` changes that
-- wait
pub record AreReady (n : ℕ) (s : Stock) (p : Pending) : Type 0 where
  pub sound : IsSound s
  pub room : HasRoom (n + n) n s
  pub fresh_room : length p.fresh.items + n ≤ vec_capacity p.fresh
  pub gone_room : length p.gone.items + n ≤ vec_capacity p.gone

-- the number of tried parts fits a `u32`, and the number of octets received for them a `u64`
pub record AreFew (xs : List Tried) : Type 0 where
  pub parts : length xs < 2 ^ 32
  pub octets : sum_by arrival_octets xs < 2 ^ 64

-- the packets received for the tried parts `xs` are stored, their attempts are counted, and at most the room for them
-- was used
pub record HasTaken (xs : List Tried) (old new : Stock) : Type 0 where
  pub packets : new.store.packets ≡ with_all_fetched (map came xs) old.store.packets
  pub attempts : new.plan.attempts ≡ with_all_tries (map came xs) old.plan.attempts
  pub others : KeepsButTries old.plan new.plan
  pub plan_room : old.plan.spare ≤ new.plan.spare + (length xs + length xs)
  pub store_room : old.store.spare ≤ new.store.spare + length xs
  pub notes_room : old.notes.spare ≤ new.notes.spare + length xs

-- at most `n` more changes wait than before. If the changes in `old` bring a catalogue to `packets`, those in `new`
-- bring it to `after`.
pub record HaveWaited (n : ℕ) (old new : Pending) (packets after : List Packet) : Type 0 where
  pub few_fresh : length new.fresh.items ≤ length old.fresh.items + n
  pub few_gone : length new.gone.items ≤ length old.gone.items + n
  pub fresh_room : vec_capacity old.fresh ≤ vec_capacity new.fresh
  pub gone_room : vec_capacity old.gone ≤ vec_capacity new.gone
  pub listed : (entries : List Entry) → AreListedWith old.fresh.items old.gone.items entries packets
      → AreListedWith new.fresh.items new.gone.items entries after

-- `r` has the number of tried parts whose packets were received, and the number of octets of these packets
pub record AreCounted (xs : List Tried) (r : Taken) : Type 0 where
  pub parts : r.parts ≡ count_by (λ x. is_some x.arrival) xs
  pub octets : r.octets ≡ sum_by arrival_octets xs
