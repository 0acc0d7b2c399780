-- What a mirror keeps of what was fetched, and what it passes over.
use Rattle.std.specs.Prelude.{◌≡◌, ℕ, Bool, true, false, not, List, [], map, filter, Option, Some, None, unwrap_or}
use Rattle.std.specs.Prelude.{option_map}
use Rattle.std.specs.List.{All}
use Rattle.sorted_lists.specs.SortedList.{contains, insert_keys}
use Rattle.repo_plan.specs.declared.part.Part.{Part}
use Rattle.repo_plan.specs.Parts.{Pair, pair_cmp, pair_of}
use Rattle.repo_plan.specs.Plan.{PlanState, holds, may_be_asked_for}
use Rattle.repo_holdings.specs.declared.record_summary.RecordSummary.{RecordSummary}
use Rattle.repo_holdings.specs.declared.record_summary.RecordSummary.TheVariants.{Object, Withdrawal}
use Rattle.repo_holdings.specs.declared.holdings.taking.Tried.{Tried}
use Rattle.repo_holdings.specs.Gaining.{summary_in}
use Rattle.repo_holdings.specs.Hiding.{with_hidden}
use Rattle.repo_holdings.specs.Taking.{Fetched, with_all_fetched, with_all_tries}
use Rattle.repo_watch.specs.declared.pattern.Pattern.{Pattern}
use Rattle.repo_watch.specs.Patterns.{accepts}
use Rattle.repo_mirror.specs.MirrorState.{MirrorState}

-- A packet of the publisher `p` is kept, unless it is the record of an object that the pattern doesn't accept.
abbrev pub is_summary_for : Pattern → ℕ → Option RecordSummary → Bool
is_summary_for pattern p None = true
is_summary_for pattern p (Some (Object shape name)) = accepts pattern p name
is_summary_for pattern p (Some (Withdrawal seq)) = true

-- A packet that was received for the part `t` is kept, unless it is the record of an object that the pattern doesn't
-- accept.
abbrev pub is_packet_for : Pattern → Part → List ℕ → Bool
is_packet_for pattern t octets = is_summary_for pattern t.publisher (summary_in t octets)

-- The result for a part is kept, unless it is the record of an object that the pattern doesn't accept.
abbrev pub is_fetch_for : Pattern → Fetched → Bool
is_fetch_for pattern x = unwrap_or (option_map (is_packet_for pattern x.part) x.packet) true

-- The results of a fetch that are kept.
abbrev pub fetches_for : Pattern → List Fetched → List Fetched
fetches_for pattern xs = filter (is_fetch_for pattern) xs

-- The publications whose records were received and aren't kept.
abbrev pub not_kept : Pattern → List Fetched → List Pair
not_kept pattern xs = map (λ x. pair_of x.part) (filter (λ x. not (is_fetch_for pattern x)) xs)

-- The publications whose records were received and aren't kept, in order, each once.
abbrev pub passed_over : Pattern → List Fetched → List Pair
passed_over pattern xs = insert_keys pair_cmp (not_kept pattern xs) []

-- The mirror after a fetch: it passed over the publications whose records aren't kept, stores the packets that are
-- kept, and counts the attempts of the kept results.
abbrev pub mirror_takes : List Fetched → MirrorState → MirrorState
mirror_takes xs m = record m {
  store = with_all_fetched (fetches_for m.pattern xs) m.store;
  passed = with_hidden (passed_over m.pattern xs) m.passed;
  attempts = with_all_tries (fetches_for m.pattern xs) m.attempts;
}

-- No part of the publication is held, and none but its record could be asked for.
pub record IsUnknownIn (plan : PlanState) (pair : Pair) : Type 0 where
  pub none_held : (t : Part) → pair_of t ≡ pair → holds plan t ≡ false
  pub record_alone : (t : Part) → pair_of t ≡ pair → may_be_asked_for plan t ≡ true → t.part ≡ 0

-- The plan holds no part of a publication that is passed over, and no result that is kept is for a part of one.
pub record ArePassedOver (plan : PlanState) (kept : List Tried) (passed : List Pair) : Type 0 where
  pub unknown : (pair : Pair) → contains pair_cmp passed pair ≡ true → IsUnknownIn plan pair
  pub others : All (λ x. contains pair_cmp passed (pair_of x.part) ≡ false) kept
