-- What a member wants, in the group's own words.
use Rattle.std.specs.Prelude.{ℕ, ◌≡◌, ◌≢◌, ◌≤◌, ◌<◌, ◌⊎◌, ◌↔◌, true, false, length, Some, None}
use Rattle.std.specs.declared.cmp.Ordering.TheVariants.{Less}
use Rattle.repo_plan.specs.declared.part.Part.{Part}
use Rattle.sorted_lists.specs.SortedList.{contains}
use Rattle.repo_plan.specs.Parts.{part_cmp, pair_of, record_of, parent}
use Rattle.repo_plan.specs.Plan.{is_wanted, is_claimed, wanted}
use Rattle.group_model.specs.Publications.{Logs, count, shape_at}
use Rattle.group_model.specs.Member.{Member, member_holds, has_deleted, plan_of}
use Rattle.group_model.specs.World.{Environment, World, member, logs}
use Rattle.group_model.specs.Steps.{to_claim}
use Rattle.group_model.specs.Sound.{IsKnown}

-- A part that its publication has besides its record, and whose digest a held part lists: the record, or for a segment
-- after index packets its index packet.
pub record IsListedByHeld (logs : Logs) (m : Member) (t : Part) : Type 0 where
  pub from_one : 1 ≤ t.part
  pub counted : t.part ≤ count logs (pair_of t)
  pub with_parent : member_holds m (parent (shape_at logs (pair_of t)) t) ≡ true

-- A part that the member wants: a record, or a part that a held part lists. It is of a known publication that isn't
-- deleted, and it isn't held.
pub record IsWantedPart (logs : Logs) (m : Member) (t : Part) : Type 0 where
  pub known : IsKnown m.known (pair_of t)
  pub part : (t.part ≡ 0) ⊎ IsListedByHeld logs m t
  pub not_held : member_holds m t ≡ false
  pub not_hidden : has_deleted m (pair_of t) ≡ false

-- The member holds the record of each publication of which it holds a part.
abbrev pub HoldsRecords : Member → Type 0
HoldsRecords m = (t : Part) → member_holds m t ≡ true → member_holds m (record_of t) ≡ true

-- Every member of the group holds the record of each publication of which it holds a part.
abbrev pub AllHoldRecords : Environment → World → Type 0
AllHoldRecords env w = (j : ℕ) → j < length w.members → HoldsRecords (member w j)

-- The wanted parts of a member's plan are those of `IsWantedPart`.
abbrev pub WantsThose : Type 0
WantsThose = (logs : Logs) (m : Member) (t : Part) → HoldsRecords m
    → (contains part_cmp (wanted (plan_of logs m)) t ≡ true) ↔ IsWantedPart logs m t

-- The plan's test says of each part whether it is one of `IsWantedPart`.
abbrev pub TestsThose : Type 0
TestsThose = (logs : Logs) (m : Member) (t : Part) → HoldsRecords m
    → (is_wanted (plan_of logs m) t ≡ true) ↔ IsWantedPart logs m t

-- The part `t` is wanted, no fetcher claims it, and every other wanted part that no fetcher claims comes later.
pub record IsFirstOpen (logs : Logs) (m : Member) (t : Part) : Type 0 where
  pub wanted : IsWantedPart logs m t
  pub unclaimed : is_claimed (plan_of logs m) t ≡ false
  pub first : (u : Part) → IsWantedPart logs m u → is_claimed (plan_of logs m) u ≡ false → u ≢ t → part_cmp t u ≡ Less

-- The part that a fetcher would claim is the first that is wanted and that no fetcher claims.
abbrev pub ClaimsFirst : Type 0
ClaimsFirst =
    (w : World) (j : ℕ) (t : Part) → HoldsRecords (member w j) → to_claim w j ≡ Some t
    → IsFirstOpen (logs w) (member w j) t

-- Every wanted part is claimed.
abbrev pub AllClaimed : Logs → Member → Type 0
AllClaimed logs m = (t : Part) → IsWantedPart logs m t → is_claimed (plan_of logs m) t ≡ true

-- A fetcher would claim nothing exactly where every wanted part is claimed.
abbrev pub ClaimsNoneWhere : Type 0
ClaimsNoneWhere = (w : World) (j : ℕ) → HoldsRecords (member w j)
    → (to_claim w j ≡ None) ↔ AllClaimed (logs w) (member w j)
