-- The totals of a member's catalogue.
use Rattle.std.specs.Prelude.{◌<◌, ◌^◌}
use Rattle.group_model.specs.Replies.{CatalogueTotals}
use Rattle.group_model.specs.Steps.{catalogue_totals}
use Rattle.repo_member.specs.Listed.{member_catalogue}
use Rattle.repo_member.specs.MemberState.{MemberState}

-- How many entries a member's catalogue has, and how many segments and octets these have together.
abbrev pub totals_in : MemberState → CatalogueTotals
totals_in a = catalogue_totals (member_catalogue a.store)

-- The entries fit in 32 bits, and the segments and octets in 64.
pub record HasFewTotals (t : CatalogueTotals) : Type 0 where
  pub entries : t.entries < 2 ^ 32
  pub segments : t.segments < 2 ^ 64
  pub octets : t.octets < 2 ^ 64
