-- The label at a member's number is in the list.
use Rattle.std.proofs.Common.{zero, suc, ◌<◌, [], ◌∷◌, length, refl, arith}
use Rattle.script_report.specs.Labels.{MembersHaveLabels}

pub members_have_labels : MembersHaveLabels
members_have_labels [] m there = absurd (omega arith)
members_have_labels (label ∷ labels) zero there = refl
members_have_labels (label ∷ labels) (suc m) there = members_have_labels labels m (omega arith)
