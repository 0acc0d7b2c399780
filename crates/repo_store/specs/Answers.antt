-- Which of the stored packets answers an Interest.
use Rattle.std.specs.Prelude.{◌≡◌, ◌≢◌, ℕ, true, false, List, Option, Some, None}
use Rattle.std.specs.declared.cmp.Ordering.TheVariants.{Less}
use Rattle.ndn_interest.specs.Interest.{Interest}
use Rattle.repo_plan.specs.declared.part.Part.{Part}
use Rattle.sorted_lists.specs.SortedList.{value_of}
use Rattle.repo_plan.specs.Parts.{part_cmp}
use Rattle.repo_store.specs.Served.{satisfies}

-- There is a packet of the part that satisfies the Interest, and none of a lesser part does.
pub record IsLeast (i : Interest) (packets : List (Part × List ℕ)) (part : Part) : Type 0 where
  pub octets : List ℕ
  pub stored : value_of part_cmp packets part ≡ Some octets
  pub satisfied : satisfies i.name i.can_be_prefix octets ≡ true
  pub least : (t : Part) (others : List ℕ) → value_of part_cmp packets t ≡ Some others
      → satisfies i.name i.can_be_prefix others ≡ true → part_cmp t part ≢ Less

-- No packet satisfies the Interest.
abbrev pub NoneSatisfies : Interest → List (Part × List ℕ) → Type 0
NoneSatisfies i packets =
    (t : Part) (octets : List ℕ) → value_of part_cmp packets t ≡ Some octets
    → satisfies i.name i.can_be_prefix octets ≡ false

-- `Some` is the least part whose packet satisfies the Interest, which allows packets that aren't fresh. `None` is the
-- answer where no packet satisfies the Interest, or where the packet must be fresh.
abbrev pub AnswersWith : Interest → List (Part × List ℕ) → Option Part → Type 0
AnswersWith i packets None = i.must_be_fresh ≡ false → NoneSatisfies i packets
AnswersWith i packets (Some part) = (i.must_be_fresh ≡ false) × IsLeast i packets part
