-- The canonical order of names, and prefixes (NDN Packet Format 0.3, "Canonical Order").
use Rattle.std.specs.Prelude.{◌≡◌, List, length, take}
use Rattle.std.specs.declared.cmp.Ordering.{Ordering}
use Rattle.std.specs.Ordering.{nat_cmp, on, then_cmp}
use Rattle.std.specs.Cmp.{IsTotalOrder, nat_cmp_total, on_total, then_total}
use Rattle.std.specs.Cmp.Lexicographic.{slice_cmp, lists_total, nat_list_cmp_total}
use Rattle.ndn_name.specs.Names.{Component}

-- By type, then by length, then by octets.
abbrev pub component_cmp : Component → Component → Ordering
component_cmp =
    then_cmp (on (λ c. c.0) nat_cmp)
    (then_cmp (on (λ c. length c.1) nat_cmp) (on (λ c. c.1) (slice_cmp nat_cmp)))

-- Component by component. A name that another goes on from comes before it.
abbrev pub canonical_cmp : List Component → List Component → Ordering
canonical_cmp = slice_cmp component_cmp

-- Their laws, which `Ord` asks for.
pub component_cmp_total : IsTotalOrder component_cmp
component_cmp_total =
    then_total (on_total (λ (c : Component). c.0) nat_cmp_total)
    (then_total (on_total (λ (c : Component). length c.1) nat_cmp_total)
    (on_total (λ (c : Component). c.1) nat_list_cmp_total))

-- The canonical order of names is a total order.
pub canonical_cmp_total : IsTotalOrder canonical_cmp
canonical_cmp_total = lists_total component_cmp_total

-- The second name begins with the components of the first.
abbrev pub IsPrefix : List Component → List Component → Type 0
IsPrefix a b = take (length a) b ≡ a
