use Rattle.std.proofs.Common.{◌≡◌, ◌∙◌, ap, length, take, List}
use Rattle.std.specs.Ordering.{eq_by_cmp, is_eq}
use Rattle.std.proofs.lemmas.Cmp.{tied_itself}
use Rattle.ndn_name.specs.Names.{Component}
use Rattle.ndn_name.specs.CanonicalOrder.{canonical_cmp, canonical_cmp_total, IsPrefix}
use Rattle.ndn_name.proofs.Prefixes.{canonical_cmp-equal}
use Rattle.sorted_lists.proofs.Orders.{equal_from_is_eq}
use Rattle.sorted_lists.proofs.RunOrder.{both_ways}
use Rattle.repo_watch.specs.Patterns.{begins_with}
use Rattle.script_lines.proofs.accepting.begins_with.Goals as goal

pub returns : goal.returns
returns c =
    let prefix : List Component = c.args.prefix.now in
    let name : List Component = c.args.name.now in
    both_ways c.is_prefix_of.result (begins_with prefix name)
    (λ h.
    let leading : take (length prefix) name ≡ prefix =
    rw (← c.view.ensures, ← c.view-2.ensures) (c.is_prefix_of.ensures.0 h) in
    ap (λ (x : List Component). eq_by_cmp canonical_cmp x prefix) leading
    ∙ ap is_eq (tied_itself canonical_cmp_total prefix))
    (λ h.
    let leading : IsPrefix prefix name =
    canonical_cmp-equal (take (length prefix) name) prefix
    (equal_from_is_eq (canonical_cmp (take (length prefix) name) prefix) h) in
    c.is_prefix_of.ensures.1 (rw (c.view.ensures, c.view-2.ensures) leading))
