use Rattle.std.proofs.Common.{ℕ, List, ap, ◌∙◌}
use Rattle.std.specs.Ordering.{nat_cmp, is_eq}
use Rattle.std.specs.Cmp.Lexicographic.{slice_cmp, texts_ties}
use Rattle.ndn_name.proofs.OrderLemmas.{encodings-cmp}
use Rattle.ndn_name.proofs.order.NamePartialEq.eq.Goals as goal

pub returns : goal.returns
returns c =
    let own = c.octets.result.now in
    let other = c.octets-2.result.now in
    c.eq.ensures
    ∙ texts_ties own other
    ∙ ap is_eq (ap (λ (x : List ℕ). slice_cmp nat_cmp x other) c.octets.ensures.spelled
    ∙ ap (slice_cmp nat_cmp _) c.octets-2.ensures.spelled
    ∙ encodings-cmp c.args.self.now c.args.other.now c.octets.ensures.name c.octets-2.ensures.name)
