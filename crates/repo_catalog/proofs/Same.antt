-- Entries are compared field by field.
use Rattle.std.proofs.Common.{◌≡◌, ◌&&◌, ◌==◌, Bool, true, refl, ap, sym, ◌∙◌}
use Rattle.std.specs.Bool.{Decides}
use Rattle.std.specs.Ordering.{eq_by_cmp, is_eq}
use Rattle.std.proofs.lemmas.Bool.{and_parts, and_from, eqb-true, eq-eqb}
use Rattle.std.proofs.lemmas.Cmp.{tied_itself}
use Rattle.std.proofs.lemmas.Slice.Eq.{bytes_eq-Decides}
use Rattle.std.specs.Str.{bytes_eq}
use Rattle.ndn_name.specs.CanonicalOrder.{canonical_cmp, canonical_cmp_total}
use Rattle.ndn_name.proofs.Prefixes.{canonical_cmp-equal}
use Rattle.sorted_lists.proofs.Orders.{equal_from_is_eq}
use Rattle.repo_catalog.specs.declared.entry.Entry.{Entry}

-- the comparison that the program makes
abbrev pub entry_eq : Entry → Entry → Bool
entry_eq a b =
    (a.publisher == b.publisher)
    && ((a.seq == b.seq)
    && (eq_by_cmp canonical_cmp a.name b.name
    && ((a.segments == b.segments) && ((a.octets == b.octets) && bytes_eq a.digest b.digest))))

same_entries : (a b : Entry) → entry_eq a b ≡ true → a ≡ b
same_entries a b h =
    let p = and_parts (a.publisher == b.publisher) _ h in
    let s = and_parts (a.seq == b.seq) _ p.1 in
    let n = and_parts (eq_by_cmp canonical_cmp a.name b.name) _ s.1 in
    let g = and_parts (a.segments == b.segments) _ n.1 in
    let o = and_parts (a.octets == b.octets) _ g.1 in
    let publisher : a.publisher ≡ b.publisher = eqb-true a.publisher b.publisher p.0 in
    let seq : a.seq ≡ b.seq = eqb-true a.seq b.seq s.0 in
    let name : a.name ≡ b.name =
    canonical_cmp-equal a.name b.name (equal_from_is_eq (canonical_cmp a.name b.name) n.0) in
    let segments : a.segments ≡ b.segments = eqb-true a.segments b.segments g.0 in
    let octets : a.octets ≡ b.octets = eqb-true a.octets b.octets o.0 in
    let digest : a.digest ≡ b.digest = (bytes_eq-Decides a.digest b.digest).0 o.1 in
    λ i. record {
      publisher = publisher i;
      seq = seq i;
      name = name i;
      segments = segments i;
      octets = octets i;
      digest = digest i;
    }

itself : (a : Entry) → entry_eq a a ≡ true
itself a =
    and_from (a.publisher == a.publisher) _ (eq-eqb a.publisher a.publisher refl)
    (and_from (a.seq == a.seq) _ (eq-eqb a.seq a.seq refl)
    (and_from (eq_by_cmp canonical_cmp a.name a.name) _ (ap is_eq (tied_itself canonical_cmp_total a.name))
    (and_from (a.segments == a.segments) _ (eq-eqb a.segments a.segments refl)
    (and_from (a.octets == a.octets) _ (eq-eqb a.octets a.octets refl) ((bytes_eq-Decides a.digest a.digest).1 refl)))))

pub entry_eq-Decides : (a b : Entry) → Decides (entry_eq a b) (a ≡ b)
entry_eq-Decides a b = (same_entries a b, λ e. ap (entry_eq a) (sym e) ∙ itself a)
