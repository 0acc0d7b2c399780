use Rattle.std.proofs.Common.{◌≡◌, ◌-◌, List, length, slice_get, refl, sym, ap, ◌∙◌, arith}
use Rattle.std.specs.Cmp.{unsigned_Decides}
use Rattle.std.proofs.lemmas.Slice.Eq.{slice_eq-Decides}
use Rattle.ndn_name.specs.Names.{Component, component}
use Rattle.ndn_packet.proofs.Ends.{slice_get-push}
use Rattle.ndn_data.proofs.FullNames.{one_more, same_value, pair_is}
use Rattle.ndn_data.proofs.full_name.is_full_name.Goals as goal

pub returns : goal.returns
returns c =
    let name = c.args.name.now in
    let of = c.args.of.now in
    let digest = c.args.digest.now in
    let last = component c.component-last.result in
    let at = ap (slice_get name) (sym c.len-3.ensures) ∙ c.component-last.ensures in
    let typ : last.0 ≡ 1 = omega arith in
    let one : length name - length of ≡ 1 = omega arith in
    let prefix = c.is_prefix_of.ensures.0 c.if-not-is_prefix_of.false in
    let same = slice_eq-Decides unsigned_Decides last.1 c.as_slice.result.now c.eq.result c.eq.ensures in (
      λ yes. one_more name of (1, digest) prefix one
          (at ∙ pair_is last.0 last.1 digest last typ (same.0 yes ∙ c.as_slice.ensures) refl),
      λ full. same.1
          (same_value last.0 last.1 (1, digest)
          (sym at ∙ ap (λ (n : List Component). slice_get n (length of)) full ∙ slice_get-push of (1, digest))
          ∙ sym c.as_slice.ensures),
    )
