use Rattle.std.proofs.Common.{sym, ap, ◌∙◌}
use Rattle.std.specs.Cmp.{unsigned_Decides}
use Rattle.std.proofs.lemmas.Slice.Eq.{slice_eq-Decides}
use Rattle.ndn_name.specs.Names.{encoding}
use Rattle.ndn_name.proofs.Encodings.{encoding-same}
use Rattle.ndn_data.proofs.full_name.is_same_name.Goals as goal

pub returns : goal.returns
returns c =
    let same = slice_eq-Decides unsigned_Decides c.octets.result.now c.octets-2.result.now c.eq.result c.eq.ensures in (
      λ yes. encoding-same c.args.a.now c.args.b.now c.octets.ensures.name c.octets-2.ensures.name
          (sym c.octets.ensures.spelled ∙ same.0 yes ∙ c.octets-2.ensures.spelled),
      λ equal. same.1 (c.octets.ensures.spelled ∙ ap encoding equal ∙ sym c.octets-2.ensures.spelled),
    )
