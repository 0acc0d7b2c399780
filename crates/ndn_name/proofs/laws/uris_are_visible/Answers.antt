use Rattle.ndn_name.proofs.VisibleTexts.{uri-some, uri-visible}
use Rattle.ndn_name.proofs.laws.uris_are_visible.Goals as goal

pub returns : goal.returns
returns c = record {
  visible = λ name text h. uri-visible h.0 text h.1;
  some = λ name text h. uri-some h.0 text h.1;
}
