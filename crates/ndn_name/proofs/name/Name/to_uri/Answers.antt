use Rattle.std.proofs.Common.{ℕ, List, ◌++◌, sym, ap, subst, ◌∙◌}
use Rattle.std.specs.Str.{IsUtf8}
use Rattle.std.proofs.lemmas.Str.{IsUtf8-from_ascii}
use Rattle.ndn_name.specs.Names.{Component}
use Rattle.ndn_name.specs.Uri.{uri}
use Rattle.ndn_name.proofs.VisibleTexts.{uri-ascii}
use Rattle.ndn_name.proofs.name.Name.to_uri.Goals as goal

pub unwrap-requires : goal.unwrap-requires
unwrap-requires c =
    let name = c.args.self.now in
    let P : List ℕ → Type 0 = λ text. IsUtf8 text in
    let start = c.in_ok-text.text.items in
    let seen = ap (λ (n : List Component). start ++ uri n) c.view.ensures in
    let printed = c.in_ok-put_uri.ensures.ok ∙ seen ∙ ap (λ (t : List ℕ). t ++ uri name) c.in_ok-text.ensures.items in
    c.from_utf8.ensures.succeeds
    (subst P (sym printed) (IsUtf8-from_ascii (uri name) (uri-ascii name c.octets.ensures.name)))
