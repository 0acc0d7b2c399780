use Rattle.std.proofs.Common.{List, ℕ, ap, ◌∙◌}
use Rattle.std.specs.Str.{bytes_eq}
use Rattle.ndn_sign.specs.Hmac.{hmac}
use Rattle.repo_object.specs.Verdict.{key_at}
use Rattle.repo_object.proofs.Passing.{mac_is}
use Rattle.repo_object.proofs.verdict.is_signed_by.Goals as goal

pub returns : goal.returns
returns c =
    let key = (key_at c.args.ring.now c.args.number).key in
    let mac = c.args.view.now.signature.now in
    mac_is c.args.ring.now c.args.number c.signed_portion.result.now mac c.check_mac.result c.requires
    c.check_mac.ensures
    ∙ ap (λ (signed : List ℕ). bytes_eq (hmac key signed) mac) c.signed_portion.ensures
