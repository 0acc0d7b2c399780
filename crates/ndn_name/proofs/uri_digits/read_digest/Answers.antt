use Rattle.std.proofs.Common.{◌≡◌, ◌+◌, ◌<◌, ℕ, List, [], ◌∷◌, ◌++◌, length, take, sym, ap, subst, ◌∙◌, append_assoc}
use Rattle.std.proofs.Common.{arith, rules}
use Rattle.std.proofs.lemmas.Result.{err_from_is_err_and}
use Rattle.std.proofs.lemmas.List.{length-take, take_more_set}
use Rattle.ndn_name.specs.Uri.{IsDigits}
use Rattle.ndn_name.proofs.Escapes.{pair-fails, pair-takes}
use Rattle.ndn_name.proofs.Digests.{digest-pair_fails, digest-long, digits-push, length-digits, IsSomeDigest}
use Rattle.ndn_name.specs.UriVerdict.{LeavesLanguage}
use Rattle.ndn_name.proofs.uri_digits.read_digest.Goals as goal

pub returns-in_err-value-clause-read : goal.returns-in_err-value-clause-read
returns-in_err-value-clause-read c =
    let p = err_from_is_err_and c.from_residual.result c.from_residual.ensures.1 in
    let inv = c.loop-octet.invariant in
    let i = c.loop-octet.octet-index in
    let short : length (take i c.loop-octet.octet-items) < 32 =
    omega (arith, length-take i c.loop-octet.octet-items, c.loop-octet-test.true) in
    rw (p.1, p.2)
    (digest-pair_fails c.args.at (take i c.loop-octet.octet-items) inv.prefix c.loop-octet.rest.now c.args.text.now
    c.in_err-value.field-0.0 inv.read short inv.split c.in_err-value.ensures)

pub returns-in_err-value-clause-not_memory : goal.returns-in_err-value-clause-not_memory
returns-in_err-value-clause-not_memory c =
    let p = err_from_is_err_and c.from_residual.result c.from_residual.ensures.1 in
    let f = pair-fails _ c.loop-octet.rest.now c.in_err-value.field-0.0 c.in_err-value.ensures in
    rw (p.1, p.2, ← f.1) (λ e. cc)

pub loop-octet-preserved : goal.loop-octet-preserved
loop-octet-preserved c =
    let inv = c.loop-octet.invariant in
    let i = c.loop-octet.octet-index in
    let items = c.loop-octet.octet-items in
    let following = c.in_ok-value.following.now in
    let t =
    digits-push (take i items) inv.prefix c.loop-octet.rest.now c.in_ok-value.value following inv.read
    (pair-takes _ c.loop-octet.rest.now (c.in_ok-value.value, following) c.in_ok-value.ensures) in
    let P : List ℕ → Type 0 = λ v. IsDigits v (inv.prefix ++ t.0) in
    record {
      prefix = inv.prefix ++ t.0;
      split = append_assoc inv.prefix t.0 following ∙ ap (λ (x : List ℕ). inv.prefix ++ x) (sym t.1) ∙ inv.split;
      read = subst P (sym (take_more_set items i c.in_ok-value.value (omega arith))) t.2;
    }

long : (at : ℕ) (a prefix rest text : List ℕ) → IsDigits a prefix → length a ≡ 32 → 0 < length rest → prefix ++ rest
    ≡ text
    → (k : ℕ) × (at + 64 ≡ at + k) × LeavesLanguage IsSomeDigest text k
long at a prefix [] text read size some split = absurd (omega arith)
long at a prefix (c ∷ rest) text read size some split = (
  length prefix + 0,
  omega (arith, size, length-digits a prefix read),
  digest-long a prefix text c rest read size
      split,
)

pub returns-else-is_empty-clause-read : goal.returns-else-is_empty-clause-read
returns-else-is_empty-clause-read c =
    let inv = c.loop-octet.invariant in
    let a = take c.loop-octet.octet-index c.loop-octet.octet-items in
    long c.args.at a inv.prefix c.loop-octet.rest.now c.args.text.now inv.read
    (omega (arith, length-take c.loop-octet.octet-index c.loop-octet.octet-items)) (search rules) inv.split
