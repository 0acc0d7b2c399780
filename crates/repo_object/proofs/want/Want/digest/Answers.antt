use Rattle.std.proofs.Common.{List, ℕ, Bool, Option, Some, ◌≡◌, ◌+◌, drop, length, ap, sym, subst, ◌∙◌}
use Rattle.std.specs.Prelude.{IfSome}
use Rattle.repo_object.specs.Wants.{WantedPart, digest_after}
use Rattle.repo_object.proofs.WantLemmas.{digest_lent}
use Rattle.repo_object.proofs.want.Want.digest.Goals as goal

pub returns : goal.returns
returns c =
    let octets = c.split_at.result.1.now in
    let after = c.split_at.ensures.back ∙ ap (drop (c.self.inside.name_end + 2)) c.deref.ensures.value in
    let is = ap (λ (b : Bool). digest_after c.self.inside.interest.items c.self.inside.name_end b)
    c.if-not-self.false in
    let Long : Option (List ℕ) → Type 0 = λ o. IfSome o (λ d. length d ≡ 32) in
    digest_lent c.first_chunk.result octets c.first_chunk.ensures.cases
    (subst Long (is ∙ ap (λ (x : List ℕ). Some x) (sym after)) c.self.invariant.digest)
    ∙ ap (λ (x : List ℕ). Some x) after
    ∙ sym is
    ∙ ap (λ (w : WantedPart). w.digest) c.self.view_is
