use Rattle.std.proofs.Common.{◌≡◌, ◌++◌, ◌∷◌, [], List, ℕ, length, sym, ap, ◌∙◌, subst}
use Rattle.std.specs.Prelude.{◌≢◌, MatchOption}
use Rattle.repo_object.proofs.NameStarts.{short_element, not_the_first, after_both}
use Rattle.repo_object.proofs.name_parts.after_component.Goals as goal

pub returns-in_default : goal.returns-in_default
returns-in_default c = λ rest same.
    not_the_first c.args.octets.now (c.args.typ ∷ length c.args.value.now ∷ []) c.args.value.now c.in_default.ensures
    rest
    (same
    ∙ ap (λ (e : List ℕ). e ++ rest) (short_element c.args.typ c.args.value.now c.requires.typ c.requires.short))

pub returns : goal.returns
returns c =
    let e = short_element c.args.typ c.args.value.now c.requires.typ c.requires.short in
    subst
    (λ (o : List ℕ). MatchOption c.after-2.result ((rest : List ℕ) → c.args.octets.now ≢ o ++ rest)
    (λ rest. c.args.octets.now ≡ o ++ rest.now)) (sym e)
    (after_both c.args.octets.now (c.args.typ ∷ length c.args.value.now ∷ []) c.args.value.now c.in-Some.rest.now
    c.after-2.result c.in-Some.ensures c.after-2.ensures)
