use Rattle.std.proofs.Common.{◌≡◌, ◌∙◌, List, [], ◌∷◌, map, ap, subst}
use Rattle.repo_object.specs.Objects.{NamedContents}
use Rattle.live_member.specs.Meanings.{meaning_of, IsWithinLimits}
use Rattle.live_tests.proofs.Pairs.{taken_out}
use Rattle.live_tests.proofs.inputs.limited.Goals as goal

pub returns : goal.returns
returns g c = λ draws.
    let group = c.args.g.now in
    let xs = c.pair-lists.result.items in
    let lent : map (λ l. l.items) c.deref.result.now ≡ map (λ l. l.items) xs =
    ap (map (λ l. l.items)) c.deref.ensures.value in
    let taken : map (λ l. l.items) xs ≡ c.remove-first.result.items ∷ c.remove-second.result.items ∷ [] =
    taken_out (λ l. l.items) xs c.remove-first.new.self.items c.args.alices c.args.bobs c.remove-first.result
    c.remove-second.result c.pair-lists.ensures c.remove-first.ensures.value c.remove-first.ensures.items
    c.remove-second.ensures.value in
    subst (λ (lists : List (List NamedContents)). IsWithinLimits (meaning_of group lists draws)) (lent ∙ taken)
    ((c.are_within_limits.ensures draws).0 cc)
