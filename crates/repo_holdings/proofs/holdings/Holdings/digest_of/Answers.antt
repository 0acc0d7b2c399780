use Rattle.std.proofs.Common.{◌≡◌, Bor, List, ℕ, length, Option, Some, None, option_map, refl, sym, ap, subst, arith}
use Rattle.std.specs.Prelude.{IsSome}
use Rattle.repo_holdings.proofs.ParentLemmas.{index_place, record_place, place_there}
use Rattle.repo_holdings.proofs.holdings.Holdings.digest_of.Goals.{in-Some, in-None}
use Rattle.repo_holdings.proofs.holdings.Holdings.digest_of.Goals as goal

lent : (o : Option (Bor (List ℕ))) (p : Option (List ℕ)) → option_map (λ digest. digest.now) o ≡ p → IsSome p
    → IsSome o
lent None p h some = subst (λ (q : Option (List ℕ)). IsSome q) (sym h) some
lent (Some digest) p h some = refl

pub unwrap-requires : goal.unwrap-requires
unwrap-requires c = elim c.match-stored.branch [
  | in-Some w ↦
      subst (λ (o : Option (Bor (List ℕ))). IsSome o) (sym w.digest-is)
      (lent w.get-digest.result _ w.get-digest.ensures
      (place_there w.in-Some.index _
      (omega (
        arith,
        c.from-i.ensures,
        w.from.ensures,
        index_place c.args.self.now.store c.args.part c.args.stored.now c.requires.listed c.requires.segment
            w.in-Some.index w.in-Some.is,
      ))))
  | in-None w ↦
      subst (λ (o : Option (Bor (List ℕ))). IsSome o) (sym w.digest-is)
      (lent w.get-digest-in-None.result _ w.get-digest-in-None.ensures
      (place_there w.digests.result.now _
      (omega (
        arith,
        c.from-i.ensures,
        ap length w.digests.ensures.same,
        record_place c.args.self.now.store c.args.part c.args.stored.now c.requires.listed c.requires.segment
            w.in-None.is w.digests.ensures.within,
      ))))
]
