use Rattle.std.proofs.Common.{arith, ◌≡◌, Bool, true, false, not, ◌&&◌, refl, sym, ap, ◌∙◌, subst}
use Rattle.std.proofs.lemmas.Bool.{true≢false}
use Rattle.std.proofs.lemmas.Cmp.{tied_itself}
use Rattle.std.specs.Ordering.{eq_by_cmp, is_eq, is_ne}
use Rattle.std.specs.declared.cmp.Ordering.{Ordering}
use Rattle.std.specs.declared.cmp.Ordering.TheVariants.{Less, Equal, Greater}
use Rattle.sorted_lists.specs.Runs.{Run, has, number_cmp}
use Rattle.sorted_lists.proofs.Sets.{In}
use Rattle.sorted_lists.proofs.Orders.{equal_from_is_eq}
use Rattle.sorted_lists.proofs.RunOrder.{first_is}
use Rattle.sorted_lists.proofs.RunLists.{runs_rise}
use Rattle.sorted_lists.proofs.Numbers.{follow, exact_numbers, none_left, others_left, fewer_runs, fewer_has, shorter}
use Rattle.sorted_lists.proofs.Numbers.{one_without}
use Rattle.sorted_lists.proofs.runs.Runs.remove_all.Goals as goal

-- what is left has no number of the thing
ended : (a b d : Bool) → (b ≡ false → a ≡ d) → (b ≡ true → a ≡ false) → a ≡ (not b && d)
ended a true d f g = g refl
ended a false d f g = f refl

differs : (x : Ordering) → is_ne x ≡ true → x ≡ Equal → ⊥
differs Less h e = cc
differs Equal h e = true≢false (sym h)
differs Greater h e = cc

agrees : (x : Ordering) → is_ne x ≡ false → x ≡ Equal
agrees Less h = absurd (true≢false h)
agrees Equal h = refl
agrees Greater h = absurd (true≢false h)

pub returns-then-is_ne-clause-numbers : goal.returns-then-is_ne-clause-numbers
returns-then-is_ne-clause-numbers g c =
    let v = c.loop-first.invariant in
    let exact = c.self.invariant.0 in
    let o = g.met.P.Ord.total in
    let es = c.loop-first.self-inside.map.entries in
    let other = sym c.is_ne.ensures ∙ c.if-is_ne.true in
    rw (← c.self.view_is) (λ q. ended (has (number_cmp g.P.Ord.cmp) es q) (eq_by_cmp g.P.Ord.cmp c.args.thing q.0)
    (has (number_cmp g.P.Ord.cmp) c.self.inside.map.entries q) (v.kept q) (λ h.
    others_left o exact es v.set.runs v.set.one c.args.thing (c.in-Some.first, c.in-Some.field-0-1)
    (sym c.in-Some.ensures.found)
    (λ s. differs c.cmp.result other
    (c.cmp.ensures ∙ subst (λ p. g.P.Ord.cmp c.args.thing p ≡ Equal) s (tied_itself o c.args.thing)))
    q (exact c.args.thing q.0 (equal_from_is_eq (g.P.Ord.cmp c.args.thing q.0) h))))

pub loop-first-smaller : goal.loop-first-smaller
loop-first-smaller g c =
    let v = c.loop-first.invariant in
    let exact = c.self.invariant.0 in
    let o = g.met.P.Ord.total in
    let es = c.loop-first.self-inside.map.entries in
    let y : Run g.row.P.Denot = (c.in-Some.first, c.in-Some.field-0-1) in
    let there : In y es =
    (first_is (exact_numbers o exact) (c.args.thing, 0) es (runs_rise (follow o exact) es v.set.runs) y
    (sym c.in-Some.ensures.found)).is_in in
    rw c.remove.ensures.entries (shorter o exact es v.set.runs v.set.one y there)

pub loop-first-preserved : goal.loop-first-preserved
loop-first-preserved g c =
    let v = c.loop-first.invariant in
    let exact = c.self.invariant.0 in
    let o = g.met.P.Ord.total in
    let es = c.loop-first.self-inside.map.entries in
    let y : Run g.row.P.Denot = (c.in-Some.first, c.in-Some.field-0-1) in
    let there : In y es =
    (first_is (exact_numbers o exact) (c.args.thing, 0) es (runs_rise (follow o exact) es v.set.runs) y
    (sym c.in-Some.ensures.found)).is_in in
    let same : c.args.thing ≡ c.in-Some.first.0 =
    exact c.args.thing c.in-Some.first.0
    (sym c.cmp.ensures ∙ agrees c.cmp.result (sym c.is_ne.ensures ∙ c.if-is_ne.false)) in
    record {
      set = record {
        runs = rw c.remove.ensures.entries (fewer_runs o exact es v.set.runs v.set.one y there);
        one = rw c.remove.ensures.entries (one_without o exact c.in-Some.first es v.set.one);
      };
      kept = λ q h.
          rw c.remove.ensures.entries (fewer_has o exact es v.set.runs v.set.one y there q (λ s.
          true≢false
          (sym (ap is_eq (subst (λ p. g.P.Ord.cmp c.args.thing p ≡ Equal) (same ∙ s) (tied_itself o c.args.thing)))
          ∙ h)))
          ∙ v.kept q h;
      spare = omega (arith, v.spare, c.remove.ensures.spare);
    }

pub returns-clause-numbers : goal.returns-clause-numbers
returns-clause-numbers g c =
    let v = c.loop-first.invariant in
    let exact = c.self.invariant.0 in
    let o = g.met.P.Ord.total in
    let es = c.loop-first.self-inside.map.entries in
    rw (← c.self.view_is) (λ q. ended (has (number_cmp g.P.Ord.cmp) es q) (eq_by_cmp g.P.Ord.cmp c.args.thing q.0)
    (has (number_cmp g.P.Ord.cmp) c.self.inside.map.entries q) (v.kept q) (λ h.
    none_left o exact es v.set.runs v.set.one c.args.thing (sym c.first_from.ensures.found ∙ c.in_default.is) q
    (exact c.args.thing q.0 (equal_from_is_eq (g.P.Ord.cmp c.args.thing q.0) h))))
