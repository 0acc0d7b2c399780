use Rattle.std.proofs.Common.{◌≡◌, ℕ, ◌+◌, List, [], ◌∷◌, map, length, sym, ap, subst, arith, Vec, Global}
use Rattle.std.proofs.lemmas.List.{length-append}
use Rattle.repo_object.specs.declared.object.Object.{Object}
use Rattle.live_group.proofs.Seating.{IsSeating, one_seated}
use Rattle.live_group.proofs.running.all_seats.Goals as goal

pub loop-objects-preserved : goal.loop-objects-preserved
loop-objects-preserved g c =
    let t = g.L.Lists.meaning in
    let seats = c.loop-objects.seats.items in
    let rest = c.loop-objects.objects-iterator.rest.items in
    let later = c.next.new.self.rest.items in
    let n = c.in_ok-new.field-0 in
    let is = c.loop-objects.invariant in
    let number : n ≡ length seats = omega (arith, c.in_ok-new.ensures) in
    let more : length c.push.new.self.items ≡ length seats + 1 =
    let long = length-append seats (n ∷ []) in
    omega (arith, ap (λ (ns : List ℕ). length ns) c.in_ok-push.ensures.items, long) in (
      subst (λ (ns : List ℕ). IsSeating t ns (map (λ v. v.items) later)) (sym c.in_ok-push.ensures.items)
          (one_seated t seats (map (λ v. v.items) rest) (map (λ v. v.items) later) c.in-Some.objects.items
          is.0 (ap (map (λ v. v.items)) c.in-Some.ensures.steps.0) n number),
      omega (arith, is.1, c.split_off-spent.ensures.parts_left, more),
      omega (arith, is.2, c.split_off-spent.ensures.amount_left),
      omega (arith, is.3, more, ap (λ (vs : List (Vec Object Global)). length vs) c.in-Some.ensures.steps.0),
    )
