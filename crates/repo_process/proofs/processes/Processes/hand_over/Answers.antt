use Rattle.std.proofs.Common.{◌≡◌, map, List, ℕ, Some, Option, sym, ap, subst, ◌∙◌, arith}
use Rattle.std.specs.Prelude.{IsSome, IfSome}
use Rattle.std.specs.Option.{option_map}
use Rattle.repo_object.specs.Objects.{NamedContents}
use Rattle.repo_process.specs.Processes.{Process, closed}
use Rattle.repo_process.specs.Arrivals.{whole_object}
use Rattle.repo_process.specs.Fields.{blocks_from}
use Rattle.repo_process.proofs.PlaceLemmas.{found, whole_of, change_replaced}
use Rattle.repo_process.proofs.processes.Processes.hand_over.Goals as goal

pub index_mut-requires : goal.index_mut-requires
index_mut-requires c =
    let m = c.self.inside in
    let at =
    found m c.args.self.now c.self.invariant c.self.view_is c.args.process c.unwrap-place.result
    (rw (c.unwrap-place.ensures, c.from.ensures) at c.place.ensures) in
    omega (arith, at.within, m.insertions.ok.0)

pub close-requires-clause-open : goal.close-requires-clause-open
close-requires-clause-open c =
    let m = c.self.inside in
    let p = c.index_mut.result.now in
    let at =
    found m c.args.self.now c.self.invariant c.self.view_is c.args.process c.unwrap-place.result
    (rw (c.unwrap-place.ensures, c.from.ensures) at c.place.ensures) in
    let P : Option Process → Type 0 = λ o. IsSome (whole_object o) in
    (whole_of p (subst P (at.there p c.index_mut.ensures.value) c.requires)).unpublished

pub close-requires-clause-whole : goal.close-requires-clause-whole
close-requires-clause-whole c =
    let m = c.self.inside in
    let p = c.index_mut.result.now in
    let at =
    found m c.args.self.now c.self.invariant c.self.view_is c.args.process c.unwrap-place.result
    (rw (c.unwrap-place.ensures, c.from.ensures) at c.place.ensures) in
    let P : Option Process → Type 0 = λ o. IsSome (whole_object o) in
    (whole_of p (subst P (at.there p c.index_mut.ensures.value) c.requires)).whole

pub returns-clause-blocks : goal.returns-clause-blocks
returns-clause-blocks c =
    let m = c.self.inside in
    let p = c.index_mut.result.now in
    let at =
    found m c.args.self.now c.self.invariant c.self.view_is c.args.process c.unwrap-place.result
    (rw (c.unwrap-place.ensures, c.from.ensures) at c.place.ensures) in
    let P : Option Process → Type 0 = λ o. IsSome (whole_object o) in
    let whole = whole_of p (subst P (at.there p c.index_mut.ensures.value) c.requires) in
    ap (λ o. option_map (λ (n : NamedContents). n.contents) (whole_object o)) (at.there p c.index_mut.ensures.value)
    ∙ ap (option_map (λ (n : NamedContents). n.contents)) whole.object
    ∙ ap (λ (contents : List (List ℕ)). Some contents) (sym c.close.ensures.blocks)

pub returns-clause-closed : goal.returns-clause-closed
returns-clause-closed c =
    let m = c.self.inside in
    let i = c.args.self.now in
    let at =
    found m i c.self.invariant c.self.view_is c.args.process c.unwrap-place.result
    (rw (c.unwrap-place.ensures, c.from.ensures) at c.place.ensures) in
    change_replaced m i c.self.invariant c.self.view_is c.args.process c.unwrap-place.result at c.index_mut.result.now
    c.close.new.self closed c.index_mut.ensures.value c.close.ensures.closed

pub returns-clause-back : goal.returns-clause-back
returns-clause-back c =
    let m = c.self.inside in
    let at =
    found m c.args.self.now c.self.invariant c.self.view_is c.args.process c.unwrap-place.result
    (rw (c.unwrap-place.ensures, c.from.ensures) at c.place.ensures) in
    let P : Option Process → Type 0 =
    λ o. IfSome o (λ p. blocks_from p.first (map (λ v. v.items) c.close.result.items) ≡ p.blocks) in
    subst P (sym (at.there c.index_mut.result.now c.index_mut.ensures.value)) c.close.ensures.back
