-- That what is lent is taken.
use Rattle.std.proofs.Common.{◌≡◌, ◌⊎◌, Option, Some, List, ℕ, Ok, Err, IfOk, IfErr, option_map, sym, ◌∙◌, subst}
use Rattle.repo_store.specs.Served.{served}
use Rattle.bench_world.specs.declared.event.EventError.TheVariants as fault
use Rattle.bench_world.specs.Serving.{packet_response, found}
use Rattle.bench_world.specs.Answering.{answered, lender_of}
use Rattle.bench_world.proofs.answering.answer_from.Goals as goal

pub returns-in-Some-clause-kept : goal.returns-in-Some-clause-kept
returns-in-Some-clause-kept g c =
    subst (λ (o : Option (List ℕ)). IfOk c.accept_served.result (λ kept.
    answered c.args.g.now g.logs (Some c.args.want.now.part)
    (packet_response c.args.g.now g.logs c.args.want.now.part o) ≡ Ok kept))
    (c.served_to.ensures
    ∙ (λ i. found (served c.args.want.now.interest
    (lender_of c.args.asker.now (option_map (λ a. a.now) (sym c.in-Some.is i))).store)))
    c.accept_served.ensures.kept

pub returns-in-Some-clause-refused : goal.returns-in-Some-clause-refused
returns-in-Some-clause-refused g c =
    subst (λ (o : Option (List ℕ)). IfErr c.accept_served.result (λ e. (e ≡ fault.NoMemory)
    ⊎ (answered c.args.g.now g.logs (Some c.args.want.now.part)
    (packet_response c.args.g.now g.logs c.args.want.now.part o) ≡ Err e)))
    (c.served_to.ensures
    ∙ (λ i. found (served c.args.want.now.interest
    (lender_of c.args.asker.now (option_map (λ a. a.now) (sym c.in-Some.is i))).store)))
    c.accept_served.ensures.refused

pub returns-clause-kept : goal.returns-clause-kept
returns-clause-kept g c =
    let copied = c.as_slice.ensures.value ∙ c.in_ok-copy.ensures.items_if_clones_equal (λ x y e. e) in
    subst (λ (o : Option (List ℕ)). IfOk c.accept_served-2.result (λ kept.
    answered c.args.g.now g.logs (Some c.args.want.now.part)
    (packet_response c.args.g.now g.logs c.args.want.now.part o) ≡ Ok kept))
    ((λ i. Some (copied i)) ∙ c.in-Some-served_to.ensures
    ∙ (λ i. found (served c.args.want.now.interest
    (lender_of c.args.asker.now (option_map (λ a. a.now) (sym c.in_default.is i))).store)))
    c.accept_served-2.ensures.kept

pub returns-clause-refused : goal.returns-clause-refused
returns-clause-refused g c =
    let copied = c.as_slice.ensures.value ∙ c.in_ok-copy.ensures.items_if_clones_equal (λ x y e. e) in
    subst (λ (o : Option (List ℕ)). IfErr c.accept_served-2.result (λ e. (e ≡ fault.NoMemory)
    ⊎ (answered c.args.g.now g.logs (Some c.args.want.now.part)
    (packet_response c.args.g.now g.logs c.args.want.now.part o) ≡ Err e)))
    ((λ i. Some (copied i)) ∙ c.in-Some-served_to.ensures
    ∙ (λ i. found (served c.args.want.now.interest
    (lender_of c.args.asker.now (option_map (λ a. a.now) (sym c.in_default.is i))).store)))
    c.accept_served-2.ensures.refused
