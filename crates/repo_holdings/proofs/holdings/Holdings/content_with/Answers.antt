use Rattle.std.proofs.Common.{◌≡◌, ◌<◌, ℕ, List, [], length, get_or, Option, Some, None, map, option_map, unwrap_or}
use Rattle.std.proofs.Common.{refl, sym, ap}
use Rattle.std.proofs.Common.{◌∙◌, rules}
use Rattle.std.specs.Prelude.{slice_get}
use Rattle.std.specs.declared.cmp.Ordering.TheVariants.{Equal}
use Rattle.std.proofs.lemmas.List.Sorted.{answers_always}
use Rattle.sorted_lists.specs.SortedList.{value_of}
use Rattle.repo_plan.specs.declared.part.Part.{Part}
use Rattle.repo_plan.specs.Parts.{part_cmp}
use Rattle.repo_plan.proofs.Orders.{exact_parts}
use Rattle.repo_object.specs.declared.job.Job.{Job}
use Rattle.repo_object.specs.Packets.{packet_content}
use Rattle.repo_object.specs.Verdict.{CheckedPart}
use Rattle.repo_holdings.specs.Records.{Packet}
use Rattle.repo_holdings.specs.HoldingsState.{HoldingsState}
use Rattle.repo_holdings.specs.Taking.{fetched_for, with_fetched_for, PartsDiffer}
use Rattle.repo_holdings.proofs.FreshLemmas.{fetched_stays}
use Rattle.repo_holdings.proofs.ArrivedLemmas.{job_part, received_at}
use Rattle.repo_holdings.proofs.holdings.Holdings.content_with.Goals as goal

abbrev content_or : Option (List ℕ) → List ℕ
content_or o = packet_content (unwrap_or o [])

-- the job at a place beyond all
no_job : Job
no_job = record {
  want = record {
    part = record { publisher = 0; seq = 0; part = 0 };
    name = [];
    digest = None;
    lists = None;
    interest = [];
  };
  base = 0;
}

-- the content of what is stored still
stored_still : (o later : Option (List ℕ)) (content : List ℕ)
    → ((octets : List ℕ) → o ≡ Some octets → later ≡ Some octets)
    → Some content ≡ option_map packet_content o → content ≡ content_or later
stored_still None later content stays same = absurd cc
stored_still (Some octets) later content stays same =
    let is : content ≡ packet_content octets = cc in is ∙ ap content_or (sym (stays octets refl))

pub returns-in-Some-clause-exact : goal.returns-in-Some-clause-exact
returns-in-Some-clause-exact c =
    stored_still (value_of part_cmp c.args.self.now.store c.args.part) _ c.in-Some.content.now
    (λ octets there.
    fetched_stays (fetched_for c.args.jobs.now c.args.parts.now) c.args.self.now.store c.args.part octets there)
    (ap (option_map (λ content. content.now)) (sym c.in-Some.is)
    ∙ c.stored_content.ensures.exact
    ∙ ap (λ (h : HoldingsState). option_map packet_content (value_of part_cmp h.store c.args.part)) c.self.view_is)

nothing_stored : (o : Option (List ℕ)) → (let none : Option (List ℕ) = None in none) ≡ option_map packet_content o
    → o ≡ None
nothing_stored None same = refl
nothing_stored (Some octets) same = absurd cc

-- the packet received for the part of the job at a place
came_there : (jobs : List Job) (parts : List (Option CheckedPart)) (packets : List Packet) (t : Part) (i : ℕ) (d : Job)
    (checked : CheckedPart) → PartsDiffer (map job_part jobs) → i < length jobs
    → part_cmp (get_or jobs i d).want.part t ≡ Equal → value_of part_cmp packets t ≡ None
    → slice_get parts i ≡ Some (Some checked)
    → value_of part_cmp (with_fetched_for jobs parts packets) t ≡ Some checked.octets
came_there jobs parts packets t i d checked differ low same none there =
    let part : (get_or jobs i d).want.part ≡ t = exact_parts.same (get_or jobs i d).want.part t same in
    ap (value_of part_cmp (with_fetched_for jobs parts packets)) (sym part)
    ∙ received_at jobs parts packets i d checked differ low (ap (value_of part_cmp packets) part ∙ none) there

pub returns-clause-exact : goal.returns-clause-exact
returns-clause-exact c =
    c.content_of.ensures.exact
    ∙ ap content_or
    (sym (came_there c.args.jobs.now c.args.parts.now c.args.self.now.store c.args.part c.in-Ok.place no_job
    c.in_ok-checked.checked.now c.requires c.in-Ok.ensures.bound
    (c.in-Ok.ensures.position job_part (answers_always _ _ _ (λ f a r g called. search rules)) no_job)
    (ap (λ (h : HoldingsState). value_of part_cmp h.store c.args.part) (sym c.self.view_is)
    ∙ nothing_stored (value_of part_cmp c.self.inside.stock.store.packets c.args.part)
    (ap (option_map (λ content. content.now)) (sym c.in_default.is) ∙ c.stored_content.ensures.exact))
    (c.in_ok-checked.ensures)))
