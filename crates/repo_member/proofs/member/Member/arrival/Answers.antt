use Rattle.std.proofs.Common.{◌≡◌, length, List, ℕ, Result, Ok, Err, refl, sym, ap, ◌∙◌, subst, arith}
use Rattle.std.specs.Prelude.{IsOk, IsSome}
use Rattle.std.proofs.lemmas.Bool.{true≢false}
use Rattle.ndn_data.specs.Data.{Data}
use Rattle.ndn_sign.specs.Ring.{NamedKey}
use Rattle.repo_plan.specs.declared.part.Part.{Part}
use Rattle.repo_object.specs.declared.part_refusal.PartRefusal.{PartRefusal}
use Rattle.repo_object.specs.Wants.{WantedPart}
use Rattle.repo_object.specs.Verdict.{checked_part, stated_in}
use Rattle.repo_holdings.specs.StoredParents.{lists_at, ListsAsMany}
use Rattle.repo_member.specs.MemberState.{want_of}
use Rattle.repo_member.specs.Verdicts.{passed}
use Rattle.repo_member.proofs.MemberLemmas.{want_at_part, want_part, passes_for, publisher_in_ring}
use Rattle.repo_member.proofs.OutcomeLemmas.{checked_says, lists_for}
use Rattle.repo_member.proofs.member.Member.arrival.Goals as goal

pub check-requires : goal.check-requires
check-requires c =
    let inside =
    publisher_in_ring c.args.g.now c.self.inside c.args.self.now c.args.part c.self.invariant c.self.view_is
    c.requires.group c.members.ensures.keys c.requires.asked in
    let part =
    ap (λ (w : WantedPart). w.part.publisher) c.expected-expected.ensures.expected
    ∙ ap (λ (t : Part). t.publisher)
    (want_at_part c.roster.result.now c.name.result.now c.self.inside.held.store c.args.part) in
    let ring = ap (λ (r : List NamedKey). length r) c.members.ensures.ring in
    omega (arith, inside, part, ring)

passes_so : (t : Part) (v : Result Data PartRefusal) → IsOk v → passed t v ≡ Ok t
passes_so t (Ok d) h = refl
passes_so t (Err refusal) h = absurd (true≢false (sym h))

-- so it is no refusal of theirs where memory is wanted
no_refusal : (t : Part) (v : Result Data PartRefusal) → IsOk v → IsOk (passed t v)
no_refusal t v h = rw (passes_so t v h) refl

pub returns-in_err-to_vec-clause-memory : goal.returns-in_err-to_vec-clause-memory
returns-in_err-to_vec-clause-memory c = λ _.
    no_refusal c.args.part _
    (passes_for c.args.g.now c.roster.result.now c.name.result.now c.roster.ensures.names c.name.ensures c.self.inside
    c.args.self.now c.self.invariant c.self.view_is c.args.part _ _ _ c.expected-expected.ensures.expected
    c.members.ensures.ring c.in_ok-check.ensures)

pub returns-in_err-packet-clause-memory : goal.returns-in_err-packet-clause-memory
returns-in_err-packet-clause-memory c = λ _.
    no_refusal c.args.part _
    (passes_for c.args.g.now c.roster.result.now c.name.result.now c.roster.ensures.names c.name.ensures c.self.inside
    c.args.self.now c.self.invariant c.self.view_is c.args.part _ _ _ c.expected-expected.ensures.expected
    c.members.ensures.ring c.in_ok-check.ensures)

pub new-requires-2 : goal.new-requires-2
new-requires-2 c = record {
  record_part = λ zero.
      subst (λ (octets : List ℕ). IsSome (stated_in octets))
      (sym (c.in_ok-packet.ensures ∙ c.in_ok-to_vec.ensures.items_if_clones_equal (λ x y e. e)))
      (checked_says
      (checked_part (want_of c.args.g.now c.args.self.now.store c.args.part) c.args.g.now.members.ring
      c.args.octets.now)
      (passes_for c.args.g.now c.roster.result.now c.name.result.now c.roster.ensures.names c.name.ensures c.self.inside
      c.args.self.now c.self.invariant c.self.view_is c.args.part _ _ _ c.expected-expected.ensures.expected
      c.members.ensures.ring c.in_ok-check.ensures)
      (ap (λ (t : Part). t.part) (want_part c.args.g.now c.args.self.now.store c.args.part) ∙ zero));
}

pub returns-in_err-new-clause-memory : goal.returns-in_err-new-clause-memory
returns-in_err-new-clause-memory c = λ _.
    no_refusal c.args.part _
    (passes_for c.args.g.now c.roster.result.now c.name.result.now c.roster.ensures.names c.name.ensures c.self.inside
    c.args.self.now c.self.invariant c.self.view_is c.args.part _ _ _ c.expected-expected.ensures.expected
    c.members.ensures.ring c.in_ok-check.ensures)

pub returns-clause-passed : goal.returns-clause-passed
returns-clause-passed c =
    passes_so c.args.part _
    (passes_for c.args.g.now c.roster.result.now c.name.result.now c.roster.ensures.names c.name.ensures c.self.inside
    c.args.self.now c.self.invariant c.self.view_is c.args.part _ _ _ c.expected-expected.ensures.expected
    c.members.ensures.ring c.in_ok-check.ensures)

pub returns-clause-arrival : goal.returns-clause-arrival
returns-clause-arrival c =
    c.in_ok-new.ensures.arrival c.args.self.now.store
    (subst (λ (octets : List ℕ). ListsAsMany octets (lists_at c.args.self.now.store c.args.part))
    (sym (c.in_ok-packet.ensures ∙ c.in_ok-to_vec.ensures.items_if_clones_equal (λ x y e. e)))
    (lists_for c.args.g.now c.args.self.now c.args.part
    (checked_part (want_of c.args.g.now c.args.self.now.store c.args.part) c.args.g.now.members.ring c.args.octets.now)
    (passes_for c.args.g.now c.roster.result.now c.name.result.now c.roster.ensures.names c.name.ensures c.self.inside
    c.args.self.now c.self.invariant c.self.view_is c.args.part _ _ _ c.expected-expected.ensures.expected
    c.members.ensures.ring c.in_ok-check.ensures)
    refl))
