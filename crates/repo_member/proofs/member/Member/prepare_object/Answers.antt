use Rattle.std.proofs.Common.{rules, ◌≡◌, ◌<◌, ◌^◌, ℕ, List, length, sym, ap, ◌∙◌, arith}
use Rattle.std.proofs.lemmas.List.{length-map}
use Rattle.repo_plan.specs.Parts.{shape_of_segments}
use Rattle.repo_holdings.specs.declared.record_summary.RecordSummary.TheVariants.{Object}
use Rattle.repo_object.specs.Objects.Post.{Offers}
use Rattle.repo_object.specs.Publication.{packets}
use Rattle.repo_member.specs.Groups.{publisher_at}
use Rattle.repo_member.specs.MemberState.{MemberState, next_seq}
use Rattle.repo_member.proofs.OwnLemmas.{is_publisher, packets_are}
use Rattle.repo_member.proofs.member.Member.prepare_object.Goals as goal

packed : (c : goal.In_ok-sync)
    → c.in_ok-packets.packets.items
    ≡ packets (publisher_at c.args.g.now c.args.self.now.number) (next_seq c.args.self.now) (Offers c.args.object.now)
packed c = search rules

shaped : (c : goal.In_ok-sync) → c.of.result ≡ shape_of_segments (length c.args.object.now.contents)
shaped c =
    c.of.ensures.shape
    ∙ ap shape_of_segments
    (sym (length-map c.contents.result.now (λ v. v.items))
    ∙ ap (λ (l : List (List ℕ)). length l) c.contents.ensures.same)

named : (c : goal.In_ok-sync) → c.in_ok-clone.field-0 ≡ c.args.object.now.name
named c = search rules

pub returns-clause-prepared : goal.returns-clause-prepared
returns-clause-prepared c =
    let number = ap (λ (a : MemberState). a.number) c.self.view_is in
    let known = ap (λ (a : MemberState). length a.known) c.self.view_is in
    let inside : c.args.self.now.number < length c.args.g.now.members.names =
    omega (arith, c.self.invariant.member_state.member, number, known, c.requires.group) in
    let low : next_seq c.args.self.now < 2 ^ 16 = omega (arith, c.requires.numbers) in
    record {
      packed = packed c;
      parts =
          packets_are (publisher_at c.args.g.now c.args.self.now.number) (next_seq c.args.self.now)
          (is_publisher c.args.g.now c.args.self.now.number c.cite_soundness.ensures inside)
          low (Offers c.args.object.now)
          c.name-2.ensures.within _ (λ i. Object (shaped c i) (named c i)) _ (packed c);
      synced = c.in_ok-sync.ensures;
    }
