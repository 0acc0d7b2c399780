use Rattle.std.proofs.Common.{◌≤◌, List, ℕ, length, ap, arith}
use Rattle.std.proofs.lemmas.List.Elements.{All-map, All-weaker}
use Rattle.repo_object.specs.Objects.{IsContent}
use Rattle.repo_process.specs.Processes.{Process}
use Rattle.repo_process.proofs.InsideLemmas.{items}
use Rattle.repo_process.proofs.insertion.Insertion.reopen.Goals as goal

pub invariant_of-self : goal.invariant_of-self
invariant_of-self c =
    let is = c.self.invariant in
    let contents = c.args.contents.items in
    record {
      name = is.name;
      named = is.named;
      order = is.order;
      few = is.few;
      places =
          λ h. omega (
            arith,
            c.requires.all,
            ap (λ (p : Process). p.last) c.self.view_is,
            ap (λ (p : Process). p.first) c.self.view_is,
          );
      emptied = λ h. absurd cc;
      contents =
          All-map (λ (octets : List ℕ). length octets ≤ 8000) items contents
          (All-weaker (λ v. IsContent v.items) (λ v. length v.items ≤ 8000) (λ v h. h.1) contents c.requires.contents);
    }
