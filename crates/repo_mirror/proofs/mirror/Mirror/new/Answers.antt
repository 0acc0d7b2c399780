use Rattle.std.proofs.Common.{◌≡◌, ◌∙◌, ℕ, length, sym, ap, subst, arith}
use Rattle.std.proofs.lemmas.List.{length-replicate}
use Rattle.std.proofs.lemmas.List.Elements.{All-nil}
use Rattle.repo_holdings.specs.HoldingsState.{HoldingsState}
use Rattle.repo_mirror.specs.Asked.{asked_numbers}
use Rattle.repo_mirror.specs.PacketsFor.{IsPacketFor, ArePacketsFor}
use Rattle.repo_mirror.proofs.AskedLemmas.{asked_none}
use Rattle.repo_mirror.proofs.mirror.Mirror.new.Goals as goal

pub invariant_of-result : goal.invariant_of-result
invariant_of-result c =
    let n : ℕ = c.args.members in
    let zero_number : ℕ = 0 in
    let known = c.in_ok-new.ensures in
    let held = c.in_ok-new-2.ensures in
    let wide : length c.in_ok-new.field-0 ≡ n = ap length known ∙ length-replicate n zero_number in
    record {
      few = omega (arith, wide, c.requires);
      known =
          ap (λ (h : HoldingsState). h.known) held
          ∙ sym (ap (asked_numbers c.args.pattern.publisher 0) known ∙ asked_none c.args.pattern.publisher 0 n);
      claims = ap (λ (h : HoldingsState). h.claims) held;
      packets =
          subst (λ (h : HoldingsState). ArePacketsFor c.args.pattern h.store) (sym held)
          (All-nil (IsPacketFor c.args.pattern));
    }
