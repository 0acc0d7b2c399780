use Rattle.std.proofs.Common.{◌≡◌, inl, inr, ℕ, ◌<◌, List, length, get_or, set, max, sym, ap, ◌∙◌, arith}
use Rattle.std.proofs.lemmas.Bool.{cases_eq}
use Rattle.std.proofs.lemmas.List.{ext_get_or, get_or-replicate, get_or-set_same, get_or-set_other, length-replicate}
use Rattle.std.proofs.lemmas.List.{length-set}
use Rattle.bench_world.proofs.numbers.vector_of.Goals as goal

-- One number more is raised from 0.
raised : (v : List ℕ) (i x : ℕ) → i < length v → get_or v i 0 ≡ 0 → get_or (set v i (max (get_or v i 0) x)) i 0 ≡ x
raised v i x inside none =
    let e : max (get_or v i 0) x ≡ x = omega (arith, none) in
    get_or-set_same v i (max (get_or v i 0) x) 0 inside ∙ e

pub loop-member-init : goal.loop-member-init
loop-member-init c = record {
  width = ap length c.in_ok-vector.ensures ∙ length-replicate (length c.args.numbers.now) 0;
  copied = λ k l. absurd (omega (arith, l));
  none =
      λ k from l. ap (λ (v : List ℕ). get_or v k 0) c.in_ok-vector.ensures
      ∙ get_or-replicate (length c.args.numbers.now) k 0 0 l;
}

pub raise-requires : goal.raise-requires
raise-requires c = omega (arith, c.loop-member-test.true, c.loop-member.invariant.width)

pub loop-member-preserved : goal.loop-member-preserved
loop-member-preserved c =
    let v = c.loop-member.vector in
    let i = c.loop-member.member in
    let x = get_or c.args.numbers.now i 0 in
    let inv = c.loop-member.invariant in
    let inside : i < length v = omega (arith, c.loop-member-test.true, inv.width) in
    record {
      width = ap length c.raise.ensures ∙ length-set v i (max (get_or v i 0) x) ∙ inv.width;
      copied = λ k l. ap (λ (w : List ℕ). get_or w k 0) c.raise.ensures ∙ (elim (cases_eq k i) [
        | inl same ↦
            ap (λ (n : ℕ). get_or (set v i (max (get_or v i 0) x)) n 0) same
            ∙ raised v i x inside (inv.none i (omega arith) c.loop-member-test.true)
            ∙ ap (λ (n : ℕ). get_or c.args.numbers.now n 0) (sym same)
        | inr other ↦
            get_or-set_other v i k (max (get_or v i 0) x) 0 other ∙ inv.copied k (omega (arith, l, other))
      ]);
      none = λ k from l. ap (λ (w : List ℕ). get_or w k 0) c.raise.ensures
          ∙ get_or-set_other v i k (max (get_or v i 0) x) 0 (λ same. omega (arith, same, from))
          ∙ inv.none k (omega (arith, from)) l;
    }

pub returns : goal.returns
returns c =
    let inv = c.loop-member.invariant in
    ext_get_or 0 c.loop-member.vector c.args.numbers.now inv.width (λ k l.
    inv.copied k (omega (arith, l, inv.width, c.loop-member-test.false, c.loop-member.auto.member-end)))
