use Rattle.std.proofs.Common.{◌≡◌, ◌⊎◌, inl, inr, ℕ, ◌+◌, ◌<◌, true, false, List, [], ◌∷◌, length, get_or, take, refl}
use Rattle.std.proofs.Common.{sym, ap, subst, ◌∙◌}
use Rattle.std.specs.Ordering.{is_lt, is_le}
use Rattle.std.specs.declared.cmp.Ordering.{Ordering}
use Rattle.std.specs.declared.cmp.Ordering.TheVariants.{Less, Equal, Greater}
use Rattle.std.proofs.lemmas.Bool.{true≢false}
use Rattle.std.proofs.lemmas.List.{take_more}
use Rattle.sorted_lists.specs.Members.{In}
use Rattle.sorted_lists.proofs.Orders.{greater_back}
use Rattle.sorted_lists.proofs.Sets.{in_append}
use Rattle.sorted_lists.proofs.RunOrder.{le_itself, le_trans}
use Rattle.sorted_lists.proofs.Members.{in_at}
use Rattle.repo_plan.specs.declared.part.Part.{Part}
use Rattle.repo_plan.specs.Parts.{part_cmp}
use Rattle.repo_plan.proofs.Orders.{exact_parts}
use Rattle.repo_store.specs.PacketTable.{Stored}
use Rattle.repo_store.specs.Indexes.{first_part}
use Rattle.repo_store.proofs.IndexLemmas.{PartLe}
use Rattle.repo_store.proofs.blocks.least_of.Goals as goal
use Rattle.repo_store.proofs.blocks.least_of.Goals.{then-is_lt, else-is_lt}

-- of two parts the first comes first, or the second does
first_le : (a b : Part) → is_lt (part_cmp a b) ≡ true → PartLe a b
first_le a b h = go (part_cmp a b) h where
  go : (o : Ordering) → is_lt o ≡ true → is_le o ≡ true
  go Less h = refl
  go Equal h = refl
  go Greater h = h

second_le : (a b : Part) → is_lt (part_cmp a b) ≡ false → PartLe b a
second_le a b h = go (part_cmp a b) refl h where
  go : (o : Ordering) → part_cmp a b ≡ o → is_lt o ≡ false → PartLe b a
  go Less e h = absurd (true≢false h)
  go Equal e h = subst (λ (t : Part). PartLe b t) (sym (exact_parts.same a b e)) (le_itself exact_parts b)
  go Greater e h = ap is_le (greater_back exact_parts.total a b e)

-- what comes before the least so far, and before one more, comes before all of them
least_too : (held : List Stored) (i : ℕ) (d least now : Stored) → i < length held → PartLe now.0 least.0
    → PartLe now.0 (get_or held i d).0 → ((h : Stored) → In h (take i held) → PartLe least.0 h.0)
    → (h : Stored) → In h (take (i + 1) held) → PartLe now.0 h.0
least_too held i d least now l le own so_far h j =
    elim (in_append (take i held) (get_or held i d ∷ []) h (subst (In h) (take_more held i d l) j)) [
      | inl k ↦ le_trans exact_parts now.0 least.0 h.0 le (so_far h k)
      | inr k ↦ elim (let k' : (h ≡ get_or held i d) ⊎ ⊥ = k in k') [
        | inl e ↦ subst (λ (o : Stored). PartLe now.0 o.0) (sym e) own
        | inr none ↦ absurd none
      ]
    ]

pub loop-next-preserved : goal.loop-next-preserved
loop-next-preserved c =
    let held = c.args.held.now in
    let i = c.loop-next.next-index in
    let none : Stored = (first_part, 0) in
    let old = c.loop-next.least in
    let next = get_or held i none in
    let l = c.loop-next-test.true in
    let Now = λ (least : Stored). In least held × ((h : Stored) → In h (take (i + 1) held) → PartLe least.0 h.0) in
    let less = sym (c.is_lt.ensures ∙ ap is_lt c.cmp.ensures) in
    elim c.if-is_lt.branch [
      | then-is_lt w ↦
          subst Now (sym w.least-is) (
            in_at held i none l,
            least_too held i none old next l (first_le next.0 old.0 (less ∙ w.if-is_lt.true))
                (le_itself exact_parts next.0) c.loop-next.invariant.1,
          )
      | else-is_lt w ↦
          subst Now (sym w.least-is) (
            c.loop-next.invariant.0,
            least_too held i none old old l (le_itself exact_parts old.0)
                (second_le next.0 old.0 (less ∙ w.if-is_lt.false)) c.loop-next.invariant.1,
          )
    ]
