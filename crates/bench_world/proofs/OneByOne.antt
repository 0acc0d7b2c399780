-- Members that change one after another.
use Rattle.std.proofs.Common.{◌≡◌, inl, inr, ℕ, ◌+◌, ◌≤◌, ◌<◌, List, [], ◌∷◌, ◌++◌, map, length, get_or, set, take, sym}
use Rattle.std.proofs.Common.{ap, ◌∙◌, arith}
use Rattle.std.proofs.lemmas.Bool.{cases_eq}
use Rattle.std.proofs.lemmas.List.{get_or-set_same, get_or-set_other, get_or_default, map-append, take_more}
use Rattle.bench_net.specs.SentList.{SentPacket}
use Rattle.repo_member.specs.Groups.{GroupKeys}
use Rattle.repo_member.specs.MemberState.{MemberState}
use Rattle.bench_world.specs.declared.sync_exchange.MemberSync.{MemberSync}
use Rattle.bench_world.specs.Worlds.{nobody, state_at, tells}
use Rattle.bench_world.specs.Settling.{sent_sync}

module _ (mid : List MemberState) (j : ℕ) (inside : j < length mid) (b : MemberState) where
  pub set_here : state_at (set mid j b) j ≡ b
  set_here = get_or-set_same mid j b nobody inside

  pub set_away : (i : ℕ) → (i ≡ j → ⊥) → state_at (set mid j b) i ≡ state_at mid i
  set_away i other = get_or-set_other mid j i b nobody other

  pub set_still : (begun : List MemberState) → ((i : ℕ) → j ≤ i → state_at mid i ≡ state_at begun i) → (i : ℕ) → j + 1
      ≤ i
      → state_at (set mid j b) i ≡ state_at begun i
  set_still begun still i l = set_away i (λ e. omega (arith, l, e)) ∙ still i (omega (arith, l))

  -- One more has changed as those before it.
  pub set_done : (begun : List MemberState) (f : ℕ → MemberState → MemberState) (old : MemberState) → old
      ≡ get_or mid j old
      → ((i : ℕ) → i < j → state_at mid i ≡ f i (state_at begun i))
      → ((i : ℕ) → j ≤ i → state_at mid i ≡ state_at begun i)
      → b ≡ f j old → (i : ℕ) → i < j + 1 → state_at (set mid j b) i ≡ f i (state_at begun i)
  set_done begun f old old_is done still e i l = elim (cases_eq i j) [
    | inl same ↦
        ap (state_at (set mid j b)) same ∙ set_here ∙ e
        ∙ ap (f j) (old_is ∙ get_or_default mid j old nobody inside ∙ still j (omega arith))
        ∙ ap (λ (k : ℕ). f k (state_at begun k)) (sym same)
    | inr other ↦ set_away i other ∙ done i (omega (arith, l, other))
  ]

-- The list has the sync Interest of one more member.
pub received_pushed : (g : GroupKeys) (syncs more : List MemberSync) (one : MemberSync) (members : List MemberState)
    (i : ℕ) (item : MemberState)
    → i < length members → item ≡ get_or members i item → more ≡ syncs ++ one ∷ [] → sent_sync one ≡ tells g item
    → map sent_sync syncs ≡ map (tells g) (take i members) → map sent_sync more
    ≡ map (tells g) (take (i + 1) members)
received_pushed g syncs more one members i item l is e same before =
    ap (map sent_sync) e ∙ map-append sent_sync syncs (one ∷ [])
    ∙ ap (λ (ps : List SentPacket). ps ++ sent_sync one ∷ []) before
    ∙ ap (λ (p : SentPacket). map (tells g) (take i members) ++ p ∷ []) same
    ∙ sym (map-append (tells g) (take i members) (item ∷ []))
    ∙ ap (map (tells g)) (ap (λ (a : MemberState). take i members ++ a ∷ []) is ∙ sym (take_more members i item l))
