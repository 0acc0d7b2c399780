-- The join of all members' vectors.
use Rattle.std.proofs.Common.{◌≡◌, inl, ℕ, suc, ◌+◌, ◌≤◌, ◌<◌, List, [], ◌∷◌, map, length, get_or, drop, drop-cons}
use Rattle.std.proofs.Common.{replicate, refl, sym, ap, ◌∙◌, arith}
use Rattle.std.proofs.lemmas.List.{drop_all}
use Rattle.svs_vector.specs.Vectors.{join, join_all}
use Rattle.svs_vector.proofs.JoinLemmas.{join-[], join_assoc, join_zeros}
use Rattle.group_model.proofs.Lists.{at_in}
use Rattle.group_model.proofs.Settles.{length_join_all}
use Rattle.sorted_lists.proofs.Sets.{from_map}
use Rattle.repo_member.specs.MemberState.{MemberState}
use Rattle.bench_world.specs.Worlds.{nobody, state_at}

abbrev pub knowns : List MemberState → List (List ℕ)
knowns members = map (λ (a : MemberState). a.known) members

unfolded : (v : List ℕ) (vs : List (List ℕ)) → join_all (v ∷ vs) ≡ join v (join_all vs)
unfolding join_all
unfolded v vs = refl

nothing_received : join_all [] ≡ []
unfolding join_all
nothing_received = refl

pub joined_width : (members : List MemberState) (n : ℕ) → 0 < length members
    → ((j : ℕ) → j < length members → length (state_at members j).known ≡ n) → length (join_all (knowns members)) ≡ n
joined_width [] n some wide = absurd (omega (arith, some))
joined_width (m ∷ ms) n some wide = length_join_all (knowns (m ∷ ms)) n m.known (inl refl) (λ v i.
    let r = from_map (λ (a : MemberState). a.known) (m ∷ ms) v i in
    let k = at_in (m ∷ ms) r.0 nobody r.1 in
    ap length (r.2 ∙ ap (λ (a : MemberState). a.known) k.2) ∙ wide k.0 k.1)

zeros_joined : (members : List MemberState) (n : ℕ) → n ≡ length members
    → ((j : ℕ) → j < length members → length (state_at members j).known ≡ length members)
    → join (replicate n 0) (join_all (knowns members)) ≡ join_all (knowns members)
zeros_joined [] n e wide = join_zeros n (join_all []) (omega (arith, e))
zeros_joined (m ∷ ms) n e wide =
    let long : length (join_all (knowns (m ∷ ms))) ≡ suc (length ms) =
    joined_width (m ∷ ms) (suc (length ms)) (omega arith) wide in
    join_zeros n (join_all (knowns (m ∷ ms))) (omega (arith, long, e))

pub all_begins : (members : List MemberState) (n : ℕ) (all : List ℕ) → n ≡ length members → all ≡ replicate n 0
    → ((j : ℕ) → j < length members → length (state_at members j).known ≡ length members)
    → join all (join_all (knowns (drop 0 members))) ≡ join_all (knowns members)
all_begins members n all e zeros wide =
    ap (λ (v : List ℕ). join v (join_all (knowns members))) zeros ∙ zeros_joined members n e wide

pub all_goes_on : (members : List MemberState) (i : ℕ) (item : MemberState) (all new : List ℕ) → i < length members
    → item ≡ get_or members i item → new ≡ join all item.known
    → join all (join_all (knowns (drop i members))) ≡ join_all (knowns members)
    → join new (join_all (knowns (drop (i + 1) members))) ≡ join_all (knowns members)
all_goes_on members i item all new l is e h =
    let n : suc i ≡ i + 1 = omega arith in
    let rest : drop i members ≡ item ∷ drop (i + 1) members =
    drop-cons members i item l
    ∙ ap (λ (k : ℕ). get_or members i item ∷ drop k members) n
    ∙ ap (λ (a : MemberState). a ∷ drop (i + 1) members) (sym is) in
    ap (λ (v : List ℕ). join v (join_all (knowns (drop (i + 1) members)))) e
    ∙ join_assoc all item.known (join_all (knowns (drop (i + 1) members)))
    ∙ ap (join all) (sym (unfolded item.known (knowns (drop (i + 1) members))))
    ∙ ap (λ (ms : List MemberState). join all (join_all (knowns ms))) (sym rest) ∙ h

pub all_ends : (members : List MemberState) (i : ℕ) (all : List ℕ) → length members ≤ i
    → join all (join_all (knowns (drop i members))) ≡ join_all (knowns members) → all ≡ join_all (knowns members)
all_ends members i all l h =
    sym (join-[] all)
    ∙ ap (join all) (sym nothing_received)
    ∙ ap (λ (ms : List MemberState). join all (join_all (knowns ms))) (sym (drop_all i members l))
    ∙ h

pub nobody_knows : (members : List MemberState) → length members ≤ 0 → join_all (knowns members) ≡ []
nobody_knows [] none = nothing_received
nobody_knows (m ∷ ms) none = absurd (omega (arith, none))

pub joined_short : (members : List MemberState)
    → ((j : ℕ) → j < length members → length (state_at members j).known ≡ length members)
    → length (join_all (knowns members)) ≤ length members
joined_short [] wide = let e : length (join_all []) ≡ 0 = ap length nothing_received in omega (arith, e)
joined_short (m ∷ ms) wide =
    let e : length (join_all (knowns (m ∷ ms))) ≡ suc (length ms) =
    joined_width (m ∷ ms) (suc (length ms)) (omega arith) wide in
    omega (arith, e)
