-- What the calls on mirrors make of them.
use Rattle.std.specs.Prelude.{ℕ, ◌+◌, Bool, List, [], Some, None, slice_index_or}
use Rattle.svs_vector.specs.Vectors.{join}
use Rattle.repo_holdings.specs.Taking.{Fetched}
use Rattle.repo_member.specs.MemberState.{MemberState}
use Rattle.repo_mirror.specs.MirrorState.{MirrorState, initial_mirror, mirror_holdings}
use Rattle.repo_mirror.specs.Passing.{mirror_takes}
use Rattle.bench_world.specs.Lending.{attempt_passes}
use Rattle.bench_world.specs.Gathering.{next_parts}
use Rattle.bench_world.specs.Fetching.{fetched_all}

-- How many mirrors a group has at most.
abbrev pub mirror_limit : ℕ
mirror_limit = 4

-- What is found under a number that no mirror has.
abbrev pub no_mirror : MirrorState
no_mirror = initial_mirror (record { publisher = None; prefix = [] }) 0

-- The mirror of a number, from 0 on.
abbrev pub mirror_at : List MirrorState → ℕ → MirrorState
mirror_at mirrors i = slice_index_or mirrors i no_mirror

-- The mirror after it hears the vector `received`.
abbrev pub mirror_learns : List ℕ → MirrorState → MirrorState
mirror_learns received m = record m { known = join m.known received }

-- The results of the parts that mirror `i` asks members for in a fetch. To the network it has the number 16 + `i`.
abbrev pub mirror_fetched : (ℕ → ℕ → ℕ → ℕ → ℕ → ℕ → Bool) → List MemberState → (i tries loss : ℕ) → MirrorState
    → List Fetched
mirror_fetched passes members i tries loss m =
    fetched_all (attempt_passes passes (16 + i) (Some loss)) members tries (mirror_holdings m)
    (next_parts None (mirror_holdings m))

-- The mirror after it takes the results of a fetch.
abbrev pub mirror_fetches : (ℕ → ℕ → ℕ → ℕ → ℕ → ℕ → Bool) → List MemberState → (i tries loss : ℕ) → MirrorState
    → MirrorState
mirror_fetches passes members i tries loss m = mirror_takes (mirror_fetched passes members i tries loss m) m
