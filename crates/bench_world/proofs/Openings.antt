-- A world in which nothing has happened.
use Rattle.std.proofs.Common.{◌≡◌, ℕ, suc, ◌+◌, ◌<◌, List, [], ◌∷◌, ◌++◌, map, length, replicate, None}
use Rattle.std.proofs.Common.{refl, sym, ap, ◌∙◌, subst, arith}
use Rattle.std.proofs.lemmas.List.{length-map, map-append, get_or-map}
use Rattle.svs_sync.specs.Suppression.{periodic}
use Rattle.sorted_lists.specs.Range.{numbers_from}
use Rattle.sorted_lists.proofs.Ranges.{length-numbers, number_at}
use Rattle.repo_object.specs.Objects.{Post}
use Rattle.bench_net.specs.SentList.{SentPacket}
use Rattle.group_model.specs.Publications.{Logs}
use Rattle.group_model.specs.Member.{Member}
use Rattle.group_model.specs.World.{Tally, logs_of, initial_world}
use Rattle.group_model.specs.Limits.{IsWithinSteps}
use Rattle.group_model.proofs.PublicLaws.{within_initial}
use Rattle.repo_holdings.proofs.ContentLemmas.{numbers_last}
use Rattle.repo_member.specs.Groups.{GroupKeys, IsGroup}
use Rattle.repo_member.specs.MemberState.{MemberState}
use Rattle.repo_member.specs.InGroup.{in_group, AreLogs}
use Rattle.repo_member.specs.ConsistentMembers.{IsConsistentMember}
use Rattle.repo_member.proofs.PublicLaws.{logs_begin, begins_consistent}
use Rattle.bench_world.specs.Worlds.{IsConsistentState, nobody, state_at, in_groups, logs_around, world_of, sync_in}
use Rattle.bench_world.specs.Worlds.{drawing}
use Rattle.bench_world.specs.Worlds.{begun_one, begun_all}

-- ---- numbers

pub numbers_more : {A : Type 0} (f : ℕ → A) (n : ℕ) (made more : List A) (a : A) → made ≡ map f (numbers_from 0 n)
    → a ≡ f n → more ≡ made ++ a ∷ [] → more ≡ map f (numbers_from 0 (n + 1))
numbers_more f n made more a is one e =
    let last : 0 + n ≡ n = omega arith in
    let next : suc n ≡ n + 1 = omega arith in
    e ∙ ap (λ xs. xs ++ a ∷ []) is ∙ ap (λ b. map f (numbers_from 0 n) ++ b ∷ []) (one ∙ ap f (sym last))
    ∙ sym (map-append f (numbers_from 0 n) ((0 + n) ∷ []))
    ∙ ap (map f) (sym (numbers_last 0 n))
    ∙ ap (λ (k : ℕ). map f (numbers_from 0 k)) next

pub next_number : (n : ℕ) (made more : List ℕ) → made ≡ numbers_from 0 n → more ≡ made ++ n ∷ []
    → more ≡ numbers_from 0 (n + 1)
next_number n made more is e =
    let last : 0 + n ≡ n = omega arith in
    let next : suc n ≡ n + 1 = omega arith in
    e ∙ (λ i. is i ++ sym last i ∷ []) ∙ sym (numbers_last 0 n) ∙ ap (numbers_from 0) next

-- ---- logs

no_logs : (f : ℕ → Member) (xs : List ℕ) → ((x : ℕ) → (f x).log ≡ []) → logs_of (map f xs) ≡ replicate (length xs) []
no_logs f [] h = refl
no_logs f (x ∷ xs) h = let head = h x in let tail = no_logs f xs h in λ i. head i ∷ tail i

module _ (g : GroupKeys) (is : IsGroup g) (draw : ℕ → ℕ → ℕ) where
  begun_at : (j : ℕ) → j < length g.members.names
      → state_at (begun_all (length g.members.names) draw) j ≡ begun_one (length g.members.names) draw j
  begun_at j l =
      let long : length (numbers_from 0 (length g.members.names)) ≡ length g.members.names =
      length-numbers 0 (length g.members.names) in
      let z : 0 + j ≡ j = omega arith in
      get_or-map (begun_one (length g.members.names) draw) (numbers_from 0 (length g.members.names)) j 0 nobody
      (omega (arith, l, long))
      ∙ ap (begun_one (length g.members.names) draw) (number_at 0 (length g.members.names) j l ∙ z)

  many : length (begun_all (length g.members.names) draw) ≡ length g.members.names
  many =
      length-map (numbers_from 0 (length g.members.names)) (begun_one (length g.members.names) draw)
      ∙ length-numbers 0 (length g.members.names)

  in_groups_begun : (xs : List ℕ)
      → in_groups (map (begun_one (length g.members.names) draw) xs)
      ≡ map (λ j. in_group (begun_one (length g.members.names) draw j)) xs
  in_groups_begun [] = refl
  in_groups_begun (x ∷ xs) =
      ap (λ (ms : List Member). in_group (begun_one (length g.members.names) draw x) ∷ ms) (in_groups_begun xs)

  logs_begun : logs_around (begun_all (length g.members.names) draw) ≡ replicate (length g.members.names) []
  logs_begun =
      ap logs_of (in_groups_begun (numbers_from 0 (length g.members.names)))
      ∙ no_logs (λ j. in_group (begun_one (length g.members.names) draw j)) (numbers_from 0 (length g.members.names))
      (λ x. refl)
      ∙ ap (λ (k : ℕ). replicate k (let l : List Post = [] in l)) (length-numbers 0 (length g.members.names))

  pub opening_is : (ms : List MemberState) (sent : List SentPacket) → ms ≡ begun_all (length g.members.names) draw
      → sent ≡ []
      → world_of (record {
        keys = g;
        members = ms;
        sent = sent;
        time = 0;
        issued = [];
        tally = record { delivered = 0; attempts = 0; parts = 0; octets = 0 };
        steps = 0;
        mirrors = [];
      })
      ≡ initial_world (drawing draw) (length g.members.names)
  opening_is ms sent ms_are sent_is =
      let at : (j : ℕ) → 0 + periodic (draw j 0) ≡ periodic (draw j 0) = λ j. omega arith in
      let members : in_groups ms ≡ (initial_world (drawing draw) (length g.members.names)).members =
      ap in_groups ms_are ∙ in_groups_begun (numbers_from 0 (length g.members.names))
      ∙ (λ i. map (λ j. record (in_group (begun_one (length g.members.names) draw j)) {
        machine = record { members = length g.members.names; heard = None; deadline = at j i; draws = 1 };
      }) (numbers_from 0 (length g.members.names))) in
      let syncs : map sync_in sent ≡ [] = ap (map sync_in) sent_is in
      λ i. record {
        members = members i;
        sent = syncs i;
        time = 0;
        issued = [];
        tally = record { delivered = 0; attempts = 0; parts = 0; octets = 0 };
      }

  abbrev no_tally : Tally
  no_tally = record { delivered = 0; attempts = 0; parts = 0; octets = 0 }

  begun_state : IsConsistentState (record {
    keys = g;
    members = begun_all (length g.members.names) draw;
    sent = [];
    time = 0;
    issued = [];
    tally = no_tally;
    steps = 0;
    mirrors = [];
  })
  begun_state = record {
    are = subst (AreLogs g) (sym logs_begun) (logs_begin g is);
    numbers = λ j l.
        let m : j < length g.members.names = omega (arith, l, many) in ap (λ (a : MemberState). a.number)
        (begun_at j m);
    members = λ j l.
        let m : j < length g.members.names = omega (arith, l, many) in
        subst (λ (ls : Logs). IsConsistentMember g ls (state_at (begun_all (length g.members.names) draw) j))
        (sym logs_begun)
        (subst (IsConsistentMember g (replicate (length g.members.names) [])) (sym (begun_at j m))
        (begins_consistent g (length g.members.names) j 0 (draw j 0) m));
    sent = λ k d l. absurd (omega (arith, l));
    within =
        subst (IsWithinSteps 0) (sym (opening_is (begun_all (length g.members.names) draw) [] refl refl))
        (within_initial (drawing draw) (length g.members.names));
    steps = omega arith;
    mirrors = λ k d l. absurd (omega (arith, l));
    mirrors_tried = λ k d l. absurd (omega (arith, l));
    mirrors_few = omega arith;
  }

  pub initial_state : (ms : List MemberState) (sent : List SentPacket) → ms ≡ begun_all (length g.members.names) draw
      → sent ≡ [] → IsConsistentState (record {
        keys = g;
        members = ms;
        sent = sent;
        time = 0;
        issued = [];
        tally = record { delivered = 0; attempts = 0; parts = 0; octets = 0 };
        steps = 0;
        mirrors = [];
      })
  initial_state ms sent ms_are sent_is =
      subst (λ (as_ : List MemberState). IsConsistentState (record {
        keys = g;
        members = as_;
        sent = sent;
        time = 0;
        issued = [];
        tally = record { delivered = 0; attempts = 0; parts = 0; octets = 0 };
        steps = 0;
        mirrors = [];
      })) (sym ms_are)
      (subst (λ (ps : List SentPacket). IsConsistentState (record {
        keys = g;
        members = begun_all (length g.members.names) draw;
        sent = ps;
        time = 0;
        issued = [];
        tally = record { delivered = 0; attempts = 0; parts = 0; octets = 0 };
        steps = 0;
        mirrors = [];
      })) (sym sent_is) begun_state)
