-- Nobody lacks anything but what wasn't settled, whatever happens.
use Rattle.std.proofs.Common.{◌≡◌, ℕ, ◌<◌, List, map, length, get_or, set, Option, Some, None, option_map, sym, ap, ◌∙◌}
use Rattle.std.proofs.Common.{true, subst, arith}
use Rattle.std.proofs.lemmas.List.{length-map, set-get_or, get_or_default}
use Rattle.repo_plan.specs.declared.part.Part.{Part}
use Rattle.repo_plan.specs.Parts.{Pair, pair_of}
use Rattle.repo_object.specs.Objects.{Post}
use Rattle.repo_process.specs.Processes.{Process, BlockState}
use Rattle.repo_process.specs.Processes.BlockState.{Whole}
use Rattle.group_model.specs.Events.{Response}
use Rattle.group_model.specs.Member.{Member}
use Rattle.group_model.specs.World.{World, Tally, Environment, someone_holds}
use Rattle.group_model.specs.Sound.{IsSoundGroup}
use Rattle.group_model.specs.Steps.{after_response, after_publish, after_block, next_seq_at, settled_member}
use Rattle.repo_member.specs.MemberState.{MemberState}
use Rattle.repo_member.specs.InGroup.{in_group}
use Rattle.repo_mirror.specs.MirrorState.{MirrorState}
use Rattle.bench_world.specs.declared.touched.Touched.{Touched}
use Rattle.bench_world.specs.declared.unsettled.Unsettled.{Unsettled}
use Rattle.bench_world.specs.Settling.{ArePartlySettled}
use Rattle.bench_world.specs.Touching.{touches, NotesAny}
use Rattle.bench_world.specs.Unsettled.{MirrorsLackNone, NobodyLacks, NotesBoth}
use Rattle.bench_world.specs.Worlds.{GroupState, nobody, state_at, in_groups, world_of}
use Rattle.bench_world.proofs.Lacking.{Spreads, none_lacks, same_at_spreads, each_same_spreads, settled_lacks}
use Rattle.bench_world.proofs.Lacking.{gathered_someone, partly_spreads}
use Rattle.bench_world.proofs.MirrorsLacking.{mirrors_lack}
use Rattle.bench_world.proofs.Spreading.{any_more, came_spreads, publish_spreads, block_spreads}

-- Where what is noted is all that members gain, nobody lacks anything else.
pub nobody_lacks : (u later : Unsettled) (o : Option Pair) → NotesBoth u o later → (ms new : List Member)
    → ((n l : Touched) → NotesAny n o l → Spreads l ms new) → (mirrors : List MirrorState)
    → NobodyLacks u ms mirrors → NobodyLacks later new mirrors
nobody_lacks u later o notes ms new on mirrors all = record {
  members =
      none_lacks u.members later.members (any_more u.members o later.members notes.members) ms new
      (on u.members later.members notes.members) all.members;
  mirrors =
      mirrors_lack u.mirrors later.mirrors (any_more u.mirrors o later.mirrors notes.mirrors) ms new
      (on u.mirrors later.mirrors notes.mirrors).no_more mirrors all.mirrors;
}

nothing_noted : (u : Unsettled) → NotesBoth u None u
nothing_noted u = record { members = λ q h. h; mirrors = λ q h. h }

-- Where a member goes on to store and hide the same, nobody lacks more.
pub same_lacks : (u : Unsettled) (mirrors : List MirrorState) (ms : List MemberState) (m : ℕ) → m < length ms
    → (old : MemberState) → old ≡ get_or ms m old → (b : MemberState) → b.store ≡ old.store → b.hidden ≡ old.hidden
    → NobodyLacks u (in_groups ms) mirrors → NobodyLacks u (in_groups (set ms m b)) mirrors
same_lacks u mirrors ms m there old old_is b stored hidden =
    nobody_lacks u u None (nothing_noted u) (in_groups ms) (in_groups (set ms m b))
    (λ n l notes. same_at_spreads l ms m there old old_is b stored hidden) mirrors

-- Where every member goes on to store and hide the same, nobody lacks more.
pub alike_lacks : (u : Unsettled) (mirrors : List MirrorState) (ms new : List MemberState) → length new ≡ length ms
    → ((j : ℕ) → j < length ms → (state_at new j).store ≡ (state_at ms j).store)
    → ((j : ℕ) → j < length ms → (state_at new j).hidden ≡ (state_at ms j).hidden)
    → NobodyLacks u (in_groups ms) mirrors → NobodyLacks u (in_groups new) mirrors
alike_lacks u mirrors ms new len stored hidden =
    nobody_lacks u u None (nothing_noted u) (in_groups ms) (in_groups new)
    (λ n l notes. each_same_spreads l ms new len stored hidden) mirrors

module _ (w : World) (group : IsSoundGroup w) (u : Unsettled) (mirrors : List MirrorState)
    (lacks : NobodyLacks u w.members mirrors) (new : List Member) where
  -- After a settle no member lacks anything, and no mirror more than before.
  pub all_settled_lack : (later : Unsettled) → later.mirrors ≡ u.mirrors
      → new ≡ map (settled_member w) w.members → NobodyLacks later new mirrors
  all_settled_lack later same is = record {
    members = settled_lacks w group later.members new is;
    mirrors =
        subst (λ (n : Touched). MirrorsLackNone n new mirrors) (sym same)
        (mirrors_lack u.mirrors u.mirrors (λ q h. h) w.members new
        (λ t h off. gathered_someone w group t (ap (λ (ms : List Member). someone_holds ms t) (sym is) ∙ h)) mirrors
        lacks.mirrors);
  }

  -- Where memory ran out, nobody lacks more than before.
  pub partly_settled_lack : ArePartlySettled w new → NobodyLacks u new mirrors
  partly_settled_lack part =
      nobody_lacks u u None (nothing_noted u) w.members new (λ n l notes. partly_spreads w group l new part) mirrors
      lacks

-- ---- events

-- Where a member is as it was, all are.
pub all_unchanged : (ms : List MemberState) (m : ℕ) → m < length ms → (old : MemberState) → old ≡ get_or ms m old
    → (b : MemberState) → b ≡ old → set ms m b ≡ ms
all_unchanged ms m there old old_is b same =
    ap (set ms m) (same ∙ old_is ∙ get_or_default ms m old nobody there) ∙ set-get_or ms m nobody

module _ (s : GroupState) (m : ℕ) (there : m < length s.members) where
  pub inside_too : m < length (in_groups s.members)
  inside_too = let long : length (in_groups s.members) ≡ length s.members = length-map s.members in_group in
      omega (arith, there, long)

  module _ (u : Unsettled) (lacks : NobodyLacks u (in_groups s.members) s.mirrors)
      (new : List MemberState) where
    -- What is received for a claim is noted.
    pub came_lacks : (later : Unsettled) (claim : Option Part) → NotesBoth u (option_map pair_of claim) later
        → (f : ℕ) (env : Environment) (tally : Tally) (o : Option Part) (k : Response) → claim ≡ o
        → in_groups new ≡ (after_response env (record (world_of s) { tally = tally }) m f o k).members
        → NobodyLacks later (in_groups new) s.mirrors
    came_lacks later claim notes f env tally o k same is =
        nobody_lacks u later (option_map pair_of claim) notes (in_groups s.members) (in_groups new)
        (λ n l noted.
        subst (Spreads l (in_groups s.members)) (sym is)
        (came_spreads l (record (world_of s) { tally = tally }) m inside_too env f o k n
        (subst (λ (x : Option Part). NotesAny n (option_map pair_of x) l) same noted)))
        s.mirrors lacks

    -- Nothing is noted where members gain only parts that someone held.
    pub nothing_lacks : (after : World) → in_groups new ≡ after.members
        → ((n : Touched) → Spreads n (in_groups s.members) after.members) → NobodyLacks u (in_groups new) s.mirrors
    nothing_lacks after is on =
        nobody_lacks u u None (nothing_noted u) (in_groups s.members) (in_groups new)
        (λ n l noted. subst (Spreads l (in_groups s.members)) (sym is) (on l)) s.mirrors lacks

    -- What is published is noted.
    pub published_lacks : (later : Unsettled) (seq : ℕ) → NotesBoth u (Some (m, seq)) later
        → (env : Environment) (post : Post) → seq ≡ next_seq_at (world_of s) m
        → in_groups new ≡ (after_publish env (world_of s) m post).members
        → NobodyLacks later (in_groups new) s.mirrors
    published_lacks later seq notes env post seq_is is =
        nobody_lacks u later (Some (m, seq)) notes (in_groups s.members) (in_groups new)
        (λ n l noted.
        subst (Spreads l (in_groups s.members)) (sym is)
        (publish_spreads l (world_of s) m inside_too env post
        (ap (λ (k : ℕ). touches l (m, k)) (sym seq_is) ∙ noted.there)))
        s.mirrors lacks

    -- What a block completes is noted.
    pub blocked_lacks : (later : Unsettled) (o : Option Pair) → NotesBoth u o later → (env : Environment)
        (process : ℕ) (x : BlockState)
        → ((n l : Touched) → NotesAny n o l → (p : Process) → x ≡ Whole p
        → touches l (m, next_seq_at (world_of s) m) ≡ true)
        → in_groups new ≡ (after_block env (world_of s) m process x).members
        → NobodyLacks later (in_groups new) s.mirrors
    blocked_lacks later o notes env process x noted is =
        nobody_lacks u later o notes (in_groups s.members) (in_groups new)
        (λ n l now.
        subst (Spreads l (in_groups s.members)) (sym is)
        (block_spreads l (world_of s) m inside_too env process x (noted n l now)))
        s.mirrors lacks
