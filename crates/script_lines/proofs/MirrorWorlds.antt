-- What the mirrors of a world are as their group sees them: what a fetch and a settle make of them.
use Rattle.std.proofs.Common.{◌≡◌, ◌∙◌, inl, inr, ℕ, zero, suc, ◌+◌, ◌<◌, Bool, true, false, not, cond, ◌&&◌, ◌||◌}
use Rattle.std.proofs.Common.{nat_le, List, [], ◌∷◌, length, map, set, take, refl, sym, ap, arith, ◌⊎◌}
use Rattle.std.proofs.Common.{◌≤◌, ◌++◌, get_or-set_same, append_assoc, append-nil, length-append}
use Rattle.std.specs.Prelude.{◌↔◌, ◌==◌, is_some, filter, slice_index, sum_by}
use Rattle.std.specs.Ordering.{eq_by_cmp}
use Rattle.std.proofs.lemmas.Bool.{and_parts, and_from, or_left, or_right, eqb-true, eqb-false, eq-eqb, le-leb}
use Rattle.std.proofs.lemmas.Bool.{leb-true, not-true}
use Rattle.std.proofs.lemmas.List.{length-map, map-set}
use Rattle.sorted_lists.specs.SortedList.{contains, Rises}
use Rattle.sorted_lists.proofs.RunOrder.{both_ways}
use Rattle.sorted_lists.proofs.SameSets.{not_after, same_sets}
use Rattle.sorted_lists.proofs.Sets.{contains-filter, eq_same, rises_filter}
use Rattle.repo_plan.specs.declared.part.Part.{Part}
use Rattle.repo_plan.specs.Parts.{part_cmp, pair_of, parent}
use Rattle.repo_plan.proofs.Known.{wanted_rises}
use Rattle.repo_plan.proofs.Orders.{exact_parts}
use Rattle.repo_watch.specs.declared.pattern.Pattern.{Pattern}
use Rattle.repo_watch.specs.Patterns.{is_publisher}
use Rattle.group_model.specs.Publications.{all_parts, shape_at}
use Rattle.group_model.specs.Member.{tries_of, with_each_tried, with_tries}
use Rattle.group_model.specs.World.{World, logs}
use Rattle.group_model.specs.Sound.{IsPublishedPart}
use Rattle.group_model.proofs.PublicLaws.{all_parts_rise, parts_are_those}
use Rattle.group_model.proofs.Tries.{rises_take, tried-at}
use Rattle.repo_mirror.specs.Asked.{is_for}
use Rattle.repo_mirror.specs.Mirrors.{IsPartAskedFor, IsWantedByMirror, mirror_holds, mirror_plan}
use Rattle.repo_mirror.specs.MirrorState.{MirrorState}
use Rattle.repo_mirror.specs.ConsistentMirrors.{IsConsistentMirror, mirror_in_group}
use Rattle.repo_member.specs.Groups.{GroupKeys}
use Rattle.script_lines.specs.RunStates.{IsSameGroup}
use Rattle.bench_world.specs.Worlds.{GroupState, world_of}
use Rattle.bench_world.specs.MirrorFetching.{HasFetched, mirror_asks, mirror_attempt, mirror_attempts, mirror_counts}
use Rattle.bench_world.specs.MirrorFetching.{mirror_gets, mirror_wants}
use Rattle.bench_world.specs.MirrorSteps.{mirror_at, no_mirror}
use Rattle.script_story.specs.Mirrors.{Mirroring, asked_by, attempts_for, attempts_made, counted, gets, is_asked_for}
use Rattle.script_story.specs.Mirrors.{is_wanted_by, mirror_as, mirror_begins, mirror_fetches, mirror_of, wanted_by}

-- ---- lists of mirrors

pub at_as : (mirrors : List MirrorState) (i : ℕ) → i < length mirrors
    → mirror_of (map mirror_as mirrors) i ≡ mirror_as (mirror_at mirrors i)
at_as [] i there = absurd (omega (arith, there))
at_as (m ∷ mirrors) zero there = refl
at_as (m ∷ mirrors) (suc i) there = at_as mirrors i (omega (arith, there))

-- One mirror has changed.
pub set_as : (mirrors after : List MirrorState) (i : ℕ) (m : MirrorState) (new : Mirroring) → after ≡ set mirrors i m
    → mirror_as m ≡ new → map mirror_as after ≡ set (map mirror_as mirrors) i new
set_as mirrors after i m new are is =
    ap (map mirror_as) are ∙ map-set mirror_as mirrors i m ∙ ap (set (map mirror_as mirrors) i) is

-- What was set at a place stands there.
pub set_again : (mirrors after : List MirrorState) (i : ℕ) (m : MirrorState) → i < length mirrors
    → after ≡ set mirrors i m → after ≡ set mirrors i (mirror_at after i)
set_again mirrors after i m there are =
    are ∙ ap (set mirrors i) (sym (ap (λ (ms : List MirrorState). mirror_at ms i) are
    ∙ get_or-set_same mirrors i m no_mirror there))

-- Each mirror has changed.
pub all_as : (old new : List MirrorState) (f : Mirroring → Mirroring) → length new ≡ length old
    → ((i : ℕ) → i < length old → mirror_as (mirror_at new i) ≡ f (mirror_as (mirror_at old i)))
    → map mirror_as new ≡ map f (map mirror_as old)
all_as [] [] f many each = refl
all_as [] (n ∷ new) f many each = absurd (omega (arith, many))
all_as (m ∷ old) [] f many each = absurd (omega (arith, many))
all_as (m ∷ old) (n ∷ new) f many each = λ i.
    each 0 (omega arith) i
    ∷ all_as old new f (omega (arith, many)) (λ k l. each (suc k) (omega (arith, l))) i

-- ---- what a mirror wants

module _ (g : GroupKeys) (w : World) (m : MirrorState) (consistent : IsConsistentMirror g (logs w) m) where
  -- A wanted part is one that there is.
  wanted_there : (t : Part) → IsWantedByMirror m.pattern (logs w) (mirror_in_group m) t → IsPublishedPart (logs w) t
  wanted_there t h =
      let no_more = consistent.vector.no_more t.publisher in
      let to_known = h.known.to_known in
      record {
        there = record { from_one = h.known.from_one; to_last = omega (arith, no_more, to_known) };
        counted = elim h.part [ inl z ↦ omega (arith, z) | inr s ↦ s.counted ];
      }

  wants_so : (t : Part) → IsWantedByMirror m.pattern (logs w) (mirror_in_group m) t
      → is_wanted_by (logs w) (mirror_as m) t ≡ true
  wants_so t h =
      and_from (nat_le t.seq (slice_index m.known t.publisher)) _ (le-leb t.seq _ h.known.to_known)
      (and_from (is_publisher m.pattern.publisher t.publisher) _ h.publisher
      (and_from (t.part == 0 || is_asked_for (logs w) (mirror_as m) t) _ asked
      (ap not h.not_held))) where
        asked : (t.part == 0 || is_asked_for (logs w) (mirror_as m) t) ≡ true
        asked = elim h.part [
          | inl z ↦ or_left (t.part == 0) (is_asked_for (logs w) (mirror_as m) t) (eq-eqb t.part 0 z)
          | inr s ↦
              or_right (t.part == 0) (is_asked_for (logs w) (mirror_as m) t)
              (and_from (mirror_holds (mirror_in_group m) (parent (shape_at (logs w) (pair_of t)) t))
              (is_for m.pattern (logs w) (pair_of t)) s.with_parent s.accepted)
        ]

  so_wants : (t : Part) → IsPublishedPart (logs w) t → is_wanted_by (logs w) (mirror_as m) t ≡ true
      → IsWantedByMirror m.pattern (logs w) (mirror_in_group m) t
  so_wants t there h =
      let a = and_parts (nat_le t.seq (slice_index m.known t.publisher)) _ h in
      let b = and_parts (is_publisher m.pattern.publisher t.publisher) _ a.1 in
      let c = and_parts (t.part == 0 || is_asked_for (logs w) (mirror_as m) t) _ b.1 in
      record {
        known = record { from_one = there.there.from_one; to_known = leb-true t.seq _ a.0 };
        publisher = b.0;
        part = part (t.part == 0) refl c.0;
        not_held = not-true (mirror_holds (mirror_in_group m) t) c.1;
      } where
        part : (z : Bool) → (t.part == 0) ≡ z → (z || is_asked_for (logs w) (mirror_as m) t) ≡ true
            → (t.part ≡ 0) ⊎ IsPartAskedFor m.pattern (logs w) (mirror_in_group m) t
        part true z asked = inl (eqb-true t.part 0 z)
        part false z asked =
            let above = eqb-false t.part 0 z in
            let both =
            and_parts (mirror_holds (mirror_in_group m) (parent (shape_at (logs w) (pair_of t)) t))
            (is_for m.pattern (logs w) (pair_of t)) asked in
            inr (record {
              from_one = omega (arith, above);
              counted = there.counted;
              with_parent = both.0;
              accepted = both.1;
            })

  -- The plan's wanted parts are those of all parts that the mirror wants.
  pub wanted_as : ((t : Part) → (contains part_cmp (mirror_wants w m) t ≡ true)
      ↔ IsWantedByMirror m.pattern (logs w) (mirror_in_group m) t)
      → wanted_by w (mirror_as m) ≡ mirror_wants w m
  wanted_as wants =
      same_sets exact_parts (wanted_by w (mirror_as m)) (mirror_wants w m)
      (rises_filter exact_parts.total (is_wanted_by (logs w) (mirror_as m)) (all_parts (logs w))
      (all_parts_rise (logs w)))
      (wanted_rises (mirror_plan m.pattern (logs w) (mirror_in_group m))) (λ t.
      contains-filter exact_parts (is_wanted_by (logs w) (mirror_as m)) (all_parts (logs w)) t
      ∙ both_ways (is_wanted_by (logs w) (mirror_as m) t && contains part_cmp (all_parts (logs w)) t)
      (contains part_cmp (mirror_wants w m) t)
      (λ h.
      let both = and_parts (is_wanted_by (logs w) (mirror_as m) t) _ h in
      (wants t).1 (so_wants t ((parts_are_those (logs w) t).0 both.1) both.0))
      (λ h.
      let wanted = (wants t).0 h in
      and_from (is_wanted_by (logs w) (mirror_as m) t) _ (wants_so t wanted)
      ((parts_are_those (logs w) t).1 (wanted_there t wanted))))

-- ---- how often parts were tried

tried_at : (more : Part → ℕ) (ts : List Part) (es : List (Part × ℕ)) (u : Part) → Rises part_cmp ts
    → tries_of (with_each_tried more ts es) u ≡ tries_of es u + cond (contains part_cmp ts u) (more u) 0
tried_at more [] es u r = omega arith
tried_at more (t ∷ ts) es u r =
    go (eq_by_cmp part_cmp u t) refl (tried_at more ts (with_tries t (more t) es) u r.1) where
      go : (b : Bool) → eq_by_cmp part_cmp u t ≡ b
          → tries_of (with_each_tried more ts (with_tries t (more t) es)) u
          ≡ tries_of (with_tries t (more t) es) u + cond (contains part_cmp ts u) (more u) 0
          → tries_of (with_each_tried more ts (with_tries t (more t) es)) u
          ≡ tries_of es u + cond (b || contains part_cmp ts u) (more u) 0
      go true e rest =
          let this : u ≡ t = eq_same exact_parts u t e in
          let none : contains part_cmp ts u ≡ false =
          ap (contains part_cmp ts) this ∙ not_after exact_parts t ts r.0 in
          let here : tries_of (with_tries t (more t) es) u ≡ tries_of es t + more t =
          tried-at t (more t) es u ∙ ap (λ (b : Bool). cond b (tries_of es t + more t) (tries_of es u)) e in
          rest ∙ ap (λ (b : Bool). tries_of (with_tries t (more t) es) u + cond b (more u) 0) none
          ∙ (let same : tries_of (with_tries t (more t) es) u + 0 ≡ tries_of (with_tries t (more t) es) u =
          omega arith in same)
          ∙ here ∙ ap (λ (x : Part). tries_of es x + more x) (sym this)
      go false e rest =
          rest ∙ ap (λ (n : ℕ). n + cond (contains part_cmp ts u) (more u) 0)
          (tried-at t (more t) es u ∙ ap (λ (b : Bool). cond b (tries_of es t + more t) (tries_of es u)) e)

-- ---- a fetch

module _ (passes : ℕ → ℕ → ℕ → ℕ → ℕ → ℕ → Bool) (g : GroupKeys) (w : World) (i tries loss : ℕ) (old new : MirrorState)
    (consistent : IsConsistentMirror g (logs w) old) (h : HasFetched passes w i tries loss old new) where
  pub asked_as : asked_by w (mirror_as old) ≡ mirror_asks w old
  asked_as = ap (take 4096) (wanted_as g w old consistent h.wants)

  pub gets_as : gets passes w i tries loss (mirror_as old) ≡ mirror_gets passes w i tries loss old
  gets_as = ap (filter (λ t. is_some (mirror_attempt passes w i tries loss old t))) asked_as

  pub made_as : sum_by (mirror_attempts passes w i tries loss old) (mirror_asks w old)
      ≡ attempts_made passes w i tries loss (mirror_as old)
  made_as = ap (sum_by (mirror_attempts passes w i tries loss old)) (sym asked_as)

  counted_as : counted passes w i tries loss (mirror_as old) ≡ mirror_counts passes w i tries loss old
  counted_as =
      ap (filter (λ t. is_for old.pattern (logs w) (pair_of t)
      || not (is_some (mirror_attempt passes w i tries loss old t)))) asked_as

  counted_rise : Rises part_cmp (mirror_counts passes w i tries loss old)
  counted_rise =
      rises_filter exact_parts.total
      (λ t. is_for old.pattern (logs w) (pair_of t) || not (is_some (mirror_attempt passes w i tries loss old t)))
      (mirror_asks w old)
      (rises_take 4096 (mirror_wants w old) (wanted_rises (mirror_plan old.pattern (logs w) (mirror_in_group old))))

  holds_as : (t : Part) → mirror_holds (mirror_in_group new) t
      ≡ (contains part_cmp (gets passes w i tries loss (mirror_as old)) t || mirror_holds (mirror_in_group old) t)
  holds_as t =
      h.held t ∙ ap (λ (ts : List Part). contains part_cmp ts t || mirror_holds (mirror_in_group old) t) (sym gets_as)

  tries_as : (t : Part) → tries_of new.attempts t
      ≡ tries_of old.attempts t + cond (contains part_cmp (counted passes w i tries loss (mirror_as old)) t)
      (attempts_for passes w i tries loss (mirror_as old) t) 0
  tries_as t =
      ap (λ (es : List (Part × ℕ)). tries_of es t) h.tried
      ∙ tried_at (mirror_attempts passes w i tries loss old) (mirror_counts passes w i tries loss old) old.attempts t
      counted_rise
      ∙ ap (λ (ts : List Part). tries_of old.attempts t
      + cond (contains part_cmp ts t) (mirror_attempts passes w i tries loss old t) 0) (sym counted_as)

  pub fetched_as : mirror_as new ≡ mirror_fetches passes w i tries loss (mirror_as old)
  fetched_as = λ k. record {
    pattern = h.pattern k;
    known = h.known k;
    holds = λ t. holds_as t k;
    tries = λ t. tries_as t k;
  }

-- ---- the beginning

-- The mirrors so far, in a group of other members, before anything has happened.
pub begin_again : (n m : ℕ) (patterns : List Pattern)
    → map (mirror_begins m) patterns
    ≡ map (λ (x : Mirroring). mirror_begins m x.pattern) (map (mirror_begins n) patterns)
begin_again n m [] = refl
begin_again n m (p ∷ patterns) = ap (λ (ms : List Mirroring). mirror_begins m p ∷ ms) (begin_again n m patterns)

-- In the world that begins are the mirrors of `all` patterns except those of `rest`, which are still to be added.
pub record HasBegun (keys : GroupKeys) (begun : World) (all rest : List Pattern) (s : GroupState) : Type 0 where
  pub world : world_of s ≡ begun
  pub same_keys : s.keys ≡ keys
  pub steps : s.steps ≡ 0
  pub mirrors : map mirror_as s.mirrors ++ map (mirror_begins (length keys.members.names)) rest
      ≡ map (mirror_begins (length keys.members.names)) all
  pub few : length s.mirrors + length rest ≤ 4

module _ (keys : GroupKeys) (begun : World) (all : List Pattern) where
  pub begun_none : (s : GroupState) → world_of s ≡ begun → s.keys ≡ keys → s.steps ≡ 0 → s.mirrors ≡ []
      → length all ≤ 4 → HasBegun keys begun all all s
  begun_none s world same steps none few = record {
    world = world;
    same_keys = same;
    steps = steps;
    mirrors = ap (λ (ms : List MirrorState). map mirror_as ms
        ++ map (mirror_begins (length keys.members.names)) all) none;
    few = omega (arith, few, ap (λ (ms : List MirrorState). length ms) none);
  }

  pub begun_more : (s next : GroupState) (p : Pattern) (rest later : List Pattern) → HasBegun keys begun all rest s
      → rest ≡ p ∷ later → IsSameGroup s next s.steps
      → map mirror_as next.mirrors
      ≡ map mirror_as s.mirrors ++ mirror_begins (length s.keys.members.names) p ∷ []
      → HasBegun keys begun all later next
  begun_more s next p rest later h first same mirrors =
      let n : ℕ = length keys.members.names in
      let here : map mirror_as next.mirrors ≡ map mirror_as s.mirrors ++ mirror_begins n p ∷ [] =
      mirrors ∙ ap (λ (k : GroupKeys). map mirror_as s.mirrors ++ mirror_begins (length k.members.names) p ∷ [])
      h.same_keys in
      let more : length next.mirrors ≡ length s.mirrors + 1 =
      sym (length-map next.mirrors mirror_as) ∙ ap (λ (ms : List Mirroring). length ms) mirrors
      ∙ length-append (map mirror_as s.mirrors) (mirror_begins (length s.keys.members.names) p ∷ [])
      ∙ ap (λ (k : ℕ). k + 1) (length-map s.mirrors mirror_as) in
      let left : length rest ≡ length (p ∷ later) = ap (λ (ps : List Pattern). length ps) first in
      record {
        world = same.world ∙ h.world;
        same_keys = same.keys ∙ h.same_keys;
        steps = same.steps ∙ h.steps;
        mirrors = ap (λ (ms : List Mirroring). ms ++ map (mirror_begins n) later) here
            ∙ append_assoc (map mirror_as s.mirrors) (mirror_begins n p ∷ []) (map (mirror_begins n) later)
            ∙ ap (λ (ps : List Pattern). map mirror_as s.mirrors ++ map (mirror_begins n) ps) (sym first) ∙ h.mirrors;
        few = omega (arith, more, left, h.few);
      }

  pub begun_all : (s : GroupState) → HasBegun keys begun all [] s
      → map mirror_as s.mirrors ≡ map (mirror_begins (length keys.members.names)) all
  begun_all s h = sym (append-nil (map mirror_as s.mirrors)) ∙ h.mirrors
