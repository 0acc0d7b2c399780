-- What is noted of a mirror is what the run says.
use Rattle.std.proofs.Common.{◌≡◌, ◌∙◌, ◌<◌, ◌↔◌, ℕ, Bool, true, false, ◌&&◌, ◌||◌, List, None, length, map}
use Rattle.std.proofs.Common.{refl, sym, ap, subst, arith}
use Rattle.std.specs.Prelude.{◌==◌}
use Rattle.std.proofs.lemmas.Bool.{and_from, and_parts, or_left, true≢false}
use Rattle.sorted_lists.specs.SortedList.{contains, keys}
use Rattle.sorted_lists.proofs.RunOrder.{both_ways}
use Rattle.sorted_lists.proofs.SameSets.{same_sets}
use Rattle.sorted_lists.proofs.Sets.{contains-filter, rises_filter}
use Rattle.repo_plan.specs.declared.part.Part.{Part}
use Rattle.repo_plan.specs.Parts.{pair_cmp, pair_of, part_cmp}
use Rattle.repo_plan.specs.Plan.{wanted}
use Rattle.repo_plan.proofs.Known.{contains-wanted}
use Rattle.repo_plan.proofs.Orders.{exact_parts}
use Rattle.repo_catalog.specs.declared.entry.Entry.{Entry}
use Rattle.repo_holdings.specs.Listed.{member_catalogue}
use Rattle.group_model.specs.Publications.{all_parts}
use Rattle.group_model.specs.Sound.{IsPublishedPart}
use Rattle.group_model.specs.World.{World, logs}
use Rattle.group_model.proofs.PublicLaws.{all_parts_rise, parts_are_those}
use Rattle.repo_member.specs.Groups.{GroupKeys}
use Rattle.repo_member.specs.InGroup.{AreLogs}
use Rattle.repo_mirror.specs.Asked.{is_for}
use Rattle.repo_mirror.specs.Mirrors.{IsWantedByMirror, mirror_holds}
use Rattle.repo_mirror.specs.MirrorState.{MirrorState, fetch_plan}
use Rattle.repo_mirror.specs.ConsistentMirrors.{IsConsistentMirror, mirror_in_group}
use Rattle.repo_mirror.proofs.PublicLaws.{mirrors_list_alike, mirrors_plan_alike, mirrors_want_alike}
use Rattle.bench_world.specs.Worlds.{GroupState, IsConsistentState, world_of}
use Rattle.bench_world.specs.MirrorFetching.{mirror_wants}
use Rattle.bench_world.specs.MirrorSteps.{mirror_at, no_mirror}
use Rattle.script_story.specs.Mirrors.{Mirroring, mirror_as, mirror_of, mirrored_entries, wanted_by}
use Rattle.script_lines.proofs.MirrorWorlds.{at_as, wanted_as}
use Rattle.lab_trace.specs.declared.values.Figures.{Figures}
use Rattle.lab_trace.specs.SameValues.{values_of}
use Rattle.lab_trace.specs.StateNotes.{kept_by, mirror_figures, mirror_values}

module _ (g : GroupKeys) (w : World) (m : MirrorState) (are : AreLogs g (logs w))
    (consistent : IsConsistentMirror g (logs w) m) where
  -- ---- the parts that it keeps

  abbrev keeps : Part → Bool
  keeps t = mirror_holds (mirror_in_group m) t && is_for m.pattern (logs w) (pair_of t)

  kept_there : (t : Part) → contains part_cmp (keys m.store) t ≡ true → IsPublishedPart (logs w) t
  kept_there t h =
      let k = consistent.sound.kept t h in
      let no_more = consistent.vector.no_more t.publisher in
      let to_known = k.known.to_known in
      record {
        there = record { from_one = k.known.from_one; to_last = omega (arith, no_more, to_known) };
        counted = k.counted;
      }

  -- What it passed over isn't kept.
  stored : (t : Part) → keeps t ≡ true → contains part_cmp (keys m.store) t ≡ true
  stored t h =
      let both = and_parts (mirror_holds (mirror_in_group m) t) _ h in
      go (contains part_cmp (keys m.store) t) refl both.0 both.1 where
        go : (b : Bool) → contains part_cmp (keys m.store) t ≡ b
            → (b || (t.part == 0 && contains pair_cmp m.passed (pair_of t))) ≡ true
            → is_for m.pattern (logs w) (pair_of t) ≡ true → b ≡ true
        go true e held kept = refl
        go false e held kept =
            let passed = and_parts (t.part == 0) _ held in
            let not = (consistent.sound.passed (pair_of t) passed.1).not_accepted in
            absurd (true≢false (sym kept ∙ not))

  keeps_stored : (t : Part) → contains part_cmp (keys m.store) t ≡ true → keeps t ≡ true
  keeps_stored t h =
      and_from (mirror_holds (mirror_in_group m) t) _ (or_left (contains part_cmp (keys m.store) t) _ h)
      (consistent.sound.kept t h).accepted

  kept_are : kept_by w (mirror_as m) ≡ keys m.store
  kept_are =
      same_sets exact_parts (kept_by w (mirror_as m)) (keys m.store)
      (rises_filter exact_parts.total keeps (all_parts (logs w)) (all_parts_rise (logs w)))
      consistent.stored.in_order (λ t.
      contains-filter exact_parts keeps (all_parts (logs w)) t
      ∙ both_ways (keeps t && contains part_cmp (all_parts (logs w)) t) (contains part_cmp (keys m.store) t)
      (λ h. stored t (and_parts (keeps t) _ h).0)
      (λ h. and_from (keeps t) _ (keeps_stored t h) ((parts_are_those (logs w) t).1 (kept_there t h))))

  pub kept_count : length (fetch_plan m).held ≡ length (kept_by w (mirror_as m))
  kept_count = ap (λ (ts : List Part). length ts) (sym kept_are)

  -- ---- the parts that it wants

  wants_those : (t : Part) → (contains part_cmp (mirror_wants w m) t ≡ true)
      ↔ IsWantedByMirror m.pattern (logs w) (mirror_in_group m) t
  wants_those t =
      let same : contains part_cmp (mirror_wants w m) t ≡ contains part_cmp (wanted (fetch_plan m)) t =
      ap (λ p. contains part_cmp (wanted p) t) (sym (mirrors_plan_alike g (logs w) m are consistent)) in
      let is = contains-wanted (fetch_plan m) t in
      let so = mirrors_want_alike g (logs w) m t are consistent in
      (λ h. so.0 (sym is ∙ sym same ∙ h), λ h. same ∙ is ∙ so.1 h)

  pub wanted_are : wanted (fetch_plan m) ≡ wanted_by w (mirror_as m)
  wanted_are =
      ap wanted (mirrors_plan_alike g (logs w) m are consistent) ∙ sym (wanted_as g w m consistent wants_those)

  -- ---- the entries that it lists

  pub listed_are : member_catalogue m.store ≡ mirrored_entries w (mirror_as m)
  listed_are = mirrors_list_alike g (logs w) m are consistent

-- The mirror as the run has it.
shown_as : (s : GroupState) (i : ℕ) (m : MirrorState) → i < length s.mirrors → m ≡ mirror_at s.mirrors i
    → mirror_as m ≡ mirror_of (map mirror_as s.mirrors) i
shown_as s i m there is = ap mirror_as is ∙ sym (at_as s.mirrors i there)

pub mirrors_figures : (s : GroupState) (i : ℕ) (m : MirrorState) (figures : Figures) → IsConsistentState s
    → i < length s.mirrors → m ≡ mirror_at s.mirrors i → figures.timer ≡ None
    → figures.counts.holds ≡ length (fetch_plan m).held → figures.counts.wants ≡ length (wanted (fetch_plan m))
    → figures.counts.lists ≡ length (member_catalogue m.store)
    → figures ≡ mirror_figures (world_of s) (mirror_of (map mirror_as s.mirrors) i)
mirrors_figures s i m figures consistent there is timer held wants lists =
    let w : World = world_of s in
    let its : IsConsistentMirror s.keys (logs w) m =
    subst (IsConsistentMirror s.keys (logs w)) (sym is) (consistent.mirrors i no_mirror there) in
    let shown : mirror_as m ≡ mirror_of (map mirror_as s.mirrors) i = shown_as s i m there is in
    λ k. record {
      timer = timer k;
      counts = record {
        holds = (held ∙ kept_count s.keys w m consistent.are its
            ∙ ap (λ (x : Mirroring). length (kept_by w x)) shown) k;
        wants = (wants ∙ ap (λ (ts : List Part). length ts) (wanted_are s.keys w m consistent.are its)
            ∙ ap (λ (x : Mirroring). length (wanted_by w x)) shown) k;
        lists = (lists ∙ ap (λ (es : List Entry). length es) (listed_are s.keys w m consistent.are its)
            ∙ ap (λ (x : Mirroring). length (mirrored_entries w x)) shown) k;
      };
    }

-- The values that a note says of a mirror are those of the run.
pub mirrors_values_are : (s : GroupState) (i : ℕ) (m : MirrorState) (known : List ℕ) (figures : Figures)
    → i < length s.mirrors → m ≡ mirror_at s.mirrors i → known ≡ m.known
    → figures ≡ mirror_figures (world_of s) (mirror_of (map mirror_as s.mirrors) i)
    → values_of known figures ≡ mirror_values (world_of s) (map mirror_as s.mirrors) i
mirrors_values_are s i m known figures there is knows are =
    let at = knows ∙ ap (λ (x : Mirroring). x.known) (shown_as s i m there is) in
    λ k. values_of (at k) (are k)
