-- What a mirror fetches from members, as the model has it.
use Rattle.std.specs.Prelude.{ℕ, ◌≡◌, ◌↔◌, ◌+◌, Bool, true, not, ◌||◌, List, Option, None, is_some, unwrap_or, filter}
use Rattle.std.specs.Prelude.{find, take, length, sum_by, if◌then◌else◌}
use Rattle.sorted_lists.specs.SortedList.{contains}
use Rattle.sorted_lists.specs.Range.{numbers_from}
use Rattle.repo_plan.specs.declared.part.Part.{Part}
use Rattle.repo_plan.specs.Parts.{part_cmp, pair_of}
use Rattle.repo_plan.specs.Plan.{wanted}
use Rattle.group_model.specs.Member.{tries_of, with_each_tried}
use Rattle.group_model.specs.World.{World, logs, someone_holds}
use Rattle.group_model.specs.Steps.{job_limit}
use Rattle.repo_mirror.specs.Asked.{is_for}
use Rattle.repo_mirror.specs.Mirrors.{mirror_plan, mirror_holds, IsWantedByMirror}
use Rattle.repo_mirror.specs.MirrorState.{MirrorState}
use Rattle.repo_mirror.specs.ConsistentMirrors.{mirror_in_group}

-- The parts that a mirror wants, in order.
abbrev pub mirror_wants : World → MirrorState → List Part
mirror_wants w m = wanted (mirror_plan m.pattern (logs w) (mirror_in_group m))

-- The parts that a mirror asks for in a fetch: the least that it wants, at most `job_limit`.
abbrev pub mirror_asks : World → MirrorState → List Part
mirror_asks w m = take job_limit (mirror_wants w m)

-- A fetch of mirror `i`, with at most `tries` attempts at each part. To the network the mirror has the number 16 + `i`.
module _ (passes : ℕ → ℕ → ℕ → ℕ → ℕ → ℕ → Bool) (w : World) (i tries loss : ℕ) where
  -- The first of `tries` attempts at the part `t` that the network passes, if a member holds the part.
  abbrev pub mirror_attempt : MirrorState → Part → Option ℕ
  mirror_attempt m t =
      if someone_holds w.members t
      then find (λ n. passes (16 + i) t.publisher t.seq t.part (tries_of m.attempts t + n) loss) (numbers_from 1 tries)
      else None

  -- The parts that the mirror receives.
  abbrev pub mirror_gets : MirrorState → List Part
  mirror_gets m = filter (λ t. is_some (mirror_attempt m t)) (mirror_asks w m)

  -- How many attempts are made at the part `t`.
  abbrev pub mirror_attempts : MirrorState → Part → ℕ
  mirror_attempts m t = unwrap_or (mirror_attempt m t) tries

  -- The parts whose attempts are counted for later fetches: all but the received records of objects that the pattern
  -- doesn't accept. The mirror passes those over and never asks for them again.
  abbrev pub mirror_counts : MirrorState → List Part
  mirror_counts m =
      filter (λ t. is_for m.pattern (logs w) (pair_of t) || not (is_some (mirror_attempt m t)))
      (mirror_asks w m)

  -- The mirror wants just the parts that the model says, and holds its old parts and just those of the wanted ones that
  -- it received. The attempts of `mirror_counts` are counted. Its pattern and its vector are unchanged.
  pub record HasFetched (old new : MirrorState) : Type 0 where
    pub pattern : new.pattern ≡ old.pattern
    pub known : new.known ≡ old.known
    pub wants : (t : Part) → (contains part_cmp (mirror_wants w old) t ≡ true)
        ↔ IsWantedByMirror old.pattern (logs w) (mirror_in_group old) t
    pub held : (t : Part) → mirror_holds (mirror_in_group new) t
        ≡ (contains part_cmp (mirror_gets old) t || mirror_holds (mirror_in_group old) t)
    pub tried : new.attempts ≡ with_each_tried (mirror_attempts old) (mirror_counts old) old.attempts

  -- The counts `r`: how many parts are asked for, how many are received, and how many attempts are made.
  pub record AreMirrorCounts (m : MirrorState) (r : ℕ × ℕ × ℕ) : Type 0 where
    pub planned : r.0 ≡ length (mirror_asks w m)
    pub kept : r.1 ≡ length (mirror_gets m)
    pub attempts : r.2 ≡ sum_by (mirror_attempts m) (mirror_asks w m)
