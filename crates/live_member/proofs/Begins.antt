-- What holds under the lock at first.
use Rattle.std.proofs.Common.{◌≡◌, ℕ, zero, suc, ◌<◌, ◌≤◌, List, [], length, take, replicate, get_or}
use Rattle.std.proofs.Common.{refl, ap, sym, ◌∙◌, arith}
use Rattle.std.specs.Prelude.{slice_index}
use Rattle.std.proofs.lemmas.List.{get_or-set_same, length-replicate, length-set}
use Rattle.std.proofs.lemmas.List.Elements.{All-nil, All-set}
use Rattle.repo_object.specs.Objects.{NamedContents, Post}
use Rattle.repo_member.specs.Groups.{GroupKeys}
use Rattle.repo_member.specs.MemberState.{MemberState, ArePosts, initial_member, publication_limit}
use Rattle.repo_member.specs.InGroup.{GrowInto}
use Rattle.repo_member.proofs.PublicLaws.{begins_consistent, others_publish}
use Rattle.group_model.specs.Publications.{Logs}
use Rattle.live_member.specs.declared.event.LiveEntry.{LiveEntry}
use Rattle.live_member.specs.Meanings.{Meaning, objects_of, whole_logs, logs_at, IsWithinLimits}
use Rattle.live_member.specs.Lives.{IsOfPublishedPart, IsLive, IsKept, living, initial_live_member}
use Rattle.live_member.proofs.Around.{width_whole}

none_at : (n p : ℕ) → ◌≡◌ {A = List Post} (get_or (replicate n []) p []) []
none_at zero p = refl
none_at (suc n) zero = refl
none_at (suc n) (suc p) = none_at n p

grows : (n : ℕ) (later : Logs) → GrowInto (replicate n []) later
grows n later p =
    ap (λ (log : List Post). take (length log) (get_or later p [])) (none_at n p) ∙ sym (none_at n p)

no_posts : ArePosts []
no_posts i post h = absurd cc

begins_live : (t : Meaning) (most j : ℕ) → IsWithinLimits t → j < length t.lists
    → IsLive t most (living (initial_live_member t j) [] (objects_of t j))
begins_live t most j within less =
    let inside : j < length (whole_logs t) = omega (arith, less, width_whole t) in
    let n : ℕ = length t.lists in
    let wide : length (logs_at t j []) ≡ n = length-set (whole_logs t) j [] ∙ width_whole t in
    record {
      within = within;
      replays = refl;
      brought = All-nil (λ (e : LiveEntry). IsOfPublishedPart t e.event);
      list = refl;
      logs = record {
        group = within.logs.group;
        width = length-set (whole_logs t) j [] ∙ within.logs.width;
        posts = All-set ArePosts (whole_logs t) j [] no_posts within.logs.posts;
        few = All-set (λ (log : List Post). length log ≤ publication_limit) (whole_logs t) j [] (omega arith)
            within.logs.few;
      };
      consistent = others_publish t.group (replicate n []) (logs_at t j []) (initial_live_member t j)
          (grows n (logs_at t j []))
          (wide ∙ sym (length-replicate n []))
          (ap length (get_or-set_same (whole_logs t) j [] [] inside) ∙ sym (ap length (none_at n j)))
          (begins_consistent t.group n j 0 (slice_index t.draws j) less);
      hidden = refl;
      draws = omega arith;
      room = omega arith;
    }

-- a member that was just made, in a group that is the meaning's
pub begins_kept : (t : Meaning) (most j draw : ℕ) (g : GroupKeys) (a : MemberState) (objects : List NamedContents)
    → g ≡ t.group → IsWithinLimits t → j < length t.lists → objects ≡ objects_of t j → draw ≡ slice_index t.draws j
    → a ≡ initial_member (length g.members.names) j 0 draw → IsKept t most j draw (living a [] objects)
begins_kept t most j draw g a objects group within there list value made =
    let wide : length g.members.names ≡ length t.lists =
    ap (λ (k : GroupKeys). length k.members.names) group ∙ sym within.logs.width ∙ width_whole t in
    let same : a ≡ initial_live_member t j = made ∙ (λ i. initial_member (wide i) j 0 (value i)) in
    record {
      its_number = sym (ap (λ (b : MemberState). b.number) same);
      its_draw = value;
      live = rw (same, list) (begins_live t most j within there);
    }
