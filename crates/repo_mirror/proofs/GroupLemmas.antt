-- A mirror as its group has it.
use Rattle.std.proofs.Common.{◌≡◌, ℕ, zero, suc, true, List, get_or, length, replicate, refl, sym, ◌∙◌, subst, arith}
use Rattle.std.specs.Prelude.{◌↔◌}
use Rattle.std.proofs.lemmas.List.{length-replicate}
use Rattle.svs_vector.specs.Vectors.{join}
use Rattle.svs_vector.proofs.JoinLemmas.{length-join, join-at}
use Rattle.repo_plan.specs.Parts.{Pair, pair_of}
use Rattle.repo_plan.specs.Plan.{PlanState, is_wanted}
use Rattle.group_model.specs.Sound.{IsKnown}
use Rattle.repo_mirror.specs.Mirrors.{IsWantedByMirror}
use Rattle.repo_mirror.proofs.Wants.{want_those}
use Rattle.repo_mirror.proofs.Lists as mirrors
use Rattle.repo_member.specs.MemberState.{initial_member}
use Rattle.repo_member.proofs.PublicLaws.{plans_alike, lists_alike, begins_consistently, stays_consistent}
use Rattle.repo_member.specs.ConsistentHolders.{member_with}
use Rattle.repo_mirror.specs.MirrorState.{MirrorState, initial_mirror, mirror_holdings}
use Rattle.repo_mirror.specs.ConsistentMirrors.{mirror_in_group, MirrorsPlanAlike, MirrorsWantAlike}
use Rattle.repo_mirror.specs.ConsistentMirrors.{MirrorsListAlike, MirrorsBeginConsistent, MirrorsLearnConsistent}

pub mirrors_plan_alike : MirrorsPlanAlike
mirrors_plan_alike g logs m are is = plans_alike g logs (member_with (mirror_holdings m)) are is.stored

pub mirrors_want_alike : MirrorsWantAlike
mirrors_want_alike g logs m t are is =
    subst (λ (p : PlanState). (is_wanted p t ≡ true) ↔ IsWantedByMirror m.pattern logs (mirror_in_group m) t)
    (sym (mirrors_plan_alike g logs m are is)) (want_those m.pattern logs (mirror_in_group m) t is.sound)

pub mirrors_list_alike : MirrorsListAlike
mirrors_list_alike g logs m are is =
    lists_alike g logs (member_with (mirror_holdings m)) are is.stored
    ∙ mirrors.lists m.pattern logs (mirror_in_group m) is.sound

-- ---- what lasts

nothing_known : (n p : ℕ) → get_or (replicate n (let z : ℕ = 0 in z)) p 0 ≡ 0
nothing_known zero p = refl
nothing_known (suc n) zero = refl
nothing_known (suc n) (suc p) = nothing_known n p

pub mirrors_begin_consistent : MirrorsBeginConsistent
mirrors_begin_consistent g logs pattern =
    let m : MirrorState = initial_mirror pattern (length logs) in
    let zero_number : ℕ = 0 in
    record {
      vector = record {
        width = length-replicate (length logs) zero_number;
        no_more = λ p. let none = nothing_known (length logs) p in omega (arith, none);
      };
      sound = record { kept = λ t h. absurd cc; passed = λ pair h. absurd cc };
      stored =
          stays_consistent g logs (initial_member 0 0 0 0) (member_with (mirror_holdings m)) refl
          (begins_consistently g logs 0 0 0 0);
    }

joined_knows : (v received : List ℕ) (pair : Pair) → IsKnown v pair → IsKnown (join v received) pair
joined_knows v received pair k =
    let at = join-at v received pair.0 in
    record { from_one = k.from_one; to_known = omega (arith, at, k.to_known) }

pub mirrors_learn_consistent : MirrorsLearnConsistent
mirrors_learn_consistent g logs m received consistent_received is =
    let next : MirrorState = record m { known = join m.known received } in
    record {
      vector = record {
        width = length-join m.known received (is.vector.width ∙ sym consistent_received.width) ∙ is.vector.width;
        no_more = λ p.
            let at = join-at m.known received p in
            let mine = is.vector.no_more p in let theirs = consistent_received.no_more p in omega
            (arith, at, mine, theirs);
      };
      sound = record {
        kept = λ t h.
            let s = is.sound.kept t h in
            record {
              known = joined_knows m.known received (pair_of t) s.known;
              publisher = s.publisher;
              counted = s.counted;
              with_record = s.with_record;
              with_parent = s.with_parent;
              accepted = s.accepted;
            };
        passed = λ pair h.
            let s = is.sound.passed pair h in
            record {
              known = joined_knows m.known received pair s.known;
              publisher = s.publisher;
              not_accepted = s.not_accepted;
            };
      };
      stored = stays_consistent g logs (member_with (mirror_holdings m)) (member_with (mirror_holdings next)) refl
          is.stored;
    }
