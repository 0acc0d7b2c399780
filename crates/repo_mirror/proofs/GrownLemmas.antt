-- Mirrors of a group that has published more.
use Rattle.std.proofs.Common.{◌≡◌, ◌≤◌, true, sym, ap, ◌∙◌, subst, arith}
use Rattle.repo_plan.specs.Parts.{Pair, pair_of, last_part}
use Rattle.repo_object.specs.Objects.{Post, shape_in}
use Rattle.group_model.specs.Publications.{post_at}
use Rattle.group_model.specs.Sound.{IsKnown}
use Rattle.repo_mirror.specs.Asked.{is_post_for}
use Rattle.repo_member.proofs.PublicLaws.{grows_consistently}
use Rattle.repo_member.specs.ConsistentHolders.{member_with}
use Rattle.repo_member.proofs.LastingPackets.{grown_last, grown_post}
use Rattle.repo_mirror.specs.MirrorState.{mirror_holdings}
use Rattle.repo_mirror.specs.ConsistentMirrors.{MirrorsGrowConsistent}
use Rattle.repo_plan.specs.Parts.{part_cmp, parent}
use Rattle.sorted_lists.specs.SortedList.{contains, keys}

pub mirrors_grow_consistent : MirrorsGrowConsistent
mirrors_grow_consistent g logs later m grows wide is = record {
  vector = record {
    width = is.vector.width ∙ sym wide;
    no_more = λ p.
        let most = is.vector.no_more p in
        let more = grown_last logs later p grows in omega (arith, most, more);
  };
  sound = record {
    kept = λ t h.
        let s = is.sound.kept t h in
        let same = post (pair_of t) s.known in
        record {
          known = s.known;
          publisher = s.publisher;
          counted = subst (λ (o : Post). t.part ≤ last_part (shape_in o)) (sym same) s.counted;
          with_record = s.with_record;
          with_parent =
              subst (λ (o : Post). contains part_cmp (keys m.store) (parent (shape_in o) t) ≡ true) (sym same)
              s.with_parent;
          accepted = ap (is_post_for m.pattern t.publisher) same ∙ s.accepted;
        };
    passed = λ pair h.
        let s = is.sound.passed pair h in
        record {
          known = s.known;
          publisher = s.publisher;
          not_accepted = ap (is_post_for m.pattern pair.0) (post pair s.known) ∙ s.not_accepted;
        };
  };
  stored = grows_consistently g logs later (member_with (mirror_holdings m)) grows is.stored;
} where
  post : (pair : Pair) → IsKnown m.known pair → post_at later pair ≡ post_at logs pair
  post pair k =
      let most = is.vector.no_more pair.0 in
      grown_post logs later pair grows
      (record { from_one = k.from_one; to_last = omega (arith, most, k.to_known) })
