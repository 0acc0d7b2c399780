-- A mirror holds what was published, as whoever holds parts in its group.
use Rattle.std.proofs.Common.{◌≡◌, ℕ, Bool, true, false, cond, get_or, ◌≤◌, sym, ◌∙◌, arith}
use Rattle.std.proofs.lemmas.Bool.{true≢false, false_from_ne_true}
use Rattle.sorted_lists.specs.SortedList.{contains, keys}
use Rattle.repo_plan.specs.Parts.{part_cmp, pair_of, part_of}
use Rattle.repo_watch.specs.Patterns.{is_publisher}
use Rattle.group_model.specs.Publications.{Logs, last_of}
use Rattle.repo_mirror.specs.Asked.{asked_numbers}
use Rattle.repo_mirror.proofs.Wants.{asked_of_publisher, known_asked}
use Rattle.repo_member.specs.Groups.{GroupKeys}
use Rattle.repo_mirror.specs.MirrorState.{MirrorState}
use Rattle.repo_mirror.specs.ConsistentMirrors.{IsConsistentMirror, MirrorsAreHolders}
use Rattle.repo_mirror.proofs.AskedLemmas.{length-asked}

module _ (g : GroupKeys) (logs : Logs) (m : MirrorState) (is : IsConsistentMirror g logs m) where
  -- no number that the mirror's holdings know is greater than the last of its publisher
  no_more : (p : ℕ) → get_or (asked_numbers m.pattern.publisher 0 m.known) p 0 ≤ last_of logs p
  no_more p =
      go (is_publisher m.pattern.publisher p) (asked_of_publisher m.pattern.publisher m.known p) where
        go : (b : Bool)
            → get_or (asked_numbers m.pattern.publisher 0 m.known) p 0 ≡ cond b (get_or m.known p 0) 0
            → get_or (asked_numbers m.pattern.publisher 0 m.known) p 0 ≤ last_of logs p
        go true e = let most = is.vector.no_more p in omega (arith, e, most)
        go false e = omega (arith, e)

pub mirror_is_holder : MirrorsAreHolders
mirror_is_holder g logs m is = record {
  vector = record {
    width = length-asked m.pattern.publisher 0 m.known ∙ is.vector.width;
    no_more = no_more g logs m is;
  };
  in_order = is.stored.in_order;
  held = λ t h.
      let s = is.sound.kept t h in
      record {
        known = known_asked m.pattern.publisher m.known (pair_of t) s.publisher s.known;
        counted = s.counted;
        with_record = s.with_record;
        with_parent = s.with_parent;
      };
  hidden = λ pair h.
      let s = is.sound.passed pair h in
      record {
        known = known_asked m.pattern.publisher m.known pair s.publisher s.known;
        none_held = λ x. false_from_ne_true (contains part_cmp (keys m.store) (part_of pair x)) (λ k.
            true≢false (sym (is.sound.kept (part_of pair x) k).accepted ∙ s.not_accepted));
      };
  packets = is.stored.packets;
}
