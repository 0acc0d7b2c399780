use Rattle.std.proofs.Common.{◌≡◌, ◌++◌, ◌∷◌, Bool, true, false, cond, not, ◌&&◌, List, [], refl, sym, ap, subst, ◌∙◌}
use Rattle.std.specs.Ordering.{is_lt}
use Rattle.repo_plan.specs.Parts.{Pair, pair_cmp}
use Rattle.repo_plan.proofs.Orders.{exact_pairs}
use Rattle.sorted_lists.specs.SortedList.{Rises, contains}
use Rattle.sorted_lists.proofs.Sets.{rises_filter}
use Rattle.repo_catalog.specs.declared.entry.Entry.{Entry}
use Rattle.repo_catalog.specs.Entries.{publication_of}
use Rattle.repo_watch.specs.declared.pattern.Pattern.{Pattern}
use Rattle.repo_watch.specs.Watching.{Watching, is_for, is_news, announced_after}
use Rattle.repo_watch.proofs.AnnouncedLemmas.{walked}
use Rattle.repo_watch.proofs.watcher.Watcher.news.Goals as goal
use Rattle.repo_watch.proofs.watcher.Watcher.news.Goals.{then-not-was_announced+then-wants+in_ok-push}
use Rattle.repo_watch.proofs.watcher.Watcher.news.Goals.{else-not-was_announced}
use Rattle.repo_watch.proofs.watcher.Watcher.news.Goals.{else-not-was_announced-via-then-not-was_announced+else-wants}
use Rattle.repo_watch.proofs.watcher.Watcher.news.Goals.{else-not-was_announced-via-else-not-was_announced}

and_false : (b : Bool) → (b && false) ≡ false
and_false true = refl
and_false false = refl

pub loop-entry-preserved : goal.loop-entry-preserved
loop-entry-preserved g c =
    let before = c.loop-entry.invariant in
    let e : Entry = c.entry-item.result in
    let announced : List Pair = c.loop-entry.announced.now in
    let w : Watching = record c.args.self.now { announced = announced } in
    let pairs : List Pair = c.loop-entry.pairs.items in
    let more : List Pair = pairs ++ publication_of e ∷ [] in
    let next : List Pair = c.if-not-was_announced.pairs.items in
    let left : List Pair = c.if-not-was_announced.announced.now in
    let was_announced : c.pass-was_announced.result.0 ≡ contains pair_cmp announced (publication_of e) =
    c.pass-was_announced.ensures.announced in
    let pattern : c.self.inside.pattern ≡ c.args.self.now.pattern = ap (λ (x : Watching). x.pattern) c.self.view_is in
    let asked : is_for w.pattern e ≡ is_for c.self.inside.pattern e = ap (λ (p : Pattern). is_for p e) (sym pattern) in
    let same : is_news w e ≡ (is_for c.self.inside.pattern e && not c.pass-was_announced.result.0) =
    λ j. asked j && not (sym was_announced j) in
    let facts : (left ≡ announced_after (publication_of e) announced) × (next ≡ cond (is_news w e) more pairs) =
    elim c.if-not-was_announced.branch [
      | then-not-was_announced+then-wants+in_ok-push v ↦
          let wanted : is_for c.self.inside.pattern e ≡ true = sym v.wants.ensures ∙ v.if-wants.true in
          let is : is_news w e ≡ true = same ∙ (λ j. wanted j && not (v.if-not-was_announced.true j)) in (
            (λ j. (v.announced-is j).now) ∙ c.pass-was_announced.ensures.after,
            (λ j. (v.pairs-is j).items)
                ∙ v.in_ok-push.ensures.items
                ∙ sym (ap (λ (b : Bool). cond b more pairs) is),
          )
      | else-not-was_announced v ↦
          let is : is_news w e ≡ false = elim v.else-not-was_announced.branch [
            | else-not-was_announced-via-then-not-was_announced+else-wants u ↦
                let unwanted : is_for c.self.inside.pattern e ≡ false = sym u.wants.ensures ∙ u.if-wants.false in
                same ∙ ap (λ (b : Bool). b && not c.pass-was_announced.result.0) unwanted
            | else-not-was_announced-via-else-not-was_announced u ↦
                same
                ∙ ap (λ (b : Bool). is_for c.self.inside.pattern e && not b) u.if-not-was_announced.false
                ∙ and_false (is_for c.self.inside.pattern e)
          ] in (
            (λ j. (v.announced-is j).now) ∙ c.pass-was_announced.ensures.after,
            (λ j. (v.pairs-is j).items) ∙ sym (ap (λ (b : Bool). cond b more pairs) is),
          )
    ] in
    record {
      rises =
          subst (Rises pair_cmp) (sym facts.0)
          (rises_filter exact_pairs.total (λ x. is_lt (pair_cmp (publication_of e) x)) announced before.rises);
      news =
          walked w c.args.entries.now c.loop-entry.entry-index e pairs next _ left c.loop-entry-test.true
          c.entry-item.is c.requires facts.0 facts.1 before.news;
    }
