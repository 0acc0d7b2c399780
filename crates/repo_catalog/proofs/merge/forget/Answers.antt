use Rattle.std.proofs.Common.{◌≡◌, ◌+◌, ◌&&◌, ◌∷◌, ◌++◌, arith, not, false, List, [], take, get_or, Some, None}
use Rattle.std.proofs.Common.{Ok, Err, sym, ap, subst, ◌∙◌}
use Rattle.std.specs.Ordering.{eq_by_cmp}
use Rattle.std.proofs.lemmas.List.{take_all, take_more}
use Rattle.sorted_lists.specs.SortedList.{contains, Rises}
use Rattle.sorted_lists.proofs.Inserted.{rises_parts}
use Rattle.repo_plan.specs.Parts.{Pair, pair_cmp}
use Rattle.repo_plan.proofs.Orders.{exact_pairs}
use Rattle.repo_catalog.specs.declared.entry.Entry.{Entry}
use Rattle.repo_catalog.specs.Entries.{publication_of, entry_of, without_all}
use Rattle.repo_catalog.specs.NameKeys.{Key, KeyList, key_cmp, key_of, is_key, IsIndexOf}
use Rattle.repo_catalog.specs.EntryTotals.{totals_of}
use Rattle.repo_catalog.proofs.EntryLemmas.{found_place, entry_at, no_entry_between}
use Rattle.repo_catalog.proofs.IndexLemmas.{is_key-listed, is_key-missing, index_less, index_same}
use Rattle.repo_catalog.proofs.ManyLemmas.{entry_is_of, without_none}
use Rattle.repo_catalog.proofs.SumLemmas.{is_past, sums_with_one_gone, sums_with_none_gone}
use Rattle.repo_catalog.proofs.merge.forget.Goals as goal
use Rattle.repo_catalog.proofs.merge.forget.Goals.{in-Ok, in_default}

pub loop-publisher-init : goal.loop-publisher-init
loop-publisher-init c = record {
  indexed =
      subst (λ (es : List Entry). IsIndexOf es c.args.names.now.keys c.args.names.now.waiting)
      (sym (without_none c.args.entries.now)) c.requires.indexed;
  summed = c.requires.summed ∙ ap totals_of (sym (without_none c.args.entries.now));
  room = omega arith;
}

pub loop-publisher-preserved : goal.loop-publisher-preserved
loop-publisher-preserved c =
    let es = c.args.entries.now in
    let pairs = c.args.publications.now in
    let i = c.loop-publisher.publisher-index in
    let p : Pair = get_or pairs i (0, 0) in
    let k : Pair = (p.0, c.from.result) in
    let same : k ≡ p = λ j. (p.0, c.from.ensures j) in
    let more : take (i + 1) pairs ≡ take i pairs ++ p ∷ [] = take_more pairs i (0, 0) c.loop-publisher-test.true in
    let all : without_all (take i pairs ++ k ∷ []) es ≡ without_all (take (i + 1) pairs) es =
    ap (λ (z : Pair). without_all (take i pairs ++ z ∷ []) es) same
    ∙ ap (λ (ps : List Pair). without_all ps es) (sym more) in
    elim c.match-place_of.branch [
      | in-Ok w ↦
          let x = w.index-entries-place.result in
          let at =
          found_place es k (Ok w.in-Ok.place) c.requires.in_order w.in-Ok.ensures.bound w.in-Ok.ensures.position in
          let there : entry_of k es ≡ Some x =
          entry_at k es w.in-Ok.place x c.requires.in_order at
          ∙ ap (λ (e : Entry). Some e) (sym w.index-entries-place.is) in
          let of : k ≡ publication_of x = entry_is_of k es x there in
          let in_order : Rises pair_cmp (take i pairs ++ p ∷ []) =
          subst (Rises pair_cmp) more (rises_parts exact_pairs (i + 1) pairs c.requires.rises).0 in
          let stays : contains pair_cmp (take i pairs) k ≡ false =
          ap (contains pair_cmp (take i pairs)) same ∙ is_past (take i pairs) p in_order in
          record {
            indexed =
                subst (λ (l : KeyList). IsIndexOf (without_all (take (i + 1) pairs) es) l.keys l.waiting)
                (sym w.names-is)
                (subst (λ (ws : List Pair). IsIndexOf (without_all (take (i + 1) pairs) es) w.remove.new.self.keys ws)
                (sym w.remove.ensures.waiting)
                (index_less (without_all (take i pairs) es) (without_all (take (i + 1) pairs) es)
                c.loop-publisher.names.keys w.remove.new.self.keys c.loop-publisher.names.waiting
                (λ q. not (eq_by_cmp key_cmp q (key_of x)))
                (λ q. is_key-listed (take i pairs) x k es q there of ∙ ap (λ (es : List Entry). is_key es q) all)
                (λ q. w.remove.ensures.keys q
                ∙ ap (λ (key : Key). not (eq_by_cmp key_cmp q key) && contains key_cmp c.loop-publisher.names.keys q)
                w.key_of.ensures) c.loop-publisher.invariant.indexed));
            summed =
                w.entry_totals-is
                ∙ w.subtract.ensures (without_all (take i pairs ++ k ∷ []) es)
                (c.loop-publisher.invariant.summed
                ∙ sums_with_one_gone (take i pairs) k x es c.requires.in_order there stays)
                ∙ ap totals_of all;
            room = omega (arith, ap (λ (l : KeyList). l.spare) w.names-is, w.remove.ensures.room);
          }
      | in_default w ↦
          let none : entry_of k es ≡ None =
          no_entry_between k es w.in_default.field-0
          (found_place es k (Err w.in_default.field-0) c.requires.in_order w.in_default.ensures.bound
          w.in_default.ensures.position) in
          record {
            indexed =
                subst (λ (l : KeyList). IsIndexOf (without_all (take (i + 1) pairs) es) l.keys l.waiting)
                (sym w.names-is)
                (index_same (without_all (take i pairs) es) (without_all (take (i + 1) pairs) es)
                c.loop-publisher.names.keys c.loop-publisher.names.waiting
                (λ q. is_key-missing (take i pairs) k es q none ∙ ap (λ (es : List Entry). is_key es q) all)
                c.loop-publisher.invariant.indexed);
            summed =
                w.entry_totals-is
                ∙ c.loop-publisher.invariant.summed
                ∙ sums_with_none_gone (take i pairs) k es none
                ∙ ap totals_of all;
            room = omega (arith, ap (λ (l : KeyList). l.spare) w.names-is);
          }
    ]

pub returns-clause-indexed : goal.returns-clause-indexed
returns-clause-indexed c =
    subst (λ (ps : List Pair). IsIndexOf (without_all ps c.args.entries.now) c.loop-publisher.names.keys
    c.loop-publisher.names.waiting)
    (take_all c.loop-publisher.publisher-index c.args.publications.now (omega (arith, c.loop-publisher-test.false)))
    c.loop-publisher.invariant.indexed

pub returns-clause-summed : goal.returns-clause-summed
returns-clause-summed c =
    c.loop-publisher.invariant.summed
    ∙ ap (λ (ps : List Pair). totals_of (without_all ps c.args.entries.now))
    (take_all c.loop-publisher.publisher-index c.args.publications.now (omega (arith, c.loop-publisher-test.false)))
