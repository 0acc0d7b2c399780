use Rattle.std.proofs.Common.{◌∙◌, ap, sym, List, length, arith}
use Rattle.std.proofs.lemmas.Bool.{true≢false}
use Rattle.sorted_lists.specs.SortedList.{contains}
use Rattle.repo_plan.specs.Parts.{Pair, pair_cmp}
use Rattle.repo_catalog.specs.declared.entry.Entry.{Entry}
use Rattle.repo_catalog.specs.Entries.{EntryList, with_entries, without_all}
use Rattle.repo_catalog.proofs.ManyLemmas.{apart_none, without_none}
use Rattle.repo_holdings.specs.HoldingsState.{HoldingsState}
use Rattle.repo_holdings.specs.Taking.{AreListedWith}
use Rattle.repo_holdings.specs.declared.holdings.Holdings.TheInside.{Inside}
use Rattle.repo_holdings.specs.HoldingsFields.{IsHoldings}
use Rattle.repo_holdings.proofs.CatalogueLemmas.{alone_in_order}
use Rattle.repo_holdings.proofs.TakingLemmas.{takable_still, octets_fit}
use Rattle.repo_holdings.proofs.holdings.Holdings.take.Goals as goal

pub take_all-taken-requires-clause-takable : goal.take_all-taken-requires-clause-takable
take_all-taken-requires-clause-takable c =
    takable_still c.self.inside c.args.self.now c.self.invariant c.self.view_is c.args.all.items c.requires.takable

pub take_all-taken-requires-clause-few : goal.take_all-taken-requires-clause-few
take_all-taken-requires-clause-few c =
    let fit = octets_fit _ _ c.args.all.items c.requires.takable.each in
    record {
      parts = omega (arith, c.args.all.ok.0, c.requires.few);
      octets = omega (arith, fit, c.args.all.ok.0, c.requires.few);
    }

pub take_all-taken-requires-clause-ready : goal.take_all-taken-requires-clause-ready
take_all-taken-requires-clause-ready c =
    let before = c.self.invariant in
    let few = c.requires.room in
    let spare = ap (λ (h : HoldingsState). h.spare) c.self.view_is in
    record {
      sound = before.kept.sound;
      room = record {
        for_plan = omega (arith, few, spare, before.room.for_plan);
        for_store = omega (arith, few, spare, before.room.for_store);
        for_notes = omega (arith, few, spare, before.room.for_notes);
      };
      fresh_room =
          omega (arith, few, spare, ap (λ (es : List Entry). length es) before.none_fresh, before.room.for_fresh);
      gone_room =
          omega (arith, few, spare, ap (λ (qs : List Pair). length qs) before.none_gone, before.room.for_gone);
    }

-- before, no entry waits
nothing_waits : (m : Inside) → IsHoldings m
    → AreListedWith m.pending.fresh.items m.pending.gone.items m.catalogue.entries m.stock.store.packets
nothing_waits m is = record {
  listed =
      ap (λ (gone : List Pair). without_all gone (with_entries m.pending.fresh.items m.catalogue.entries)) is.none_gone
      ∙ without_none (with_entries m.pending.fresh.items m.catalogue.entries)
      ∙ ap (λ (fs : List Entry). with_entries fs m.catalogue.entries) is.none_fresh
      ∙ is.kept.listed;
  withdrawn = λ q h.
      absurd (true≢false (sym h ∙ ap (λ (gone : List Pair). contains pair_cmp gone q) is.none_gone));
  apart = rw is.none_fresh apart_none;
  apart_gone = rw is.none_gone (λ q. omega arith);
  in_order = rw is.kept.listed (alone_in_order m.stock.store.packets is.kept.sound.tied.in_order);
}

pub add_all_reserved-requires-clause-apart : goal.add_all_reserved-requires-clause-apart
add_all_reserved-requires-clause-apart c =
    (c.take_all-taken.ensures.waiting.listed c.self.inside.catalogue.entries
    (nothing_waits c.self.inside c.self.invariant)).apart

pub remove_gone-requires : goal.remove_gone-requires
remove_gone-requires c =
    (c.take_all-taken.ensures.waiting.listed c.self.inside.catalogue.entries
    (nothing_waits c.self.inside c.self.invariant)).apart_gone

pub invariant_of-self : goal.invariant_of-self
invariant_of-self c =
    let taken = c.take_all-taken.ensures in
    let added = c.add_all_reserved.ensures in
    let before = c.self.invariant in
    let few = c.requires.room in
    let spare = ap (λ (h : HoldingsState). h.spare) c.self.view_is in
    let none = ap (λ (fs : List Entry). length fs) before.none_fresh in
    let tried = c.len-tried.ensures in
    record {
      kept = record {
        sound = taken.sound;
        listed =
            ap (λ (k : EntryList). k.entries) c.remove_gone.ensures.removed
            ∙ ap (without_all c.take_all-taken.new.pending.gone.items) added.entries
            ∙ (taken.waiting.listed c.self.inside.catalogue.entries (nothing_waits c.self.inside before)).listed;
      };
      room = record {
        for_plan = omega (arith, tried, few, spare, c.args.all.ok.0, taken.taken.plan_room, before.room.for_plan);
        for_store = omega (arith, tried, few, spare, c.args.all.ok.0, taken.taken.store_room, before.room.for_store);
        for_notes = omega (arith, tried, few, spare, c.args.all.ok.0, taken.taken.notes_room, before.room.for_notes);
        for_catalogue =
            omega (
              arith,
              tried,
              few,
              spare,
              none,
              taken.waiting.few_fresh,
              added.spare,
              ap (λ (k : EntryList). k.spare) c.remove_gone.ensures.removed,
              before.room.for_catalogue,
            );
        for_fresh = omega (arith, tried, few, spare, taken.waiting.fresh_room, added.capacity, before.room.for_fresh);
        for_gone =
            omega (arith, tried, few, spare, taken.waiting.gone_room, c.remove_gone.ensures.room, before.room.for_gone);
      };
      none_fresh = added.moved;
      none_gone = c.remove_gone.ensures.gone;
    }
