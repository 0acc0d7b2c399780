use Rattle.std.proofs.Common.{◌≡◌, sym, ap, ◌∙◌, subst}
use Rattle.repo_store.specs.StoreList.{StoreList}
use Rattle.repo_catalog.specs.Entries.{EntryList, without_all}
use Rattle.repo_holdings.specs.Listed.{member_catalogue}
use Rattle.repo_holdings.specs.Hiding.{IsHiding, outside_all}
use Rattle.repo_holdings.proofs.HidingLemmas.{outside_at_once, tied_hides_all, noted_hides_all, catalogue_outside_all}
use Rattle.repo_holdings.proofs.HidingLemmas.{all_hidden, room_hidden}
use Rattle.repo_holdings.proofs.holdings.hiding.hide_all.Goals as goal

pub returns-clause-hidden : goal.returns-clause-hidden
returns-clause-hidden c =
    subst (IsHiding c.args.publications.now c.args.stock.now.plan) (sym c.hide_in_plan.ensures)
    (all_hidden c.args.publications.now c.args.stock.now.plan)

pub returns-clause-packets : goal.returns-clause-packets
returns-clause-packets c =
    ap (λ (s : StoreList). s.packets) c.drop_all.ensures.dropped
    ∙ sym (outside_at_once c.args.publications.now c.args.stock.now.store.packets)

pub returns-clause-kept : goal.returns-clause-kept
returns-clause-kept c =
    let pairs = c.args.publications.now in
    let old = c.args.stock.now in
    let before = c.requires.kept in
    let r = before.sound.tied.in_order in
    let packets : c.drop_all.new.self.packets ≡ outside_all pairs old.store.packets =
    ap (λ (s : StoreList). s.packets) c.drop_all.ensures.dropped ∙ sym (outside_at_once pairs old.store.packets) in
    record {
      sound = record {
        tied =
            rw (c.hide_in_plan.ensures, packets) (tied_hides_all pairs old.plan old.store.packets before.sound.tied);
        noted =
            rw packets (noted_hides_all pairs old.store.packets old.notes c.forget_names.new.notes r
            c.requires.hidable.objects c.forget_names.ensures.withdrawn c.forget_names.ensures.others
            before.sound.noted);
      };
      listed =
          ap (λ (k : EntryList). k.entries) c.remove_all.ensures
          ∙ ap (without_all pairs) before.listed
          ∙ catalogue_outside_all pairs old.store.packets r c.requires.hidable.objects
          ∙ sym (ap member_catalogue packets);
    }

pub returns-clause-room : goal.returns-clause-room
returns-clause-room c = record {
  of_plan =
      rw c.hide_in_plan.ensures (room_hidden c.args.publications.now c.args.stock.now.plan c.requires.room);
  of_store = ap (λ (s : StoreList). s.spare) c.drop_all.ensures.dropped;
  of_notes = c.forget_names.ensures.room;
}

pub returns-clause-catalogue_room : goal.returns-clause-catalogue_room
returns-clause-catalogue_room c = ap (λ (k : EntryList). k.spare) c.remove_all.ensures
