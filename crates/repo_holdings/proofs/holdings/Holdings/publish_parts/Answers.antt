use Rattle.std.proofs.Common.{Some, sym, ap, ◌∙◌, arith}
use Rattle.repo_plan.specs.Parts.{Pair}
use Rattle.repo_holdings.specs.declared.changes.Change.{Change}
use Rattle.repo_holdings.specs.Changing.{changed, change_by}
use Rattle.repo_holdings.specs.Listed.{entry_at}
use Rattle.repo_holdings.proofs.NotedLemmas.{noted_from}
use Rattle.repo_holdings.proofs.StepLemmas.{catalogue_changed}
use Rattle.repo_holdings.proofs.PublishLemmas.{new_in, new_absent, said_published, nothing_before, others_aside}
use Rattle.repo_holdings.proofs.PublishLemmas.{count_packets}
use Rattle.repo_holdings.proofs.holdings.Holdings.publish_parts.Goals as goal

pub gain_all-requires-clause-new : goal.gain_all-requires-clause-new
gain_all-requires-clause-new c =
    new_in c.self.inside c.args.self.now (c.args.publisher, c.args.seq) c.self.invariant c.self.view_is c.requires.new

pub change_by_summary-change-requires-clause-said : goal.change_by_summary-change-requires-clause-said
change_by_summary-change-requires-clause-said c =
    let pair : Pair = (c.args.publisher, c.args.seq) in
    let kept = c.self.invariant.kept in
    said_published c.self.inside.stock.store.packets c.gain_all.new.store.packets pair c.args.packets.items
    c.args.summary
    (new_absent c.self.inside c.args.self.now pair c.self.view_is c.requires.new) c.requires.packets
    c.gain_all.ensures.packets c.self.inside.stock.notes kept.sound.tied.in_order c.gain_all.ensures.tied.in_order
    kept.sound.noted.withdrawn

pub invariant_of-self : goal.invariant_of-self
invariant_of-self c =
    let pair : Pair = (c.args.publisher, c.args.seq) in
    let some = count_packets c.args.summary c.args.packets.items c.requires.packets in
    let long = c.args.packets.ok.0 in
    let room = c.self.invariant.room in
    let kept = c.self.invariant.kept in
    let notes = c.self.inside.stock.notes in
    let before = c.self.inside.stock.store.packets in
    let after = c.gain_all.new.store.packets in
    let absent = new_absent c.self.inside c.args.self.now pair c.self.view_is c.requires.new in
    let puts = c.gain_all.ensures.packets in
    let lists = c.requires.packets in
    let made = c.args.packets.items in
    let others = others_aside before after pair made c.args.summary absent lists puts in
    let said =
    said_published before after pair made c.args.summary absent lists puts notes kept.sound.tied.in_order
    c.gain_all.ensures.tied.in_order kept.sound.noted.withdrawn in
    record {
      kept = record {
        sound = record {
          tied = c.gain_all.ensures.tied;
          noted =
              noted_from before after pair notes c.change_by_summary-change.new.notes kept.sound.noted others
              c.change_by_summary-change.ensures.noted;
        };
        listed =
            c.make.ensures.entries
            ∙ ap (λ (change : Change). changed change c.self.inside.catalogue.entries)
            c.change_by_summary-change.ensures.change
            ∙ ap (changed (change_by notes.withdrawn pair (Some c.args.summary) (entry_at after pair)))
            kept.listed
            ∙ sym (catalogue_changed before after pair notes.withdrawn kept.sound.tied.in_order
            c.gain_all.ensures.tied.in_order others
            (nothing_before before after pair made c.args.summary absent lists puts) kept.sound.noted.withdrawn
            (Some c.args.summary) said.summary said.withdrawn);
      };
      room = record {
        for_plan = omega (arith, c.len-parts.ensures, c.gain_all.ensures.room.of_plan, room.for_plan);
        for_store = omega (arith, c.len-parts.ensures, c.gain_all.ensures.room.of_store, room.for_store);
        for_notes =
            omega (arith, some, long, c.len-parts.ensures, c.change_by_summary-change.ensures.room, room.for_notes);
        for_catalogue = omega (arith, some, long, c.len-parts.ensures, c.make.ensures.room, room.for_catalogue);
        for_fresh = omega (arith, c.len-parts.ensures, room.for_fresh);
        for_gone = omega (arith, c.len-parts.ensures, room.for_gone);
      };
      none_fresh = c.self.invariant.none_fresh;
      none_gone = c.self.invariant.none_gone;
    }
