use Rattle.std.proofs.Common.{◌≡◌, ◌||◌, List, Option, Some, option_map, sym, ap, subst, ◌∙◌}
use Rattle.std.specs.Prelude.{IfSome, IsSomeAnd}
use Rattle.ndn_name.specs.Names.{Component}
use Rattle.sorted_lists.specs.SortedList.{contains, value_of}
use Rattle.repo_plan.specs.Parts.{Pair, pair_cmp}
use Rattle.repo_object.specs.Publication.{Listed}
use Rattle.repo_holdings.specs.Listed.{listing_at, stated_at}
use Rattle.repo_holdings.specs.Noted.{NotesState}
use Rattle.repo_holdings.specs.Gaining.{summary_of}
use Rattle.repo_holdings.specs.Changing.{withdraws_too}
use Rattle.repo_holdings.specs.declared.record_summary.RecordSummary.{RecordSummary}
use Rattle.repo_holdings.proofs.NotedLemmas.{named_stated, noted_withdrawn, noted_since, name_noted, others_named}
use Rattle.repo_holdings.proofs.WholeLemmas.{some_of}
use Rattle.repo_holdings.proofs.changes.change_by_summary.Goals.{in-Some-Object, in-None}
use Rattle.repo_holdings.proofs.changes.change_by_summary.Goals as goal

pub returns-in-Some-Withdrawal-clause-noted : goal.returns-in-Some-Withdrawal-clause-noted
returns-in-Some-Withdrawal-clause-noted c =
    noted_withdrawn c.args.store.now.packets c.args.publication c.in-Some-Withdrawal.field-0 c.in-Some-Withdrawal.seq
    c.args.notes.now c.note_withdrawn-fresh.new.self c.in-Some-Withdrawal.field-0-is
    (subst (λ (o : Option RecordSummary). IfSome o (λ x. option_map summary_of (stated_at c.args.store.now.packets
    c.args.publication) ≡ Some x)) c.in-Some-Withdrawal.is c.requires.said.summary)
    c.note_withdrawn-fresh.ensures.withdrawn c.note_withdrawn-fresh.ensures.names
    (λ q. ap (λ (o : Option RecordSummary). withdraws_too c.args.publication o q
    || contains pair_cmp c.args.notes.now.withdrawn q) (sym c.in-Some-Withdrawal.is)
    ∙ c.requires.said.withdrawn q)

pub take_entry_if_whole-entry-requires-clause-named : goal.take_entry_if_whole-entry-requires-clause-named
take_entry_if_whole-entry-requires-clause-named c = elim c.match-summary.branch [
  | in-Some-Object w ↦
      let packets = c.args.store.now.packets in
      let pair : Pair = c.args.publication in
      let there : value_of pair_cmp c.match-summary.notes.names pair ≡ Some w.in-Some-Object.name =
      ap (λ (n : NotesState). value_of pair_cmp n.names pair) w.notes-is
      ∙ name_noted pair w.in-Some-Object.name c.args.notes.now.names w.note_name.new.self.names
      w.note_name.ensures.names in
      some_of (listing_at packets pair)
      (named_stated packets pair w.in-Some-Object.field-0 _ w.in-Some-Object.name
      (subst (λ (o : Option RecordSummary). IfSome o (λ x. option_map summary_of (stated_at packets pair) ≡ Some x))
      w.in-Some-Object.is c.requires.said.summary) w.in-Some-Object.field-0-is)
      (λ l listed same.
      subst (λ (o : Option Listed). IsSomeAnd o (λ l. value_of pair_cmp c.match-summary.notes.names pair ≡ Some l.name))
      (sym listed) (there ∙ ap (λ (n : List Component). Some n) same))
  | in-None w ↦
      subst (λ (n : NotesState). IsSomeAnd (listing_at c.args.store.now.packets c.args.publication)
      (λ l. value_of pair_cmp n.names c.args.publication ≡ Some l.name)) (sym w.notes-is)
      (c.requires.said.named w.in-None.is)
]

pub returns-clause-noted : goal.returns-clause-noted
returns-clause-noted c = elim c.match-summary.branch [
  | in-Some-Object w ↦
      noted_since c.args.store.now.packets c.args.publication c.args.notes.now c.match-summary.notes
      c.take_entry_if_whole-entry.new.notes
      (λ q other. ap (λ (n : NotesState). value_of pair_cmp n.names q) w.notes-is
      ∙ others_named c.args.publication w.in-Some-Object.name c.args.notes.now.names w.note_name.new.self.names
      w.note_name.ensures.names q other)
      c.take_entry_if_whole-entry.ensures.noted
  | in-None w ↦
      noted_since c.args.store.now.packets c.args.publication c.args.notes.now c.match-summary.notes
      c.take_entry_if_whole-entry.new.notes (λ q other. ap (λ (n : NotesState). value_of pair_cmp n.names q) w.notes-is)
      c.take_entry_if_whole-entry.ensures.noted
]
