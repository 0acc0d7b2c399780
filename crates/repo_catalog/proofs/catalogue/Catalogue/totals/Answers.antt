use Rattle.std.proofs.Common.{◌^◌, ◌%◌, ap, ◌∙◌}
use Rattle.std.specs.List.{sum_by}
use Rattle.std.proofs.Math.Nat.{mod-eq_of_lt}
use Rattle.repo_catalog.specs.declared.entry_totals.EntryTotals.{EntryTotals}
use Rattle.repo_catalog.specs.Entries.{EntryList}
use Rattle.repo_catalog.proofs.catalogue.Catalogue.totals.Goals as goal

pub returns-clause-segments : goal.returns-clause-segments
returns-clause-segments c =
    ap (λ (s : EntryTotals). s.segments) c.self.invariant.kept.summed
    ∙ ap (λ (l : EntryList). sum_by (λ e. e.segments) l.entries % 2 ^ 64) c.self.view_is
    ∙ mod-eq_of_lt c.requires.segments

pub returns-clause-octets : goal.returns-clause-octets
returns-clause-octets c =
    ap (λ (s : EntryTotals). s.octets) c.self.invariant.kept.summed
    ∙ ap (λ (l : EntryList). sum_by (λ e. e.octets) l.entries % 2 ^ 64) c.self.view_is
    ∙ mod-eq_of_lt c.requires.octets
