-- The totals of the objects of entries, as a catalogue keeps them.
use Rattle.std.specs.Prelude.{◌^◌, ◌%◌, List}
use Rattle.std.specs.List.{sum_by}
use Rattle.repo_catalog.specs.declared.entry.Entry.{Entry}
use Rattle.repo_catalog.specs.declared.entry_totals.EntryTotals.{EntryTotals}

-- The segments and the octets of all entries together, both modulo 2^64.
abbrev pub totals_of : List Entry → EntryTotals
totals_of es = record {
  segments = sum_by (λ e. e.segments) es % 2 ^ 64;
  octets = sum_by (λ e. e.octets) es % 2 ^ 64;
}
