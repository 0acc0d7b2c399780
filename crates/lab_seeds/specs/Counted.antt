-- What is counted of a world at the end of a run.
use Rattle.std.specs.Prelude.{ℕ, length, Option, Some, None}
use Rattle.std.specs.List.{sum_by}
use Rattle.sorted_lists.specs.Range.{numbers_from}
use Rattle.group_model.specs.World.{World, catalogue_at}
use Rattle.lab_seeds.specs.declared.figures.Figures.{Figures}

-- The entries that all members' catalogues list.
abbrev pub listed_entries : World → ℕ
listed_entries w = sum_by (λ j. length (catalogue_at w j)) (numbers_from 0 (length w.members))

-- The numbers of a `traffic` line, and the entries that are listed.
abbrev pub figures_of : World → Figures
figures_of w = record {
  syncs = length w.sent;
  delivered = w.tally.delivered;
  attempts = w.tally.attempts;
  parts = w.tally.parts;
  octets = w.tally.octets;
  listed = listed_entries w;
}

-- Each number is 0.
abbrev pub no_figures : Figures
no_figures = record { syncs = 0; delivered = 0; attempts = 0; parts = 0; octets = 0; listed = 0 }

-- A script without an event has no world, and then each number is 0.
abbrev pub figures_at : Option World → Figures
figures_at None = no_figures
figures_at (Some w) = figures_of w
