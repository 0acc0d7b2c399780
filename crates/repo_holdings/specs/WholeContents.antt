-- The contents of publications that become whole.
use Rattle.std.specs.Prelude.{ℕ, ◌<◌, ◌^◌, List, length, IfSome}
use Rattle.std.specs.List.{flat_map}
use Rattle.std.specs.Borrow.{Bor}
use Rattle.repo_plan.specs.Parts.{Pair}
use Rattle.repo_holdings.specs.Records.{Packet}
use Rattle.repo_holdings.specs.Listed.{whole_at}
use Rattle.repo_holdings.specs.Contents.{IsOver}
use Rattle.repo_holdings.specs.declared.holdings.whole.Whole.{Whole}

-- the octets of several pieces, one after another
abbrev pub joined : List (Bor (List ℕ)) → List ℕ
joined pieces = flat_map (λ piece. piece.now) pieces

-- the pieces `contents`, joined, are the contents of the publication, where it is stored whole
abbrev pub AreContentsIn : List Packet → Pair → List (Bor (List ℕ)) → Type 0
AreContentsIn packets pair contents = IfSome (whole_at packets pair) (IsOver (joined contents))

-- the contents in `w`, joined, are those of its publication, where it is stored whole, and a `u64` counts their octets
pub record IsWholeIn (packets : List Packet) (w : Whole) : Type 0 where
  pub contents : AreContentsIn packets (w.publisher, w.seq) w.contents.items
  pub few : length (joined w.contents.items) < 2 ^ 64
