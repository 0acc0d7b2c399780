-- The records among stored packets.
use Rattle.std.specs.Prelude.{ℕ, List, [], ◌∷◌, ◌==◌, if◌then◌else◌}
use Rattle.repo_plan.specs.declared.part.Part.{Part}
use Rattle.repo_plan.specs.Parts.{Pair, pair_of}

-- a part and the octets of its packet
abbrev pub Packet : Type 0
Packet = Part × List ℕ

-- the records' packets, by publication
abbrev pub records_in : List Packet → List (Pair × List ℕ)
records_in [] = []
records_in (e ∷ es) = if e.0.part == 0 then (pair_of e.0, e.1) ∷ records_in es else records_in es
