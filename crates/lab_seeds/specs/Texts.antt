-- What is written of each seed, and of all together.
use Rattle.std.specs.Prelude.{ℕ, List, [], ◌∷◌, ◌++◌, codes, decimal}
use Rattle.lab_seeds.specs.declared.figures.Figures.{Figures}
use Rattle.lab_seeds.specs.declared.ranks.Ranks.{Ranks}
use Rattle.lab_seeds.specs.Ranks.{ranks_among}

-- What was sent and asked for, each number after its word.
unfoldable pub traffic_text : Figures → List ℕ
traffic_text f =
    codes " syncs " ++ decimal f.syncs ++ codes " delivered " ++ decimal f.delivered ++ codes " attempts "
    ++ decimal f.attempts

-- What was fetched, and what is listed.
unfoldable pub holdings_text : Figures → List ℕ
holdings_text f =
    codes " parts " ++ decimal f.parts ++ codes " octets " ++ decimal f.octets ++ codes " listed "
    ++ decimal f.listed

-- Each figure after its word, and a line feed.
unfoldable pub figures_text : Figures → List ℕ
figures_text f = traffic_text f ++ holdings_text f ++ codes "\n"

-- The line of a seed under which all lines of the script are taken.
unfoldable pub done_text : ℕ → Figures → List ℕ
done_text seed f = codes "seed " ++ decimal seed ++ codes " done" ++ figures_text f

-- The line of a seed under which a line of the script is refused, with the number and the word of the refusal.
unfoldable pub refused_text : ℕ → ℕ → ℕ → List ℕ → List ℕ
refused_text seed line number word =
    codes "seed " ++ decimal seed ++ codes " refused " ++ decimal line ++ codes " " ++ decimal number ++ codes " "
    ++ word ++ codes "\n"

-- The line of a seed under which a line brings octets that no member made.
unfoldable pub foreign_text : ℕ → ℕ → List ℕ
foreign_text seed line = codes "seed " ++ decimal seed ++ codes " foreign " ++ decimal line ++ codes "\n"

-- The lines of the least, the median and the greatest figures.
unfoldable pub ranks_lines : Ranks → List ℕ
ranks_lines r =
    codes "least" ++ figures_text r.least ++ codes "median" ++ figures_text r.median ++ codes "greatest"
    ++ figures_text r.greatest

-- The lines of the least, the median and the greatest of figures; nothing where there are no figures.
abbrev pub ranks_text : List Figures → List ℕ
ranks_text [] = []
ranks_text (f ∷ all) = ranks_lines (ranks_among (f ∷ all))
