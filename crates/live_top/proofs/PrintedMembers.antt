-- The journals and the catalogues of members, a member at a time.
use Rattle.std.proofs.Common.{String, Global, string_bytes, ◌≡◌, ℕ, List, [], ◌∷◌, map, refl}
use Rattle.repo_holdings.specs.Listed.{member_catalogue}
use Rattle.script_report.proofs.Together.{IsText}
use Rattle.live_settle.specs.declared.ran.Ran.{Ran}
use Rattle.live_top.specs.Journals as text
use Rattle.live_top.specs.Journals.{journal_lines, catalogue_lines}

abbrev pub journals : List (List ℕ) → List (String Global) → List Ran → List ℕ
journals labels owns rans = text.journals labels (map string_bytes owns) rans

abbrev pub journal : List (List ℕ) → String Global → Ran → List ℕ
journal labels own r = journal_lines labels (string_bytes own) r.journal.items

pub journals_are_text : (labels : List (List ℕ)) → IsText (journals labels) (journal labels)
unfolding text.journals
journals_are_text labels = record {
  left = λ rans. refl;
  right = nothing;
  both = λ own owns r rans. refl;
} where
  nothing : (owns : List (String Global)) → journals labels owns [] ≡ []
  nothing [] = refl
  nothing (own ∷ owns) = refl

abbrev pub catalogues : List (List ℕ) → List (String Global) → List Ran → List ℕ
catalogues labels owns rans = text.catalogues labels (map string_bytes owns) rans

abbrev pub catalogue : List (List ℕ) → String Global → Ran → List ℕ
catalogue labels own r = catalogue_lines labels (string_bytes own) (member_catalogue r.member.store)

pub catalogues_are_text : (labels : List (List ℕ)) → IsText (catalogues labels) (catalogue labels)
unfolding text.catalogues
catalogues_are_text labels = record {
  left = λ rans. refl;
  right = nothing;
  both = λ own owns r rans. refl;
} where
  nothing : (owns : List (String Global)) → catalogues labels owns [] ≡ []
  nothing [] = refl
  nothing (own ∷ owns) = refl
