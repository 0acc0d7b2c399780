use Rattle.std.proofs.Common.{ap, sym, ◌∙◌}
use Rattle.std.proofs.lemmas.Slice.Eq.{slice_eq-Decides}
use Rattle.repo_catalog.specs.Entries.{EntryList}
use Rattle.repo_catalog.proofs.Same.{entry_eq-Decides}
use Rattle.repo_catalog.proofs.catalogue.Catalogue.same.Goals as goal

pub returns : goal.returns
returns c =
    let mine = ap (λ (l : EntryList). l.entries) c.self.view_is in
    let other = ap (λ (l : EntryList). l.entries) c.other.view_is in
    let same =
    slice_eq-Decides entry_eq-Decides c.self.inside.entries.items c.other.inside.entries.items c.eq.result
    (rw c.as_slice.ensures at (rw c.as_slice-2.ensures at c.eq.ensures)) in
    (λ h. sym mine ∙ same.0 h ∙ other, λ e. same.1 (mine ∙ e ∙ sym other))
