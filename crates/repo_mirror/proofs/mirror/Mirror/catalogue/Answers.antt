use Rattle.std.proofs.Common.{◌≡◌, true, sym, ap, ◌∙◌, subst}
use Rattle.std.specs.List.{All}
use Rattle.repo_catalog.specs.declared.entry.Entry.{Entry}
use Rattle.repo_holdings.specs.Listed.{member_catalogue}
use Rattle.repo_mirror.specs.Mirrors.{is_entry_accepted}
use Rattle.repo_mirror.specs.MirrorState.{MirrorState}
use Rattle.repo_mirror.specs.PacketsFor.{ArePacketsFor}
use Rattle.repo_mirror.proofs.AcceptedLemmas.{lists_accepted}
use Rattle.repo_mirror.proofs.mirror.Mirror.catalogue.Goals as goal

pub returns-clause-accepted : goal.returns-clause-accepted
returns-clause-accepted c =
    let m : MirrorState = c.args.self.now in
    let are : ArePacketsFor m.pattern m.store =
    subst (λ (a : MirrorState). ArePacketsFor a.pattern a.store) c.self.view_is c.self.invariant.packets in
    subst (All (λ (e : Entry). is_entry_accepted m.pattern e ≡ true))
    (sym (c.catalogue.ensures ∙ ap (λ (a : MirrorState). member_catalogue a.store) c.self.view_is))
    (lists_accepted m.pattern m.store are)
