use Rattle.std.proofs.Common.{ℕ, List, Option, Some, None, Ok, Result, option_map, sym, ap, ◌∙◌}
use Rattle.std.specs.List.{find}
use Rattle.ndn_name.specs.declared.fault.PacketFault.{PacketFault}
use Rattle.repo_store.specs.Served.{satisfies}
use Rattle.repo_store.specs.StoreList.{StoreList}
use Rattle.repo_store.proofs.ServedLemmas.{served_found}
use Rattle.repo_store.proofs.FindLemmas.{found_is}
use Rattle.repo_store.proofs.store.Store.serve.Goals as goal

pub returns-in-Some : goal.returns-in-Some
returns-in-Some c =
    let interest = c.in_ok-interest.interest in
    let k = c.self.inside.kept in
    let found =
    found_is k.slots (satisfies interest.name interest.can_be_prefix) k.held (Some c.in-Some.held)
    c.in-Some.ensures.sound.rises c.in-Some.ensures.found in
    record {
      served =
          served_found c.args.interest.now c.args.self.now.packets _ c.in_ok-interest.ensures c.if-interest.false
          ∙ ap (λ (s : StoreList).
          let r : Result (Option (List ℕ)) PacketFault =
          Ok (option_map (λ e. e.1) (find (λ e. satisfies interest.name interest.can_be_prefix e.1) s.packets)) in
          r) (sym c.self.view_is)
          ∙ ap (λ (o : Option (List ℕ)). let r : Result (Option (List ℕ)) PacketFault = Ok o in r)
          (found ∙ ap (λ (o : List ℕ). Some o) (sym c.octets.ensures));
    }

pub returns-in-None : goal.returns-in-None
returns-in-None c =
    let interest = c.in_ok-interest.interest in
    let k = c.self.inside.kept in
    let found =
    found_is k.slots (satisfies interest.name interest.can_be_prefix) k.held None c.in-None.ensures.sound.rises
    c.in-None.ensures.found in
    record {
      served =
          served_found c.args.interest.now c.args.self.now.packets _ c.in_ok-interest.ensures c.if-interest.false
          ∙ ap (λ (s : StoreList).
          let r : Result (Option (List ℕ)) PacketFault =
          Ok (option_map (λ e. e.1) (find (λ e. satisfies interest.name interest.can_be_prefix e.1) s.packets)) in
          r) (sym c.self.view_is)
          ∙ ap (λ (o : Option (List ℕ)). let r : Result (Option (List ℕ)) PacketFault = Ok o in r) found;
    }
