-- The publications that a deletion hides are those that the group says.
use Rattle.std.proofs.Common.{◌≡◌, Bool, true, false, cond, List, [], ◌∷◌, map, refl, ap, ◌∙◌}
use Rattle.std.specs.Prelude.{filter}
use Rattle.ndn_name.specs.Names.{Component}
use Rattle.repo_plan.specs.declared.part.Part.{Part}
use Rattle.sorted_lists.specs.SortedList.{insert_key}
use Rattle.repo_plan.specs.Parts.{Pair, pair_cmp}
use Rattle.repo_catalog.specs.Entries.{publication_of, entry_has_name, all_named}
use Rattle.group_model.specs.Publications.{Logs, Publication, pair_in, object_in, published_entry}
use Rattle.group_model.specs.Commands.{is_equal_name}
use Rattle.group_model.specs.Member.{Member, catalogued, catalogued_under, deletes_all}
use Rattle.repo_member.specs.Groups.{GroupKeys}
use Rattle.repo_member.specs.MemberState.{MemberState}
use Rattle.repo_member.specs.Deleting as member_state
use Rattle.repo_member.specs.Deleting.{member_state_hides}
use Rattle.repo_member.specs.InGroup.{in_group, AreLogs, StoresConsistently, DeletesAlike}
use Rattle.repo_holdings.proofs.HidingLemmas.{keys_outside}
use Rattle.repo_member.proofs.HiddenParts.{hidden_one}
use Rattle.repo_member.proofs.GroupCatalogues.{lists_alike}

pub hides_alike : (ps : List Publication) (a : MemberState)
    → in_group (member_state_hides (map pair_in ps) a) ≡ deletes_all ps (in_group a)
hides_alike [] a = refl
hides_alike (p ∷ ps) a =
    let shown : List Part → Member =
    λ held. record (in_group a) { held = held; hidden = insert_key pair_cmp (pair_in p) a.hidden } in
    hides_alike ps (hidden_one (pair_in p) a)
    ∙ ap (λ (held : List Part). deletes_all ps (shown held)) (keys_outside (pair_in p) a.store)

named_entries : (name : List Component) (ps : List Publication)
    → all_named name (map published_entry ps) ≡ map pair_in (filter (λ p. is_equal_name (object_in p).name name) ps)
named_entries name [] = refl
named_entries name (p ∷ ps) = go (is_equal_name (object_in p).name name) (named_entries name ps) where
  go : (b : Bool)
      → all_named name (map published_entry ps)
      ≡ map pair_in (filter (λ q. is_equal_name (object_in q).name name) ps)
      → map publication_of
      (cond b (published_entry p ∷ filter (entry_has_name name) (map published_entry ps))
      (filter (entry_has_name name) (map published_entry ps)))
      ≡ map pair_in
      (cond b (p ∷ filter (λ q. is_equal_name (object_in q).name name) ps)
      (filter (λ q. is_equal_name (object_in q).name name) ps))
  go true h = ap (λ (rest : List Pair). pair_in p ∷ rest) h
  go false h = h

pub named_alike : (g : GroupKeys) (logs : Logs) (name : List Component) (a : MemberState) → AreLogs g logs
    → StoresConsistently g logs a
    → member_state.catalogued_named name a ≡ map pair_in (catalogued_under logs (in_group a) name)
named_alike g logs name a are consistent =
    ap (all_named name) (lists_alike g logs a are consistent) ∙ named_entries name (catalogued logs (in_group a))

pub deletes_alike : DeletesAlike
deletes_alike g logs name a are consistent =
    ap (λ (pairs : List Pair). in_group (member_state_hides pairs a)) (named_alike g logs name a are consistent)
    ∙ hides_alike (catalogued_under logs (in_group a) name) a
