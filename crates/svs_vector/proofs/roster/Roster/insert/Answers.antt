use Rattle.std.proofs.Common.{rules, ◌≡◌, List, [], ◌∷◌, ◌++◌, map, length, ◌≤◌, None, sym, ap, ◌∙◌, arith}
use Rattle.std.proofs.lemmas.List.{length-map}
use Rattle.ndn_name.specs.Names.{Component, encoding}
use Rattle.svs_vector.specs.Rosters.{member_of, IsOwnName}
use Rattle.svs_vector.proofs.RosterLemmas.{with_member, still_members}
use Rattle.svs_vector.proofs.roster.Roster.insert.Goals as goal

pub invariant_of-self-2 : goal.invariant_of-self-2
invariant_of-self-2 c =
    let entries = c.self.inside.members.entries in
    let name_same : c.in_ok-name.name ≡ c.args.name.now = search rules in
    let copied : c.in_ok-octets.octets.items ≡ c.octets.result.now = search rules in
    let same : c.in_ok-octets.octets.items ≡ encoding c.in_ok-name.name =
    copied ∙ c.octets.ensures.spelled ∙ ap encoding (sym name_same) in
    let short : length (encoding c.args.name.now) ≤ 1000 = rw (← c.octets.ensures.spelled) c.octets.ensures.short in
    let own : IsOwnName c.in_ok-name.name = rw name_same (c.octets.ensures.name, short) in
    let none : member_of c.in_ok-name.name (map (λ e. e.1) entries) ≡ None =
    ap (λ (n : List Component). member_of n (map (λ e. e.1) entries)) name_same
    ∙ ap (member_of c.args.name.now) c.self.view_is
    ∙ c.requires.new_name in
    let written = c.in_ok-insert.ensures.entries in
    let count = ap (λ (r : List (List Component)). length r) c.self.view_is in
    still_members c.in_ok-octets.octets c.in_ok-name.name entries c.insert.new.self.entries same own c.self.invariant
    none written (omega (arith, count, length-map entries (λ e. e.1), c.requires.room))

pub returns-clause-ok : goal.returns-clause-ok
returns-clause-ok c =
    let entries = c.self.inside.members.entries in
    let name_same : c.in_ok-name.name ≡ c.args.name.now = search rules in
    let copied : c.in_ok-octets.octets.items ≡ c.octets.result.now = search rules in
    let same : c.in_ok-octets.octets.items ≡ encoding c.in_ok-name.name =
    copied ∙ c.octets.ensures.spelled ∙ ap encoding (sym name_same) in
    let short : length (encoding c.args.name.now) ≤ 1000 = rw (← c.octets.ensures.spelled) c.octets.ensures.short in
    let own : IsOwnName c.in_ok-name.name = rw name_same (c.octets.ensures.name, short) in
    let none : member_of c.in_ok-name.name (map (λ e. e.1) entries) ≡ None =
    ap (λ (n : List Component). member_of n (map (λ e. e.1) entries)) name_same
    ∙ ap (member_of c.args.name.now) c.self.view_is
    ∙ c.requires.new_name in
    let written = c.in_ok-insert.ensures.entries in
    with_member c.in_ok-octets.octets c.in_ok-name.name entries c.insert.new.self.entries same own c.self.invariant none
    written
    ∙ ap (λ (n : List Component). map (λ e. e.1) entries ++ n ∷ []) name_same
    ∙ ap (λ (r : List (List Component)). r ++ c.args.name.now ∷ []) c.self.view_is
