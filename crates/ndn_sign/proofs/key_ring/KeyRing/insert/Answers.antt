use Rattle.std.proofs.Common.{rules, ◌≡◌, ◌<◌, List, [], ◌∷◌, ◌++◌, length, sym, ap, ◌∙◌, arith}
use Rattle.ndn_sign.specs.Ring.{IsRing, NamedKey, pair, pair_limit, key_number}
use Rattle.ndn_sign.proofs.RingLemmas.{number_of-entries, pairs, still_ring, with_pair}
use Rattle.ndn_sign.proofs.key_ring.KeyRing.insert.Goals as goal

-- the entries with the pair's after them
appended : (c : goal.Joined-branch-4)
    → pairs c.insert.new.self.entries ≡ pairs c.self.inside.pairs.entries ++ pair c.args.name.now c.args.key.now ∷ []
appended c =
    let name = c.args.name.now in
    let entries = c.self.inside.pairs.entries in
    let none = sym (number_of-entries name entries) ∙ ap (key_number name) c.self.view_is ∙ c.requires.new_name in
    let same : c.in_ok-name.name.items ≡ name = search rules in
    with_pair name c.args.key.now c.in_ok-name.name c.in_ok-key.key entries c.insert.new.self.entries none same
    c.in_ok-key.ensures c.in_ok-insert.ensures.entries

is_ring : (c : goal.Joined-branch-4) → IsRing (pairs c.insert.new.self.entries)
is_ring c =
    let entries = c.self.inside.pairs.entries in
    let count = ap (λ (ring : List NamedKey). length ring) c.self.view_is in
    let room : length (pairs entries) < pair_limit = omega (arith, count, c.requires.room) in
    let p = pair c.args.name.now c.args.key.now in
    still_ring p entries c.insert.new.self.entries (appended c) room c.in_ok-insert.ensures.unique

pub returns-clause-ok : goal.returns-clause-ok
returns-clause-ok c =
    appended c ∙ ap (λ ring. ring ++ pair c.args.name.now c.args.key.now ∷ []) c.self.view_is

pub invariant_of-self-2 : goal.invariant_of-self-2
invariant_of-self-2 c = is_ring c

pub returns-clause-ring : goal.returns-clause-ring
returns-clause-ring c = is_ring c
