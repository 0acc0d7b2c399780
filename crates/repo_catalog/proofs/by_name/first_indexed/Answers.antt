use Rattle.std.proofs.Common.{◌≡◌, ◌+◌, ◌<◌, ℕ, true, false, Option, Some, None, length, sym, subst, ◌∙◌, rules}
use Rattle.std.specs.Prelude.{find}
use Rattle.std.specs.List.{filter}
use Rattle.std.specs.declared.cmp.Ordering.TheVariants.{Less}
use Rattle.repo_plan.specs.Parts.{Pair}
use Rattle.repo_catalog.specs.declared.entry.Entry.{Entry}
use Rattle.repo_catalog.specs.Entries.{entry_of, entry_has_name}
use Rattle.repo_catalog.specs.NameKeys.{Key, key_cmp, has_hash}
use Rattle.repo_catalog.proofs.ManyLemmas.{found_in}
use Rattle.repo_catalog.proofs.NamedLemmas.{is_named_from, is_from, none_from, none_of_hash, next_key}
use Rattle.repo_catalog.proofs.NamedLemmas.{next_entry, next_found, next_passed, fewer_left}
use Rattle.repo_catalog.proofs.SoughtLemmas.{indexed_of, indexed_rise, keyed, has_keys, indexed_first}
use Rattle.repo_catalog.proofs.by_name.first_indexed.Goals as goal

pub returns : goal.returns
returns c =
    let name = c.args.name.now in
    let from : Pair = c.loop-other.from in
    let ks = c.args.names.now.keys in
    let es = c.args.entries.now in
    let r = c.requires.in_order in
    let has = has_keys ks es r c.args.names.now.waiting c.requires.indexed in
    let none : find (is_named_from name from) (indexed_of ks es) ≡ None =
    none_from name from (indexed_of ks es) (indexed_rise ks es r)
    (λ q t.
    subst (λ (h : ℕ). key_cmp q (h, from) ≡ Less) c.requires.hash (c.in_default.ensures q (has q ∙ t))) in
    indexed_first ks es r name c.args.from None (sym c.loop-other.invariant ∙ none)

pub returns-then-other-hash : goal.returns-then-other-hash
returns-then-other-hash c =
    let name = c.args.name.now in
    let from : Pair = c.loop-other.from in
    let ks = c.args.names.now.keys in
    let es = c.args.entries.now in
    let r = c.requires.in_order in
    let has = has_keys ks es r c.args.names.now.waiting c.requires.indexed in
    let first : Key = (c.in-Some.other, c.in-Some.pair) in
    let next =
    next_key name from (indexed_of ks es) (indexed_rise ks es r) ks c.args.hash first c.requires.hash has
    c.in-Some.ensures in
    let none : find (is_named_from name from) (indexed_of ks es) ≡ None =
    none_of_hash name from (indexed_of ks es) (indexed_rise ks es r) first next
    (λ e. c.if-other-hash.true (e ∙ sym c.requires.hash)) in
    indexed_first ks es r name c.args.from None (sym c.loop-other.invariant ∙ none)

pub returns-then-is_eq : goal.returns-then-is_eq
returns-then-is_eq c =
    let name = c.args.name.now in
    let from : Pair = c.loop-other.from in
    let ks = c.args.names.now.keys in
    let es = c.args.entries.now in
    let r = c.requires.in_order in
    let has = has_keys ks es r c.args.names.now.waiting c.requires.indexed in
    let x = c.listed-entry.result.now in
    let first : Key = (c.in-Some.other, c.in-Some.pair) in
    let there : entry_of first.1 (indexed_of ks es) ≡ Some x =
    keyed ks es r first x c.listed-entry.ensures
    (subst (λ (o : Option Entry). has_hash first.0 o ≡ true) c.listed-entry.ensures
    (c.requires.indexed.listed first c.in-Some.ensures.there)) c.in-Some.ensures.there in
    let next =
    next_entry name from (indexed_of ks es) (indexed_rise ks es r) ks c.args.hash first x c.requires.hash has
    c.in-Some.ensures c.if-other-hash.false there in
    let named : entry_has_name name x ≡ true = search rules in
    indexed_first ks es r name c.args.from (Some x)
    (sym c.loop-other.invariant
    ∙ next_found name from (indexed_of ks es) (indexed_rise ks es r) x next
    (found_in first.1 x (indexed_of ks es) there).0 named)

pub loop-other-smaller : goal.loop-other-smaller
loop-other-smaller c =
    let name = c.args.name.now in
    let from : Pair = c.loop-other.from in
    let ks = c.args.names.now.keys in
    let es = c.args.entries.now in
    let r = c.requires.in_order in
    let has = has_keys ks es r c.args.names.now.waiting c.requires.indexed in
    let x = c.listed-entry.result.now in
    let first : Key = (c.in-Some.other, c.in-Some.pair) in
    let there : entry_of first.1 (indexed_of ks es) ≡ Some x =
    keyed ks es r first x c.listed-entry.ensures
    (subst (λ (o : Option Entry). has_hash first.0 o ≡ true) c.listed-entry.ensures
    (c.requires.indexed.listed first c.in-Some.ensures.there)) c.in-Some.ensures.there in
    let next =
    next_entry name from (indexed_of ks es) (indexed_rise ks es r) ks c.args.hash first x c.requires.hash has
    c.in-Some.ensures c.if-other-hash.false there in
    subst
    (λ (s : ℕ). length (filter (is_from (x.publisher, s + 1)) (indexed_of ks es))
    < length (filter (is_from from) (indexed_of ks es))) (sym c.from.ensures)
    (fewer_left name from (indexed_of ks es) (indexed_rise ks es r) x next
    (found_in first.1 x (indexed_of ks es) there).0)

pub loop-other-preserved : goal.loop-other-preserved
loop-other-preserved c =
    let name = c.args.name.now in
    let from : Pair = c.loop-other.from in
    let ks = c.args.names.now.keys in
    let es = c.args.entries.now in
    let r = c.requires.in_order in
    let has = has_keys ks es r c.args.names.now.waiting c.requires.indexed in
    let x = c.listed-entry.result.now in
    let first : Key = (c.in-Some.other, c.in-Some.pair) in
    let there : entry_of first.1 (indexed_of ks es) ≡ Some x =
    keyed ks es r first x c.listed-entry.ensures
    (subst (λ (o : Option Entry). has_hash first.0 o ≡ true) c.listed-entry.ensures
    (c.requires.indexed.listed first c.in-Some.ensures.there)) c.in-Some.ensures.there in
    let next =
    next_entry name from (indexed_of ks es) (indexed_rise ks es r) ks c.args.hash first x c.requires.hash has
    c.in-Some.ensures c.if-other-hash.false there in
    let other : entry_has_name name x ≡ false = search rules in
    subst
    (λ (s : ℕ). find (is_named_from name (x.publisher, s + 1)) (indexed_of ks es)
    ≡ find (is_named_from name c.args.from) (indexed_of ks es)) (sym c.from.ensures)
    (next_passed name from (indexed_of ks es) (indexed_rise ks es r) x next
    (found_in first.1 x (indexed_of ks es) there).0 other
    ∙ c.loop-other.invariant)
