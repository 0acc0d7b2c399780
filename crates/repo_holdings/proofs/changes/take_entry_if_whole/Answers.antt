use Rattle.std.proofs.Common.{◌≡◌, ℕ, Bool, true, false, List, length, Option, Some, None, cond, refl, sym, ap, subst}
use Rattle.std.proofs.Common.{◌∙◌}
use Rattle.std.specs.Prelude.{IsSome, IsSomeAnd}
use Rattle.sha2.specs.Sha256.{sha256}
use Rattle.sorted_lists.specs.SortedList.{contains}
use Rattle.repo_plan.specs.declared.shape.Shape.{Shape}
use Rattle.repo_plan.specs.Parts.{Pair, pair_cmp}
use Rattle.repo_catalog.specs.declared.entry.Entry.{Entry}
use Rattle.repo_holdings.specs.Listed.{contents_joined, listing_at, whole_at, is_withdrawn}
use Rattle.repo_holdings.specs.Contents.{IsOver}
use Rattle.repo_holdings.specs.Noted.{NotesState}
use Rattle.repo_holdings.proofs.CatalogueLemmas.{entry_of_none}
use Rattle.repo_holdings.proofs.WholeLemmas.{some_of, some_shape, listed_whole, listed_not, listed_complete}
use Rattle.repo_holdings.proofs.NotedLemmas.{noted_taken}
use Rattle.repo_holdings.proofs.changes.take_entry_if_whole.Goals as goal

pub returns-then-not-complete-clause-entry : goal.returns-then-not-complete-clause-entry
returns-then-not-complete-clause-entry c =
    sym (entry_of_none c.args.store.now.packets c.args.publication
    (listed_not c.args.plan.now c.args.store.now.packets c.args.publication c.requires.tied
    (sym c.complete.ensures ∙ c.if-not-complete.true)))

pub unwrap-shape-requires : goal.unwrap-shape-requires
unwrap-shape-requires c =
    subst (λ (o : Option Shape). IsSome o) (sym c.shape.ensures.shape)
    (some_shape c.args.plan.now c.args.store.now.packets c.args.publication c.requires.tied _ c.requires.named)

pub returns-then-is_withdrawn-clause-entry : goal.returns-then-is_withdrawn-clause-entry
returns-then-is_withdrawn-clause-entry c =
    let is : is_withdrawn c.args.store.now.packets c.args.publication ≡ true =
    sym (c.requires.withdrawn c.args.publication)
    ∙ ap (λ (n : NotesState). contains pair_cmp n.withdrawn c.args.publication) (sym c.take_name.ensures.left)
    ∙ sym c.is_withdrawn.ensures
    ∙ c.if-is_withdrawn.true in
    sym (ap (λ (b : Bool). cond b None (whole_at c.args.store.now.packets c.args.publication)) is)

pub returns-then-is_withdrawn-clause-noted : goal.returns-then-is_withdrawn-clause-noted
returns-then-is_withdrawn-clause-noted c =
    noted_taken c.args.store.now.packets c.args.publication c.args.notes.now c.take_name.new.self
    c.take_name.ensures.left c.requires.withdrawn
    (λ l listed. listed_complete c.args.plan.now c.args.store.now.packets c.args.publication c.requires.tied l listed
    (sym c.complete.ensures ∙ c.if-not-complete.false))

-- the entry, where the publication is not withdrawn
kept_entry : (w : Bool) (o : Option Entry) (e : Entry) → w ≡ false → o ≡ Some e → cond w None o ≡ Some e
kept_entry w o e kept there = ap (λ (b : Bool). cond b None o) kept ∙ there

pub given_or_made-octets-requires-clause-whole : goal.given_or_made-octets-requires-clause-whole
given_or_made-octets-requires-clause-whole c =
    let packets = c.args.store.now.packets in
    let pair : Pair = c.args.publication in
    let joined : List ℕ = contents_joined packets pair c.unwrap-shape.result in
    some_of (listing_at packets pair) c.requires.named
    (λ l listed named.
    subst (λ (o : Option Entry). IsSomeAnd o (IsOver joined))
    (sym (listed_whole c.args.plan.now packets pair c.requires.tied l c.unwrap-shape.result (length joined)
    (sha256 joined) listed (sym c.complete.ensures ∙ c.if-not-complete.false)
    (sym c.shape.ensures.shape ∙ c.unwrap-shape.ensures) refl refl))
    (record { octets = refl; digest = refl }))

pub returns-clause-entry : goal.returns-clause-entry
returns-clause-entry c =
    let packets = c.args.store.now.packets in
    let pair : Pair = c.args.publication in
    let not_withdrawn : is_withdrawn packets pair ≡ false =
    sym (c.requires.withdrawn pair)
    ∙ ap (λ (n : NotesState). contains pair_cmp n.withdrawn pair) (sym c.take_name.ensures.left)
    ∙ sym c.is_withdrawn.ensures
    ∙ c.if-is_withdrawn.false in
    some_of (listing_at packets pair) c.requires.named
    (λ l listed named.
    let both : Some c.unwrap-name.result ≡ Some l.name =
    sym c.unwrap-name.ensures ∙ c.take_name.ensures.name ∙ named in
    let name : c.unwrap-name.result ≡ l.name = cc in
    rw (name, c.from.ensures)
    (sym (kept_entry (is_withdrawn packets pair) (whole_at packets pair) _ not_withdrawn
    (listed_whole c.args.plan.now packets pair c.requires.tied l c.unwrap-shape.result
    c.given_or_made-octets.result.0 c.given_or_made-octets.result.1 listed
    (sym c.complete.ensures ∙ c.if-not-complete.false) (sym c.shape.ensures.shape ∙ c.unwrap-shape.ensures)
    c.given_or_made-octets.ensures.octets c.given_or_made-octets.ensures.digest))))

pub returns-clause-noted : goal.returns-clause-noted
returns-clause-noted c =
    noted_taken c.args.store.now.packets c.args.publication c.args.notes.now c.take_name.new.self
    c.take_name.ensures.left c.requires.withdrawn
    (λ l listed. listed_complete c.args.plan.now c.args.store.now.packets c.args.publication c.requires.tied l listed
    (sym c.complete.ensures ∙ c.if-not-complete.false))
