use Rattle.std.proofs.Common.{◌≡◌, ℕ, List, length, map, sym, ap, subst, ◌∙◌, arith}
use Rattle.std.specs.List.{All}
use Rattle.repo_object.specs.Objects.{NamedContents, IsContent}
use Rattle.repo_process.specs.Processes.{Process, missing, object_of}
use Rattle.repo_process.specs.Fields.{contents_of}
use Rattle.repo_process.proofs.BlockLemmas.{missing_in, none_missing}
use Rattle.repo_process.proofs.InsideLemmas.{items, opened}
use Rattle.repo_process.proofs.ProcessLemmas.{object-contents, missing-counted, whole_is}
use Rattle.repo_process.proofs.insertion.Insertion.whole.Goals as goal

same_object : {a b : NamedContents} → a.name ≡ b.name → a.contents ≡ b.contents → a ≡ b
same_object {a} {b} n cs = ap (λ x. record a { name = x }) n ∙ ap (λ x. record b { contents = x }) cs

pub returns-clause-object : goal.returns-clause-object
returns-clause-object c =
    let m = c.self.inside in
    let p = c.args.self.now in
    let unpublished = sym (ap (λ (q : Process). q.published) c.self.view_is) ∙ c.if-self.false in
    let o = opened m p c.self.invariant c.self.view_is unpublished in
    let object : NamedContents = record { name = m.name; contents = map items c.deref.result.now } in
    let named : p.name ≡ m.name = ap (λ (q : Process). q.name) o.same in
    let contents =
    ap (λ (q : Process). (object_of q).contents) o.same
    ∙ object-contents m.name m.first m.last (contents_of m) o.long
    ∙ ap (map items) (sym c.deref.ensures.value) in
    whole_is p object unpublished (c.missing.ensures.whole.1 c.if-missing-ne0.false) (same_object named contents)

pub returns-clause-within : goal.returns-clause-within
returns-clause-within c =
    let m = c.self.inside in
    let p = c.args.self.now in
    let unpublished = sym (ap (λ (q : Process). q.published) c.self.view_is) ∙ c.if-self.false in
    let o = opened m p c.self.invariant c.self.view_is unpublished in
    let same : contents_of m ≡ map items c.deref.result.now = ap (map items) (sym c.deref.ensures.value) in
    let none : missing_in (contents_of m) ≡ 0 =
    sym (missing-counted m.name m.first m.last (contents_of m) o.long)
    ∙ ap missing (sym o.same)
    ∙ sym c.missing.ensures.count
    ∙ c.if-missing-ne0.false in
    let P : List (List ℕ) → Type 0 = All IsContent in
    record {
      name = c.self.invariant.name;
      named = c.self.invariant.named;
      few = omega (arith, ap length (sym same), o.long, c.self.invariant.few);
      contents = subst P same (none_missing (contents_of m) none c.self.invariant.contents);
    }
