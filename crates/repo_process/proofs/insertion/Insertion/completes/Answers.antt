use Rattle.std.proofs.Common.{◌≡◌, ◌+◌, ◌-◌, inl, inr, ℕ, Bool, true, false, not, cond, eqb, leb, []}
use Rattle.std.proofs.Common.{length, get_or, Some, refl, sym, ap, ◌∙◌, arith}
use Rattle.std.proofs.lemmas.Bool.{cases_Bool}
use Rattle.std.proofs.lemmas.List.{length-map}
use Rattle.repo_process.specs.Processes.{Process, has_index, is_whole, missing, with_block, with_it}
use Rattle.repo_process.specs.Processes.{block_in}
use Rattle.repo_process.specs.Processes.BlockState.{Unknown, Already, Waiting, Whole}
use Rattle.repo_process.specs.Arrivals.{is_last}
use Rattle.repo_process.specs.Fields.{contents_of}
use Rattle.repo_process.proofs.ProcessLemmas.{last_with}
use Rattle.repo_process.proofs.InsideLemmas.{items, opened, content_at, index_at}
use Rattle.repo_process.proofs.insertion.Insertion.completes.Goals as goal

last_it : (p : Process) → is_last (with_it p) ≡ is_whole p
last_it p = go (is_whole p) where
  go : (b : Bool) → is_last (cond b (Whole p) (Waiting p)) ≡ b
  go true = refl
  go false = refl

pub returns : goal.returns
returns c = λ content is.
    let m = c.self.inside in
    let p = c.args.self.now in
    let open_ : p.published ≡ false = sym (ap (λ (q : Process). q.published) c.self.view_is) ∙ c.if-self.false in
    let o = opened m p c.self.invariant c.self.view_is open_ in
    let inside : has_index p c.args.index ≡ true = sym c.has_index.ensures ∙ c.if-not-has_index.false in
    let within = index_at m p c.args.index c.self.view_is o inside in
    let j = c.args.index - m.first in
    let at : m.first + j ≡ c.args.index = omega (arith, within) in
    let there =
    content_at m j c.index.result.now (omega (arith, within, length-map m.contents.items items)) c.index.ensures in
    let lacks : c.is_empty-lacks.result ≡ eqb (length (get_or (contents_of m) j [])) 0 =
    c.is_empty-lacks.ensures ∙ ap (λ (n : ℕ). eqb n 0) (sym there) in
    let last : is_whole (with_block c.args.index content p) ≡ leb (missing p) (cond c.is_empty-lacks.result 1 0) =
    ap (λ (n : ℕ). is_whole (with_block n content p)) (sym at)
    ∙ ap (λ (q : Process). is_whole (with_block (m.first + j) content q)) o.same
    ∙ last_with m.name m.first m.last (contents_of m) o.long j within.1 content c.is_empty-lacks.result is.0 lacks
    ∙ ap (λ (q : Process). leb (missing q) (cond c.is_empty-lacks.result 1 0)) (sym o.same) in
    let most : c.from.result ≡ cond c.is_empty-lacks.result 1 0 = elim (cases_Bool c.is_empty-lacks.result) [
      | inl yes_ ↦ c.from.ensures ∙ rw yes_ refl
      | inr no_ ↦ c.from.ensures ∙ rw no_ refl
    ] in
    let reported : is_last (block_in c.args.index content (Some p))
    ≡ is_last (with_it (with_block c.args.index content p)) =
    ap (λ (b : Bool).
    is_last (cond (not b) Unknown (cond p.published Already (with_it (with_block c.args.index content p))))) inside
    ∙ ap (λ (b : Bool). is_last (cond b Already (with_it (with_block c.args.index content p)))) open_ in
    ap (λ (n : ℕ). leb n c.from.result) c.missing.ensures.count
    ∙ ap (leb (missing p)) most
    ∙ sym last
    ∙ sym (reported ∙ last_it (with_block c.args.index content p))
