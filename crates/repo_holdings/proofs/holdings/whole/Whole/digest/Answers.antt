use Rattle.std.proofs.Common.{◌≡◌, ◌≤◌, ◌-◌, ◌^◌, min, [], ℕ, Bor, List, length, length-append, get_or, take, sym, ap}
use Rattle.std.proofs.Common.{◌∙◌, subst}
use Rattle.std.proofs.Common.{arith, refl}
use Rattle.std.proofs.lemmas.List.{take_all}
use Rattle.sha2.specs.Hashers.{Holds256}
use Rattle.sha2.specs.Sha256.{sha256}
use Rattle.repo_holdings.specs.WholeContents.{joined}
use Rattle.repo_holdings.proofs.ArrivedLemmas.{joined_next, reported_consistently}
use Rattle.repo_holdings.proofs.holdings.whole.Whole.digest.Goals as goal

abbrev no_piece : Bor (List ℕ)
no_piece = record { ref_ptr = (0, 0); now = [] }

pub loop-content-preserved : goal.loop-content-preserved
loop-content-preserved c =
    let pieces : List (Bor (List ℕ)) = c.deref-content-items.result.now in
    let i : ℕ = c.loop-content.content-index in
    let prefix : List ℕ = joined (take i pieces) in
    let next = joined_next pieces i no_piece c.loop-content-test.true in
    let long = length-append prefix (get_or pieces i no_piece).now in
    let all = ap (λ (m : List ℕ). length m) next in
    record {
      octets = omega (arith, all, long, c.loop-content.invariant.octets, c.saturating_add-octets.ensures);
      digest =
          subst (Holds256 c.update.new.self) (sym next) (c.update.ensures prefix c.loop-content.invariant.digest);
    }

-- at the end
all_pieces : (i : ℕ) (pieces contents : List (Bor (List ℕ))) → length pieces ≤ i → pieces ≡ contents
    → joined (take i pieces) ≡ joined contents
all_pieces i pieces contents high same = ap joined (take_all i pieces high ∙ same)

pub returns-clause-octets : goal.returns-clause-octets
returns-clause-octets c =
    c.loop-content.invariant.octets
    ∙ ap (λ (m : List ℕ). min (2 ^ 64 - 1) (length m))
    (all_pieces c.loop-content.content-index c.deref-content-items.result.now c.args.self.now.contents.items
    c.loop-content-test.false c.deref-content-items.ensures.value)

pub returns-clause-digest : goal.returns-clause-digest
returns-clause-digest c =
    let prefix : List ℕ = joined (take c.loop-content.content-index c.deref-content-items.result.now) in
    c.finalize.ensures prefix c.loop-content.invariant.digest
    ∙ ap sha256
    (all_pieces c.loop-content.content-index c.deref-content-items.result.now c.args.self.now.contents.items
    c.loop-content-test.false c.deref-content-items.ensures.value)

pub returns-clause-made : goal.returns-clause-made
returns-clause-made c = λ packets whole.
    let prefix : List ℕ = joined (take c.loop-content.content-index c.deref-content-items.result.now) in
    let all : prefix ≡ joined c.args.self.now.contents.items =
    all_pieces c.loop-content.content-index c.deref-content-items.result.now c.args.self.now.contents.items
    c.loop-content-test.false c.deref-content-items.ensures.value in
    let long = ap (λ (m : List ℕ). length m) all in
    reported_consistently packets c.args.self.now _ refl refl
    (omega (arith, c.loop-content.invariant.octets, long, whole.few))
    (c.finalize.ensures prefix c.loop-content.invariant.digest ∙ ap sha256 all)
    whole
