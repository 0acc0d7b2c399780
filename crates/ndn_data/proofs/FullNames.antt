-- Names with one component more.
use Rattle.std.proofs.Common.{◌≡◌, ℕ, ◌-◌, List, [], ◌∷◌, ◌++◌, length, take, Option, Some, slice_get, ap, ◌∙◌, arith}
use Rattle.std.proofs.lemmas.List.{nil_from_length}
use Rattle.ndn_name.specs.Names.{Component}
use Rattle.ndn_name.specs.CanonicalOrder.{IsPrefix}

-- a name that goes on from another by one component
pub one_more : (name of : List Component) (last : Component) → IsPrefix of name → length name - length of ≡ 1
    → slice_get name (length of) ≡ Some last → name ≡ of ++ last ∷ []
one_more [] [] last p one at = absurd (omega arith)
one_more [] (d ∷ of) last p one at = absurd cc
one_more (c ∷ name) [] last p one at =
    let same : c ≡ last = cc in
    ap (λ (n : List Component). c ∷ n) (nil_from_length name (omega arith)) ∙ ap (λ (x : Component). x ∷ []) same
one_more (c ∷ name) (d ∷ of) last p one at =
    let first : c ≡ d = cc in
    let prefix : take (length of) name ≡ of = cc in
    ap (λ (n : List Component). c ∷ n) (one_more name of last prefix (omega arith) at)
    ∙ ap (λ (x : Component). x ∷ (of ++ last ∷ [])) first

abbrev found : Component → Option Component
found c = Some c

-- the same component, as far as its octets
pub same_value : (typ : ℕ) (value : List ℕ) (c : Component) → found (typ, value) ≡ found c → value ≡ c.1
same_value typ value c e = let same : (typ, value) ≡ c = cc in ap (λ (x : Component). x.1) same

pub pair_is : (typ : ℕ) (value digest : List ℕ) (c : Component) → typ ≡ 1 → value ≡ digest
    → found c ≡ found (typ, value) → found c ≡ found (1, digest)
pair_is typ value digest c t v e = e ∙ ap (λ (n : ℕ). found (n, value)) t ∙ ap (λ (o : List ℕ). found (1, o)) v
