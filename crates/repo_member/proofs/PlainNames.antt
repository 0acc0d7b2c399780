-- Names without digests: those of nodes, of groups and of objects.
use Rattle.std.proofs.Common.{◌≡◌, ◌<◌, ◌≤◌, zero, suc, true, false, ◌&&◌, ltb, leb, nat_lt, nat_le, List, [], ◌∷◌}
use Rattle.std.proofs.Common.{length, refl, arith}
use Rattle.std.specs.Prelude.{IsTrue}
use Rattle.std.specs.List.{All, list_all, list_any}
use Rattle.std.proofs.lemmas.Bool.{and_from, and_parts, ltb-true, or_parts}
use Rattle.std.proofs.lemmas.Bool.Decides.{nat_tests}
use Rattle.ndn_name.specs.Names.{Component, IsName, encoding}
use Rattle.ndn_name.specs.UriText.{is_digest}
use Rattle.repo_object.specs.Objects.{is_object_name}
use Rattle.repo_member.specs.Groups.{IsPlainNodeName}

pub above_digests : (name : List Component) → list_any is_digest name ≡ false → All (λ (c : Component). 2 < c.0) name
above_digests [] h k d lt = absurd (omega arith)
above_digests (c ∷ cs) h zero d lt =
    let low : nat_le c.0 2 ≡ false = (or_parts (is_digest c) (list_any is_digest cs) h).0 in
    grind (arith, nat_tests)
above_digests (c ∷ cs) h (suc k) d lt =
    above_digests cs (or_parts (is_digest c) (list_any is_digest cs) h).1 k d (omega arith)

no_digests : (name : List Component) → list_any is_digest name ≡ false → list_all (λ c. nat_lt 2 c.0) name ≡ true
no_digests [] h = refl
no_digests (c ∷ cs) h =
    let no = or_parts (is_digest c) (list_any is_digest cs) h in
    let low : nat_le c.0 2 ≡ false = no.0 in
    let above : nat_lt 2 c.0 ≡ true = grind (arith, nat_tests) in
    and_from (nat_lt 2 c.0) _ above (no_digests cs no.1)

pub object_name : (name : List Component)
    → (list_any is_digest name ≡ false) × (1 ≤ length (encoding name)) × (length (encoding name) ≤ 400)
    → IsTrue (is_object_name name)
object_name name h =
    let some : nat_lt 0 (length (encoding name)) ≡ true = grind (arith, nat_tests, h.1) in
    let few : nat_le (length (encoding name)) 400 ≡ true = grind (arith, nat_tests, h.2) in
    and_from _ _ (and_from _ _ some few) (no_digests name h.0)

above_types : (name : List Component) → IsTrue (list_all (λ c. ltb 2 c.0) name) → All (λ (c : Component). 2 < c.0) name
above_types [] h k d lt = absurd (omega arith)
above_types (c ∷ cs) h zero d lt = ltb-true 2 c.0 (and_parts (ltb 2 c.0) (list_all (λ x. ltb 2 x.0) cs) h).0
above_types (c ∷ cs) h (suc k) d lt =
    above_types cs (and_parts (ltb 2 c.0) (list_all (λ x. ltb 2 x.0) cs) h).1 k d (omega (arith, lt))

-- An object's name of at most 200 octets is that of a node.
pub plain_name : (name : List Component) → IsName name → IsTrue (is_object_name name) → length (encoding name) ≤ 200
    → IsPlainNodeName name
plain_name name valid named short =
    let n = length (encoding name) in
    let parts = and_parts (ltb 0 n && leb n 400) (list_all (λ c. ltb 2 c.0) name) named in
    record {
      valid = valid;
      some = ltb-true 0 n (and_parts (ltb 0 n) (leb n 400) parts.0).0;
      short = short;
      plain = above_types name parts.1;
    }
