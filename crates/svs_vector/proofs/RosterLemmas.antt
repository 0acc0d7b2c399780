-- The names of a roster among the entries of a map.
use Rattle.std.proofs.Common.{◌≡◌, ℕ, ◌+◌, ◌≤◌, not, false, List, [], ◌∷◌, ◌++◌, map, length, length-append, position}
use Rattle.std.proofs.Common.{None, Vec, refl, ap, ◌∙◌, arith}
use Rattle.std.specs.List.{prefix_len, All, AllByRecursion, IsDistinct}
use Rattle.std.specs.Str.{bytes_eq}
use Rattle.std.proofs.lemmas.List.{length-map, map-append}
use Rattle.std.proofs.lemmas.List.Elements.{All-head, All-tail, All-map, All-push}
use Rattle.indexmap.specs.IndexMap.{insert_entry}
use Rattle.indexmap.proofs.MapLemmas.{Missing-position, insert_entry-absent}
use Rattle.ndn_name.specs.Names.{Component, encoding}
use Rattle.svs_vector.specs.Rosters.{has_same_octets, member_of, IsOwnName, IsRoster, AreMembers}

abbrev Entry : Type 0 → Type 0
Entry A = Vec ℕ A × List Component

abbrev StandsUnderIt : {A : Type 0} → Entry A → Type 0
StandsUnderIt entry = entry.0.items ≡ encoding entry.1

prefixes : {A : Type 0} (q : List ℕ) (es : List (Entry A)) → All StandsUnderIt es
    → prefix_len (λ own. not (bytes_eq q (encoding own))) (map (λ e. e.1) es)
    ≡ prefix_len (λ key. not (bytes_eq q key.items)) (map (λ e. e.0) es)
prefixes q [] all = refl
prefixes q (e ∷ es) all =
    let here : e.0.items ≡ encoding e.1 = All-head StandsUnderIt e es all in
    let rest = prefixes q es (All-tail StandsUnderIt e es all) in
    rw (here, rest) refl

-- a member's number is the index of its octets
pub member_found : {A : Type 0} (name : List Component) (q : List ℕ) (es : List (Entry A)) → q ≡ encoding name
    → All StandsUnderIt es
    → position (λ key. bytes_eq q key.items) (map (λ e. e.0) es) ≡ member_of name (map (λ e. e.1) es)
member_found name q es same all =
    rw (same, prefixes (encoding name) es all, length-map es (λ e. e.0), length-map es (λ e. e.1)) refl

-- a member of a new name goes last
module _ {A : Type 0} (k : Vec ℕ A) (name : List Component) (es more : List (Entry A)) (same : k.items ≡ encoding name)
    (own : IsOwnName name) (are : AreMembers es) (none : member_of name (map (λ e. e.1) es) ≡ None)
    (written : more ≡ insert_entry (λ x y. bytes_eq x.items y.items) es k name) where
  last : more ≡ es ++ (k, name) ∷ []
  last =
      let t = λ (other : Vec ℕ A). bytes_eq k.items other.items in
      let absent = (Missing-position t es (member_found name k.items es same are.octets ∙ none)).absent in
      written ∙ insert_entry-absent (λ x y. bytes_eq x.items y.items) k name es absent

  pub with_member : map (λ e. e.1) more ≡ map (λ e. e.1) es ++ name ∷ []
  with_member = ap (map (λ e. e.1)) last ∙ map-append (λ e. e.1) es ((k, name) ∷ [])

  pub still_members : length es + 1 ≤ 16 → AreMembers more
  still_members room = record {
    octets = rw last (All-push StandsUnderIt es (k, name) are.octets same);
    names = rw last (All-push (λ entry. IsOwnName entry.1) es (k, name) are.names own);
    few = omega (arith, ap length last, length-append es ((k, name) ∷ []));
  }

-- ---- what a roster's names are

differ_from : {A : Type 0} (k : Vec ℕ A) (name : List Component) (es : List (Entry A)) → k.items ≡ encoding name
    → All StandsUnderIt es
    → AllByRecursion (λ (y : Vec ℕ A). bytes_eq k.items y.items ≡ false) (map (λ e. e.0) es)
    → AllByRecursion (λ y. has_same_octets name y ≡ false) (map (λ e. e.1) es)
differ_from k name [] same all apart = apart
differ_from k name (e ∷ es) same all apart =
    let here : e.0.items ≡ encoding e.1 = All-head StandsUnderIt e es all in
    let first : bytes_eq (encoding name) (encoding e.1) ≡ false = rw (← same, ← here) apart.0 in
    (first, differ_from k name es same (All-tail StandsUnderIt e es all) apart.1)

pub names_differ : {A : Type 0} (es : List (Entry A)) → All StandsUnderIt es
    → IsDistinct (λ (x y : Vec ℕ A). bytes_eq x.items y.items) (map (λ e. e.0) es)
    → IsDistinct has_same_octets (map (λ e. e.1) es)
unfolding IsDistinct
names_differ [] all apart = apart
names_differ (e ∷ es) all apart =
    let rest = All-tail StandsUnderIt e es all in
    (differ_from e.0 e.1 es (All-head StandsUnderIt e es all) rest apart.0, names_differ es rest apart.1)

pub are_roster : {A : Type 0} (es : List (Entry A)) → AreMembers es
    → IsDistinct (λ (x y : Vec ℕ A). bytes_eq x.items y.items) (map (λ e. e.0) es) → IsRoster (map (λ e. e.1) es)
are_roster es are apart = record {
  few = omega (arith, are.few, length-map es (λ e. e.1));
  names = All-map IsOwnName (λ e. e.1) es are.names;
  different = names_differ es are.octets apart;
}
