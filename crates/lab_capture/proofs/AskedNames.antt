-- Names by which parts are asked for.
use Rattle.std.proofs.Common.{ℕ, ◌<◌, ◌≤◌, List, [], ◌∷◌, ◌++◌, length, Option, Some, None, length-append, arith}
use Rattle.ndn_name.specs.Names.{Component, encoding}
use Rattle.ndn_tlv.specs.Spelling.{element}
use Rattle.repo_object.specs.Wants.{asked_name}

-- more components have no fewer octets
longer : (a b : List Component) → length (encoding a) ≤ length (encoding (a ++ b))
unfolding encoding
longer [] b = omega arith
longer (c ∷ cs) b = omega (
  arith,
  longer cs b,
  length-append (element c.0 c.1) (encoding cs),
  length-append (element c.0 c.1) (encoding (cs ++ b)),
)

-- a name that is too long is too long with a digest, too
pub asked_longer : (name : List Component) (digest : Option (List ℕ)) → 1000 < length (encoding name)
    → 1000 < length (encoding (asked_name name digest))
asked_longer name None long = long
asked_longer name (Some digest) long = omega (arith, long, longer name ((1, digest) ∷ []))
