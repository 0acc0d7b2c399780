-- What holds of the one fault that a call can end with.
use Rattle.std.proofs.Common.{◌≡◌, Result, Ok, Err, sym, subst}
use Rattle.std.specs.Prelude.{IfErr}
use Rattle.std.specs.Result.{IsErrAnd}

pub stops_so : {A E : Type 0} (r : Result A E) (P : E → Type 0) (fault : E) → IsErrAnd r (λ f. f ≡ fault) → P fault
    → IfErr r P
stops_so (Ok x) P fault h p = tt
stops_so (Err f) P fault h p = subst P (sym h) p
