-- What holds whether a call succeeds or not.
use Rattle.std.specs.Prelude.{Result, Ok, Err, OnOk, OnErr}

-- A property that always holds also holds where the result is an error.
pub where_err : {X Y P : Type 0} (r : Result X Y) → P → OnErr r P
where_err (Ok x) p = tt
where_err (Err e) p = p

-- A property that holds where a call succeeds, and where it fails, holds.
pub either_way : {X Y P : Type 0} (r : Result X Y) → OnOk r P → OnErr r P → P
either_way (Ok x) p q = p
either_way (Err e) p q = q
