-- What holds of answers that may be errors.
use Rattle.std.proofs.Common.{Result, Ok, Err, OnErr}

-- what holds anyway holds where the answer is an error
pub on_err_always : {T E : Type 0} (r : Result T E) {P : Type 0} → P → OnErr r P
on_err_always (Ok x) p = tt
on_err_always (Err e) p = p
