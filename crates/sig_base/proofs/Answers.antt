-- What holds whatever an answer holds where it is Ok, or Err.
use Rattle.std.proofs.Common.{Result, Ok, Err, IfOk, IfErr}

pub if_ok_always : {T E : Type 0} (r : Result T E) (P : T → Type 0) → ((x : T) → P x) → IfOk r P
if_ok_always (Ok x) P always = always x
if_ok_always (Err e) P always = tt

pub if_err_always : {T E : Type 0} (r : Result T E) (P : E → Type 0) → ((e : E) → P e) → IfErr r P
if_err_always (Ok x) P always = tt
if_err_always (Err e) P always = always e
