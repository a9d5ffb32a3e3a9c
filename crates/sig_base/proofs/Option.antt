-- The value of an option that has one.
use Rattle.std.proofs.Common.{Option, None, Some, IsSome, IsSomeAnd, unwrap_or, ◌≡◌, refl}
use Rattle.std.proofs.lemmas.Bool.{false≢true}

pub some_value : {X : Type 0} (o : Option X) → IsSome o → (x : X) × (o ≡ Some x)
some_value None some = absurd (false≢true some)
some_value (Some x) some = (x, refl)

-- the same where P holds of the value
pub some_and : {X : Type 0} (o : Option X) (P : X → Type 0) → IsSomeAnd o P → (x : X) × (o ≡ Some x) × P x
some_and None P h = absurd h
some_and (Some x) P h = (x, refl, h)

-- the same where another value would stand for a missing one
pub some_or : {X : Type 0} (o : Option X) (other : X) → IsSome o → o ≡ Some (unwrap_or o other)
some_or None other some = absurd (false≢true some)
some_or (Some x) other some = refl
