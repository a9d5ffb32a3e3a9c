-- What a shelf holds, where it tells that, and the causes of its answers.
use Rattle.std.specs.Prelude.{ℕ, List, length, Option, None, Some, Result, ◌≡◌, ◌<◌, ◌≤◌, ◌⊎◌, IsErrOf, IfSome, IsSomeAnd}
use Rattle.std.specs.Ordering.{nat_cmp}
use Rattle.std.specs.Cmp.Lexicographic.{slice_cmp}
use Rattle.std.specs.FinMap as finite
use Rattle.std.specs.FinMap.{FinMap}
use Rattle.sig_base.specs.FaultCount.{Rose}
use Rattle.sig_base.specs.declared.shelf.ShelfFault.{ShelfFault}
use Rattle.sig_base.specs.declared.shelf.ShelfFault.TheVariants.{Failed, TooLong, Memory}

-- from names to bytes
abbrev pub Holdings : Type 0
Holdings = FinMap (slice_cmp nat_cmp) (List ℕ)

-- the bytes of a name
abbrev pub held : Holdings → List ℕ → Option (List ℕ)
held m name = finite.get m name

-- the name holds these bytes, and all else stays
abbrev pub with_held : Holdings → List ℕ → List ℕ → Holdings
with_held m name bytes = finite.insert m name bytes

-- the shelf tells what it holds, and doesn't hold the name
abbrev pub Lacks : Option Holdings → List ℕ → Type 0
Lacks holdings name = IsSomeAnd holdings (λ m. held m name ≡ None)

-- the shelf tells what it holds, and the name's bytes are more than the limit
abbrev pub Exceeds : Option Holdings → List ℕ → ℕ → Type 0
Exceeds holdings name limit = IsSomeAnd holdings (λ m. IsSomeAnd (held m name) (λ bytes. limit < length bytes))

-- when each refusal of a fetch comes, by the two counts before and after
pub record FetchCause {T : Type 0} (holdings : Option Holdings) (name : List ℕ) (limit : ℕ)
    (faults_old faults_new refusals_old refusals_new : ℕ) (result : Result T ShelfFault) : Type 0 where
  pub faults_later : faults_old ≤ faults_new
  pub refusals_later : refusals_old ≤ refusals_new
  pub failed : IsErrOf result Failed → Rose faults_old faults_new ⊎ Lacks holdings name
  pub too_long : IsErrOf result TooLong → Rose refusals_old refusals_new
  pub exceeds : IsErrOf result TooLong → IfSome holdings (λ _. Exceeds holdings name limit)
  pub refused : Exceeds holdings name limit → ¬ Rose faults_old faults_new → IsErrOf result TooLong ⊎ IsErrOf result Memory
  -- neither count rises behind another answer
  pub faults_same : ¬ IsErrOf result Failed → faults_new ≡ faults_old
  pub refusals_same : ¬ IsErrOf result TooLong → refusals_new ≡ refusals_old

-- when a put is refused
pub record PutCause {T : Type 0} (faults_old faults_new : ℕ) (result : Result T ShelfFault) : Type 0 where
  pub later : faults_old ≤ faults_new
  pub failed : IsErrOf result Failed → Rose faults_old faults_new
  pub not_too_long : ¬ IsErrOf result TooLong
  -- the count doesn't rise behind another answer
  pub same : ¬ IsErrOf result Failed → faults_new ≡ faults_old

-- the name holds the bytes, and all else stays; nothing is told where nothing was
abbrev pub Puts : Option Holdings → Option Holdings → List ℕ → List ℕ → Type 0
Puts None new name bytes = new ≡ None
Puts (Some m) new name bytes = new ≡ Some (with_held m name bytes)
