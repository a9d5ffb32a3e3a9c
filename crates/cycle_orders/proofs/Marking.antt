-- Marks that are set and taken back.
use Rattle.std.proofs.Common.{◌≡◌, ◌≢◌, ℕ, zero, suc, List, [], ◌∷◌, Some, refl, ap, set, slice_get}
use Rattle.std.proofs.lemmas.Option.{none-some}
use Rattle.constraint_cycles.specs.declared.mark.Mark.{Mark}
use Rattle.constraint_cycles.specs.declared.mark.Mark.TheVariants.{Open}

-- what was open is so again
pub set_back : (marks : List Mark) (item : ℕ) (mark : Mark) → slice_get marks item ≡ Some Open → set (set marks item mark) item Open ≡ marks
set_back [] item mark at = absurd (none-some Open at)
set_back (x ∷ marks) zero mark at = let is : x ≡ Open = cc in rw is refl
set_back (x ∷ marks) (suc item) mark at = ap (λ rest. x ∷ rest) (set_back marks item mark at)

pub set_again : (marks : List Mark) (item : ℕ) (one two : Mark) → set (set marks item one) item two ≡ set marks item two
set_again [] item one two = refl
set_again (x ∷ marks) zero one two = refl
set_again (x ∷ marks) (suc item) one two = ap (λ rest. x ∷ rest) (set_again marks item one two)

pub set_here : (marks : List Mark) (item : ℕ) (old new : Mark) → slice_get marks item ≡ Some old → slice_get (set marks item new) item ≡ Some new
set_here [] item old new at = absurd (none-some old at)
set_here (x ∷ marks) zero old new at = refl
set_here (x ∷ marks) (suc item) old new at = set_here marks item old new at

pub set_same : (marks : List Mark) (item : ℕ) (mark : Mark) → slice_get marks item ≡ Some mark → set marks item mark ≡ marks
set_same [] item mark at = refl
set_same (x ∷ marks) zero mark at = let is : x ≡ mark = cc in rw is refl
set_same (x ∷ marks) (suc item) mark at = ap (λ rest. x ∷ rest) (set_same marks item mark at)

pub set_there : (marks : List Mark) (item other : ℕ) (mark : Mark) → item ≢ other → slice_get (set marks item mark) other ≡ slice_get marks other
set_there [] item other mark apart = refl
set_there (x ∷ marks) zero zero mark apart = absurd (apart refl)
set_there (x ∷ marks) zero (suc other) mark apart = refl
set_there (x ∷ marks) (suc item) zero mark apart = refl
set_there (x ∷ marks) (suc item) (suc other) mark apart = set_there marks item other mark (λ same. apart (ap suc same))
