-- What a rule of needs keeps beside its closure.
use Rattle.std.specs.Prelude.{ℕ, ◌≡◌, ◌<◌, ◌≤◌, ◌^◌}
use Rattle.std.specs.Coded.{×_prop, Π_prop, le_prop, Coded-set, coded_ℕ}
use mathlib.Core.HProp.{IsProp-prop}
use Rattle.sig_base.specs.Fraction.{Fraction}
use Rattle.sig_base.specs.Ratio.{fraction_of}
use Rattle.sig_base.specs.Times.{IsCycle}
use Rattle.sig_base.specs.declared.lane_set.LaneSet.{LaneSet}
use Rattle.sig_base.specs.declared.target.Target.{Target}
use Rattle.sig_base.specs.declared.target.Target.TheVariants.{Reach, Beat}
use Rattle.junction_model.specs.Junction.{JunctionView}
use Rattle.plan_model.specs.Fits.{group_count}
use Rattle.least_greens.specs.NeedOf.{need_of}

abbrev pub multiple_of : Target → Fraction
multiple_of (Reach r) = fraction_of r
multiple_of (Beat r) = fraction_of r

-- the questions that a rule answers: any ratio of two numbers of 64 bits, any cycle and any group of the junction
abbrev pub IsQuestion : JunctionView → Target → ℕ → ℕ → Type 0
IsQuestion junction target cycle i =
    (1 ≤ (multiple_of target).den) × ((multiple_of target).den < 2 ^ 64) × ((multiple_of target).num < 2 ^ 64) × IsCycle cycle × (i < group_count junction)

-- the closure may be called with every question, and answers the need
abbrev pub Answers : {F : Type 0} → (F → Target → ℕ → ℕ → Type 0) → (F → Target → ℕ → ℕ → ℕ → Type 0) → JunctionView → LaneSet → F → Type 0
Answers accepts gives junction lanes f = (target : Target) (cycle i : ℕ) → IsQuestion junction target cycle i →
    (IsProp (accepts f target cycle i) × accepts f target cycle i)
    × ((given : ℕ) → gives f target cycle i given → given ≡ need_of junction lanes target cycle i)

-- this fact has at most one proof, so a rule can keep it; and so has that of a question
pub Answers-prop : {F : Type 0} (accepts : F → Target → ℕ → ℕ → Type 0) (gives : F → Target → ℕ → ℕ → ℕ → Type 0) (junction : JunctionView) (lanes : LaneSet) (f : F) →
    IsProp (Answers accepts gives junction lanes f)
Answers-prop accepts gives junction lanes f = Π_prop (λ target. Π_prop (λ cycle. Π_prop (λ i. Π_prop (λ _.
    ×_prop (λ p q. ×_prop IsProp-prop p.0 p q)
    (Π_prop (λ given. Π_prop (λ _. Coded-set coded_ℕ given (need_of junction lanes target cycle i))))))))

pub IsQuestion-prop : (junction : JunctionView) (target : Target) (cycle i : ℕ) → IsProp (IsQuestion junction target cycle i)
IsQuestion-prop junction target cycle i p q =
    λ along. (
      le_prop p.0 q.0 along,
      le_prop p.1 q.1 along,
      le_prop p.2 q.2 along,
      record { shortest = le_prop p.3.shortest q.3.shortest along; longest = le_prop p.3.longest q.3.longest along },
      le_prop p.4 q.4 along,
    )
