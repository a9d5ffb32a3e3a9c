-- The least multiplier over the lanes below a number.
use Rattle.std.specs.Prelude.{ℕ, Option, None, ◌≡◌, ◌<◌, IsSomeAnd, MatchOption, slice_get}
use Rattle.sig_base.specs.Fraction.{Fraction, IsSameFraction, IsAtMost}
use Rattle.sig_base.specs.Ratio.{fraction_of}
use Rattle.sig_base.specs.declared.lane_set.LaneSet.{LaneSet}
use Rattle.sig_base.specs.declared.ratio.Ratio.{Ratio}
use Rattle.flow_model.specs.Lane.{effective_green}
use Rattle.junction_model.specs.declared.group.Group.{Group}
use Rattle.junction_model.specs.Junction.{JunctionView}
use Rattle.plan_model.specs.SignalPlan.{PlanView, green_of}
use Rattle.plan_model.specs.Multiplier.{CountsAs, multiplier_at}

-- the effective green of group i, in seconds
abbrev pub IsEffectiveAt : JunctionView → PlanView → ℕ → ℕ → Type 0
IsEffectiveAt junction p i seconds = IsSomeAnd (slice_get junction.groups i) (λ (own : Group). seconds ≡ effective_green own.times (green_of p i))

-- the answer has the value of lane k's multiplier, or is none where the lane has none
abbrev pub IsMultiplierAt : JunctionView → PlanView → ℕ → Option Ratio → Type 0
IsMultiplierAt junction p k answer =
    MatchOption answer (multiplier_at junction p k ≡ None) (λ r. IsSomeAnd (multiplier_at junction p k) (λ own. IsSameFraction (fraction_of r) own))

abbrev pub CountsNot : JunctionView → PlanView → LaneSet → ℕ → Type 0
CountsNot junction p lanes k = (own : Fraction) → ¬ CountsAs junction p lanes k own

-- lane k counts, and its multiplier has the fraction's value
abbrev pub CountsFor : JunctionView → PlanView → LaneSet → Fraction → ℕ → Type 0
CountsFor junction p lanes m k = (own : Fraction) × CountsAs junction p lanes k own × IsSameFraction m own

-- the same where the lane counts
abbrev pub IsCountedAt : JunctionView → PlanView → LaneSet → ℕ → Option Ratio → Type 0
IsCountedAt junction p lanes k answer = MatchOption answer (CountsNot junction p lanes k) (λ r. CountsFor junction p lanes (fraction_of r) k)

pub record IsLeastBelow (junction : JunctionView) (p : PlanView) (lanes : LaneSet) (n : ℕ) (m : Fraction) : Type 0 where
  pub reached : (k : ℕ) × CountsFor junction p lanes m k
  pub least : (k : ℕ) (own : Fraction) → k < n → CountsAs junction p lanes k own → IsAtMost m own

abbrev pub FoundBelow : JunctionView → PlanView → LaneSet → ℕ → Option Ratio → Type 0
FoundBelow junction p lanes n found =
    MatchOption found ((k : ℕ) → k < n → CountsNot junction p lanes k) (λ r. IsLeastBelow junction p lanes n (fraction_of r))
