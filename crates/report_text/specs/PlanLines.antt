-- The lines of a plan's times and multiplier.
use Rattle.std.specs.Prelude.{codes, ℕ, List, [], ◌∷◌, ◌≡◌, ◌++◌, ◌+◌, decimal}
use Rattle.sig_base.specs.Fraction.{Fraction, IsLowest}
use Rattle.junction_model.specs.declared.group.Group.{Group}
use Rattle.junction_model.specs.Junction.{JunctionView}
use Rattle.plan_model.specs.SignalPlan.{PlanView, start_of, green_of}
use Rattle.plan_model.specs.Claims.{IsPlanMultiplier}
use Rattle.report_text.specs.Figures.{IsReduced, fraction_text, reserve_size, reserve_text}

unfoldable pub cycle_line : ℕ → List ℕ
cycle_line cycle = codes "cycle " ++ (decimal cycle ++ codes "\n")

unfoldable pub multiplier_line : Fraction → List ℕ
multiplier_line m = codes "multiplier " ++ (fraction_text m ++ codes "\n")

unfoldable pub reserve_line : Fraction → Fraction → List ℕ
reserve_line m size = codes "reserve " ++ (reserve_text m size ++ codes " per cent\n")

-- the plan's multiplier in lowest terms
pub record IsMultiplier (junction : JunctionView) (p : PlanView) (m : Fraction) : Type 0 where
  pub lowest : IsLowest m.num m.den
  pub multiplier : IsPlanMultiplier junction p m

-- the cycle and the multiplier of a plan
abbrev pub AreCycleLines : JunctionView → PlanView → List ℕ → Type 0
AreCycleLines junction p text = (m : Fraction) × IsMultiplier junction p m × (text ≡ cycle_line p.cycle ++ multiplier_line m)

-- the reserve capacity of a plan
abbrev pub IsReserveLine : JunctionView → PlanView → List ℕ → Type 0
IsReserveLine junction p line =
    (m : Fraction) × (size : Fraction) × IsMultiplier junction p m × IsReduced (reserve_size m) size
    × (line ≡ reserve_line m size)

unfoldable pub group_line : List ℕ → ℕ → ℕ → List ℕ
group_line label start green =
    codes "group " ++ (label ++ (codes " start " ++ (decimal start ++ (codes " green " ++ (decimal green ++ codes "\n")))))

-- a line for each group from number i on
abbrev pub group_lines : PlanView → ℕ → List Group → List ℕ
group_lines p i [] = []
group_lines p i (group ∷ groups) = group_line group.label (start_of p i) (green_of p i) ++ group_lines p (i + 1) groups
