-- The fractions of a report. Each is printed in lowest terms.
use Rattle.std.specs.Prelude.{codes, ℕ, List, [], Option, None, Some, ◌≡◌, ◌++◌, ◌+◌, ◌-◌, ◌*◌, ◌<◌, decimal, nat_lt, if◌then◌else◌}
use Rattle.sig_base.specs.Fraction.{Fraction, over, IsLowest, IsSameFraction}
use Rattle.flow_model.specs.declared.lane.Lane.{Lane}
use Rattle.delay_report.specs.Delay.{IsSaturated, delay_of}

-- the value in lowest terms
pub record IsReduced (value f : Fraction) : Type 0 where
  pub lowest : IsLowest f.num f.den
  pub same : IsSameFraction f value

abbrev pub fraction_text : Fraction → List ℕ
fraction_text f = decimal f.num ++ (codes "/" ++ decimal f.den)

-- a hundred times what a multiplier is above 1, or below it
abbrev pub reserve_size : Fraction → Fraction
reserve_size m = over (100 * ((m.num - m.den) + (m.den - m.num))) m.den

-- the reserve capacity, with a minus sign where the multiplier is below 1
abbrev pub reserve_text : Fraction → Fraction → List ℕ
reserve_text m size = (if nat_lt m.num m.den then codes "-" else []) ++ fraction_text size

-- the delay of a lane in seconds per vehicle, or none where the lane is saturated
abbrev pub IsDelay : Lane → ℕ → ℕ → Option Fraction → Type 0
IsDelay lane effective cycle None = IsSaturated lane effective cycle
IsDelay lane effective cycle (Some d) = IsReduced (delay_of lane effective cycle) d × ¬ IsSaturated lane effective cycle

abbrev pub delay_text : Option Fraction → List ℕ
delay_text None = codes "over"
delay_text (Some d) = fraction_text d
