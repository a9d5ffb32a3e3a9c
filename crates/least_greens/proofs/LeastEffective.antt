-- The least effective green with which a lane serves a target, by one division.
use Rattle.std.proofs.Common.{ℕ, ◌+◌, ◌*◌, ◌/◌, ◌<◌, ◌≤◌, ◌↔◌, ◌≡◌, arith}
use Rattle.std.specs.Int.{div_ceil}
use Rattle.std.proofs.lemmas.Grind.{div_ceil_times}
use Rattle.std.proofs.Math.Nat.{div-lt_iff_lt-mul, lt_of_mul-lt-mul_right, mul-le-mul_right}
use Rattle.sig_base.specs.declared.ratio.Ratio.{Ratio}
use Rattle.sig_base.specs.declared.target.Target.TheVariants.{Reach, Beat}
use Rattle.flow_model.specs.declared.lane.Lane.{Lane}
use Rattle.flow_model.specs.Lane.{lane_multiplier_of}
use Rattle.plan_model.specs.Multiplier.{Serves}

beaten_from : (asked served effective : ℕ) → 1 ≤ served → (asked < effective * served) ↔ (asked / served + 1 ≤ effective)
beaten_from asked served effective some =
    let divided = div-lt_iff_lt-mul {x = asked} {y = effective} some in
    (λ above. omega (arith, divided.1 above), λ least. divided.0 (omega (arith, least)))

reached_from : (asked served effective : ℕ) → 1 ≤ served → (asked ≤ effective * served) ↔ (div_ceil asked served ≤ effective)
reached_from asked served effective some =
    let bounds = div_ceil_times asked served some in (
      λ reached.
          let below : div_ceil asked served * served < (effective + 1) * served = omega (arith, bounds.1, reached) in
          let less : div_ceil asked served < effective + 1 = lt_of_mul-lt-mul_right served below in
          omega (arith, less),
      λ least.
          let grown : div_ceil asked served * served ≤ effective * served = mul-le-mul_right served least in
          omega (arith, bounds.0, grown),
    )

regrouped : (limit saturation effective den : ℕ) → limit * saturation * effective * den ≡ effective * (limit * saturation * den)
regrouped limit saturation effective den = omega arith

pub reached_by : (lane : Lane) (r : Ratio) (cycle effective : ℕ) → 1 ≤ lane.limit * lane.saturation * r.den →
    Serves (Reach r) (lane_multiplier_of lane effective cycle)
    ↔ (div_ceil (r.num * (1000 * lane.arrival * cycle)) (lane.limit * lane.saturation * r.den) ≤ effective)
reached_by lane r cycle effective some = rw (regrouped lane.limit lane.saturation effective r.den) (reached_from _ _ effective some)

pub beaten_by : (lane : Lane) (r : Ratio) (cycle effective : ℕ) → 1 ≤ lane.limit * lane.saturation * r.den →
    Serves (Beat r) (lane_multiplier_of lane effective cycle)
    ↔ (r.num * (1000 * lane.arrival * cycle) / (lane.limit * lane.saturation * r.den) + 1 ≤ effective)
beaten_by lane r cycle effective some = rw (regrouped lane.limit lane.saturation effective r.den) (beaten_from _ _ effective some)
