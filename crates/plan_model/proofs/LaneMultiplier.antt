-- The lane and the group of a lane's multiplier.
use Rattle.std.proofs.Common.{ℕ, Bool, true, false, ◌≡◌, ◌*◌, ◌<◌, ◌≤◌, refl, subst, inl, inr, length, arith}
use Rattle.std.specs.Prelude.{None, Some, ◌==◌, if◌then◌else◌, option_and_then, slice_get}
use Rattle.std.proofs.Math.Nat.{mul-pos}
use Rattle.std.proofs.lemmas.Bool.{eqb-false, ne_eqb}
use Rattle.std.proofs.lemmas.List.Elements.{All-get_or}
use Rattle.std.proofs.lemmas.Option.{slice_get_within, slice_get_cases, get_or_from_slice_get, option_and_then_some}
use Rattle.sig_base.specs.Fraction.{Fraction}
use Rattle.flow_model.specs.declared.lane.Lane.{Lane}
use Rattle.junction_model.specs.declared.group.Group.{Group}
use Rattle.junction_model.specs.Junction.{JunctionView}
use Rattle.junction_model.specs.Rules.{IsJunction, IsLane}
use Rattle.plan_model.specs.SignalPlan.{PlanView, green_of}
use Rattle.plan_model.specs.Multiplier.{multiplier_at, lane_multiplier_under}
use Rattle.plan_model.specs.MultiplierLaws.{LaneDenominatorLaw}
use Rattle.plan_model.specs.Serving.{multiplier_under}

-- the lane of a multiplier, and its group
pub record IsOfLane (junction : JunctionView) (p : PlanView) (k : ℕ) (lane : Lane) (group : Group) (m : Fraction) : Type 0 where
  pub lane_there : slice_get junction.lanes k ≡ Some lane
  pub group_there : slice_get junction.groups lane.group ≡ Some group
  pub arrives : 1 ≤ lane.arrival
  pub value : multiplier_under lane group.times p.cycle (green_of p lane.group) ≡ m

-- an arrival of 0 gives none
arriving : (n : ℕ) (b : Bool) (x m : Fraction) → (n == 0) ≡ b → (if b then None else Some x) ≡ Some m → (1 ≤ n) × (x ≡ m)
arriving n true x m is found = absurd (cc)
arriving n false x m is found = let none : n ≡ 0 → ⊥ = eqb-false n 0 is in (grind arith, cc)

pub lane_of : (junction : JunctionView) (p : PlanView) (k : ℕ) (m : Fraction) → multiplier_at junction p k ≡ Some m →
    (lane : Lane) × (group : Group) × IsOfLane junction p k lane group m
lane_of junction p k m found =
    option_and_then_some (λ (lane : Lane). option_and_then (lane_multiplier_under p lane) (slice_get junction.groups lane.group)) (slice_get junction.lanes k) m
    found (λ lane lane_there with_group. option_and_then_some (lane_multiplier_under p lane) (slice_get junction.groups lane.group) m with_group (λ group group_there under.
    let flows = arriving lane.arrival (lane.arrival == 0) (multiplier_under lane group.times p.cycle (green_of p lane.group)) m refl under in
    (lane, group, record { lane_there = lane_there; group_there = group_there; arrives = flows.0; value = flows.1 })))

-- where something arrives, the lane has a multiplier
pub multiplier_of : (junction : JunctionView) (p : PlanView) (k : ℕ) (lane : Lane) (group : Group) → slice_get junction.lanes k ≡ Some lane →
    slice_get junction.groups lane.group ≡ Some group → 1 ≤ lane.arrival →
    multiplier_at junction p k ≡ Some (multiplier_under lane group.times p.cycle (green_of p lane.group))
multiplier_of junction p k lane group lane_there group_there arrives =
    let some : (lane.arrival == 0) ≡ false = ne_eqb lane.arrival 0 (λ none. omega arith) in rw (lane_there, group_there, some) refl

pub lane_group : (junction : JunctionView) (k : ℕ) (lane : Lane) → IsJunction junction → slice_get junction.lanes k ≡ Some lane →
    (group : Group) × (slice_get junction.groups lane.group ≡ Some group)
lane_group junction k lane rules there =
    let rule = rw (get_or_from_slice_get junction.lanes k lane lane there) at
    (All-get_or (IsLane (length junction.groups)) junction.lanes k lane (slice_get_within _ _ _ there) rules.lanes.each) in
    elim (slice_get_cases junction.groups lane.group).1 [ inl w ↦ (w.0, w.2) | inr w ↦ absurd (omega (arith, w.0, rule.served)) ]

pub some_product : (a b : ℕ) → 1 ≤ a → 1 ≤ b → 1 ≤ 1000 * a * b
some_product a b p q = let some : 0 < a * b = mul-pos p q in omega arith

pub lane_denominator_law : LaneDenominatorLaw
lane_denominator_law junction p k own rules some found =
    let of = lane_of junction p k own found in
    subst (λ (f : Fraction). 1 ≤ f.den) of.2.value (some_product of.0.arrival p.cycle of.2.arrives some)
