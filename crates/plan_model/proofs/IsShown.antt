-- Why each group of a plan that fits is shown.
use Rattle.std.proofs.Common.{ℕ, inl, inr, ◌≡◌, ◌<◌, ◌≤◌, arith}
use Rattle.std.specs.Prelude.{Some, All, slice_get}
use Rattle.std.proofs.lemmas.List.Elements.{All-get_or, All-from_get_or}
use Rattle.std.proofs.lemmas.Option.{slice_get_within, slice_get_cases, get_or_from_slice_get}
use Rattle.junction_model.specs.declared.group.Group.{Group}
use Rattle.junction_model.specs.Junction.{JunctionView}
use Rattle.junction_model.specs.Rules.{IsJunction, IsGroup}
use Rattle.plan_model.specs.SignalPlan.{PlanView, start_of, green_of}
use Rattle.plan_model.specs.Fits.{Fits, HasEachGroup, IsWithinLimits, group_count}
use Rattle.plan_model.specs.Gap.{IsShown}

group_rules : (junction : JunctionView) (i : ℕ) (group : Group) → IsJunction junction → slice_get junction.groups i ≡ Some group → IsGroup group
group_rules junction i group rules is =
    rw (get_or_from_slice_get junction.groups i group group is) at
    (All-get_or IsGroup junction.groups i group (slice_get_within _ _ _ is) rules.groups.each)

pub group_there : (junction : JunctionView) (i : ℕ) → i < group_count junction → (group : Group) × (slice_get junction.groups i ≡ Some group)
group_there junction i h =
    elim (slice_get_cases junction.groups i).1 [ inl w ↦ (w.0, w.2) | inr w ↦ absurd (omega (arith, w.0)) ]

abbrev pub AreLongEnough : JunctionView → PlanView → Type 0
AreLongEnough junction p = (i : ℕ) (group : Group) → slice_get junction.groups i ≡ Some group → group.times.min_green ≤ green_of p i

some_green : (junction : JunctionView) (p : PlanView) (i : ℕ) → IsJunction junction → AreLongEnough junction p → i < group_count junction → 1 ≤ green_of p i
some_green junction p i rules long h =
    let there = group_there junction i h in
    omega (arith, (group_rules junction i there.0 rules there.1).times.shown, long i there.0 there.1)

pub each_shown : (junction : JunctionView) (p : PlanView) → IsJunction junction → HasEachGroup junction p → IsWithinLimits junction p →
    All (λ start. start < p.cycle) p.starts → AreLongEnough junction p → IsShown junction p
each_shown junction p rules each cycle starts long = record {
  groups = each;
  cycle = omega (arith, rules.cycles.some, cycle.least);
  starts = starts;
  greens = All-from_get_or (λ green. 1 ≤ green) p.greens 0 (λ i h. some_green junction p i rules long (omega (arith, each.greens)));
}

pub fits_shown : (junction : JunctionView) (p : PlanView) → IsJunction junction → Fits junction p → IsShown junction p
fits_shown junction p rules fits = each_shown junction p rules fits.groups fits.cycle fits.starts fits.greens

-- each group starts before the cycle ends
pub shown_start : (junction : JunctionView) (p : PlanView) (i : ℕ) → IsShown junction p → i < group_count junction → start_of p i < p.cycle
shown_start junction p i shown h = All-get_or (λ start. start < p.cycle) p.starts i 0 (omega (arith, shown.groups.starts)) shown.starts

-- and so does each group of the conflicts
pub start_in : (junction : JunctionView) (p : PlanView) → IsJunction junction → IsShown junction p → (g : ℕ) → g < junction.conflicts.groups →
    start_of p g < p.cycle
start_in junction p rules shown g below = let same = rules.conflicts.same_groups in shown_start junction p g shown (omega arith)

pub shown_green : (junction : JunctionView) (p : PlanView) (i : ℕ) → IsShown junction p → i < group_count junction → 1 ≤ green_of p i
shown_green junction p i shown h = All-get_or (λ green. 1 ≤ green) p.greens i 0 (omega (arith, shown.groups.greens)) shown.greens
