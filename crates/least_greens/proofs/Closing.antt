-- What closes for a target closes for greater ones, and excludes the plans that meet the target.
use Rattle.std.proofs.Common.{ℕ, List, ◌≡◌, ◌<◌, slice_index, ◌-◌, ◌≤◌, inl, inr, arith, zero-add}
use Rattle.std.proofs.lemmas.Bool.{cases_lt}
use Rattle.std.proofs.lemmas.List.{get_or_past}
use Rattle.std.proofs.lemmas.List.FromFn.{length-map-range_with_len, get_or-map-range_with_len}
use Rattle.sig_base.specs.declared.lane_set.LaneSet.{LaneSet}
use Rattle.sig_base.specs.declared.target.Target.{Target}
use Rattle.constraint_cycles.specs.Edge.{AreNeeds}
use Rattle.constraint_cycles.specs.TreeLaws.{TreeNeedsLaw}
use Rattle.constraint_cycles.specs.WalkLaws.{ExclusionLaw, GreaterNeedsLaw, NeedNoLess}
use Rattle.junction_model.specs.Junction.{JunctionView}
use Rattle.junction_model.specs.Rules.{IsJunction}
use Rattle.plan_model.specs.Fits.{group_count}
use Rattle.plan_model.specs.Multiplier.{MeetsTarget}
use Rattle.plan_model.specs.OwnOrder.{BeginsWithGroup0, HasNeeds, ClosedTreeLaw}
use Rattle.plan_model.specs.SignalPlan.{PlanView, start_of}
use Rattle.plan_model.specs.Rotation.{FirstStartLaw, RotationLaw, rotated}
use Rattle.least_greens.specs.ClosingLaws.{NeedsLaw, RisingWalkLaw, RisingCycleLaw, ClosedCycleLaw, PassedPlanLaw}
use Rattle.least_greens.specs.Laws.{PlanNeedLaw}
use Rattle.least_greens.specs.NeedOf.{need_of}
use Rattle.least_greens.specs.ForTarget.{needs_of}
use Rattle.least_greens.specs.Targets.{IsNotAbove}
use Rattle.least_greens.proofs.Multipliers.{outdone_law}
use Rattle.least_greens.proofs.NeedOf.{need_law, rising_need_law}

-- numbers that are each group's need
pub are_needs : (junction : JunctionView) (lanes : LaneSet) (target : Target) (cycle : ℕ) (needs : List ℕ) → IsJunction junction →
    ((g : ℕ) → g < group_count junction → slice_index needs g ≡ need_of junction lanes target cycle g) → AreNeeds junction.conflicts needs
are_needs junction lanes target cycle needs rules each g below =
    let is = need_law junction lanes target cycle g in
    let own = each g (omega (arith, rules.conflicts.same_groups)) in
    record { some = omega (arith, own, is.some); most = omega (arith, own, is.most) }

pub needs_law : NeedsLaw
needs_law junction lanes target cycle =
    let own : (g : ℕ) → g < group_count junction → slice_index (needs_of junction lanes target cycle) g ≡ need_of junction lanes target cycle g = λ g below.
    get_or-map-range_with_len (need_of junction lanes target cycle) 0 (group_count junction) g g 0 below (zero-add g) in (
      length-map-range_with_len (need_of junction lanes target cycle) 0 (group_count junction),
      own,
      λ rules. are_needs junction lanes target cycle (needs_of junction lanes target cycle) rules own,
    )

-- past the last group no need is listed
risen_needs : (junction : JunctionView) (lanes : LaneSet) (s t : Target) (cycle : ℕ) → 1 ≤ cycle → IsNotAbove s t →
    NeedNoLess junction.conflicts (needs_of junction lanes s cycle) (needs_of junction lanes t cycle)
risen_needs junction lanes s t cycle some order g below =
    let lesser = needs_law junction lanes s cycle in
    let greater = needs_law junction lanes t cycle in
    elim (cases_lt g (group_count junction)) [
      | inl inside ↦ omega (arith, lesser.1 g inside, greater.1 g inside, rising_need_law junction lanes s t cycle g some order)
      | inr past ↦ omega (arith, get_or_past (needs_of junction lanes s cycle) g 0 (omega (arith, lesser.0)))
    ]

pub rising_walk_law : GreaterNeedsLaw → RisingWalkLaw
rising_walk_law greater junction lanes s t cycle marks walk some order =
    greater junction.conflicts marks (needs_of junction lanes s cycle) (needs_of junction lanes t cycle) cycle walk (risen_needs junction lanes s t cycle some order)

pub rising_cycle_law : TreeNeedsLaw → RisingCycleLaw
rising_cycle_law greater junction lanes s t cycle nodes some order =
    greater junction.conflicts (needs_of junction lanes s cycle) (needs_of junction lanes t cycle) cycle nodes (risen_needs junction lanes s t cycle some order)

met_needs : PlanNeedLaw → (junction : JunctionView) (p : PlanView) (lanes : LaneSet) (target : Target) → IsJunction junction → MeetsTarget junction p lanes target →
    HasNeeds junction p (needs_of junction lanes target p.cycle)
met_needs plan_need junction p lanes target rules meets g below =
    let needs = ((plan_need junction p lanes target rules).0 meets).1 in
    rw ((needs_law junction lanes target p.cycle).1 g below) (needs g below)

pub closed_cycle_law : RotationLaw → FirstStartLaw → PlanNeedLaw → ClosedTreeLaw → ClosedCycleLaw
closed_cycle_law rotation first_start plan_need closed_tree junction p lanes target nodes rules closes meets =
    let by = p.cycle - start_of p 0 in
    let as_good = rotation junction p by rules meets.fits in
    let begins : BeginsWithGroup0 junction (rotated by p) = record { rules = rules; fits = as_good.fits; first = first_start junction p rules meets.fits } in
    let needs = met_needs plan_need junction (rotated by p) lanes target rules (as_good.meets_target lanes target meets) in
    closed_tree junction (rotated by p) (needs_of junction lanes target p.cycle) nodes begins needs closes

pub passed_plan_law : PlanNeedLaw → GreaterNeedsLaw → ExclusionLaw → PassedPlanLaw
passed_plan_law plan_need greater exclusion junction p lanes target marks walk begins met closes =
    let rules = begins.rules in
    let misses : ¬ MeetsTarget junction p lanes target = λ meets.
    let needs : NeedNoLess junction.conflicts (needs_of junction lanes target p.cycle) p.greens = λ g below.
    met_needs plan_need junction p lanes target rules meets g (omega (arith, rules.conflicts.same_groups)) in
    exclusion junction.conflicts marks p.greens p.cycle p.starts walk met
    (greater junction.conflicts marks (needs_of junction lanes target p.cycle) p.greens p.cycle walk needs closes) in (
      misses,
      λ r least. outdone_law junction p lanes r target (omega (arith, rules.cycles.some, begins.fits.cycle.least)) least
          (λ serves. misses (record { fits = begins.fits; serves = serves })),
    )
