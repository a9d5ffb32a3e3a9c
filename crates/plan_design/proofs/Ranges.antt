-- The parts of a certificate that shows something are in their ranges.
use Rattle.std.proofs.Common.{ℕ, List, [], ◌∷◌, length, length-append, get_or, ◌<◌, ◌≤◌, inl, inr, ap, subst, arith}
use Rattle.std.specs.Prelude.{Option, None, Some, IfSome}
use Rattle.std.proofs.lemmas.List.{get_or_default}
use Rattle.std.proofs.lemmas.List.Elements.{All-get_or}
use Rattle.std.proofs.lemmas.Option.{slice_get-get_or, slice_get_cases}
use Rattle.sig_base.specs.Fraction.{Fraction}
use Rattle.constraint_cycles.specs.Marks.{root_marks}
use Rattle.constraint_cycles.specs.Tree.{AllNodes, IsSound}
use Rattle.constraint_cycles.specs.declared.node.Node.{Node}
use Rattle.junction_model.specs.Junction.{JunctionView}
use Rattle.junction_model.specs.Rules.{IsGroup, IsJunction}
use Rattle.plan_model.specs.Fits.{Fits, group_count}
use Rattle.plan_model.specs.Multiplier.{Meets}
use Rattle.plan_model.specs.SignalPlan.{PlanView, green_of}
use Rattle.plan_certificate.specs.Ranges.{IsPlanAmong, IsTreeAmong, most_trees}
use Rattle.plan_certificate.specs.declared.claim.Claim.{Claim}
use Rattle.plan_certificate.specs.declared.claim.Claim.TheVariants.{Capacity, Cycle, Infeasible, Stopped}
use Rattle.certificate_checker.specs.ClaimTrees.{tree_count}
use Rattle.certificate_checker.specs.Proves.{HasPlanFor}
use Rattle.plan_design.specs.DesignLaws.{ShownRangeLaw, StoppedRangeLaw}
use Rattle.plan_design.proofs.NodeRanges.{tree_among}
use Rattle.plan_design.proofs.StretchedTargets.{tree_at}

module _ (junction : JunctionView) (rules : IsJunction junction) where
  -- a tree whose nodes are sound for some needs
  among : (needs : List ℕ) (cycle : ℕ) (nodes : List Node) → AllNodes (IsSound junction.conflicts needs cycle) (root_marks junction.conflicts ∷ []) nodes →
      IsTreeAmong (group_count junction) nodes
  among needs cycle nodes sound =
      subst (λ groups. IsTreeAmong groups nodes) rules.conflicts.same_groups (tree_among junction.conflicts rules.conflicts.table needs cycle nodes sound)

  short_green : (p : PlanView) → Fits junction p → (i : ℕ) → i < group_count junction → green_of p i ≤ 300
  short_green p fits i below = elim (slice_get_cases junction.groups i).1 [
    | inl there ↦ (
        let group = there.0 in
        let times = (subst IsGroup there.3 (All-get_or IsGroup junction.groups i group below rules.groups.each)).times in
        omega (arith, fits.longest i group there.2, times.max_green.1))
    | inr past ↦ absurd (omega (arith, past.0, below))
  ]

  plan_among : (p : PlanView) → Fits junction p → IsPlanAmong (group_count junction) p
  plan_among p fits = record {
    some = omega (arith, rules.cycles.some, fits.cycle.least);
    cycle = omega (arith, rules.cycles.longest, fits.cycle.greatest);
    starts = (fits.groups.starts, λ i other below. omega (arith, fits.starts i other below, rules.cycles.longest, fits.cycle.greatest));
    greens = (
      fits.groups.greens,
      λ i other below.
          let own = short_green p fits i (omega (arith, below, fits.groups.greens)) in
          omega (arith, get_or_default p.greens i other 0 below, own),
    );
  }

  any_among : (least : Fraction) (plan : Option PlanView) → IfSome plan (λ p. Meets junction p least) → IfSome plan (IsPlanAmong (group_count junction))
  any_among least None meets = tt
  any_among least (Some p) meets = plan_among p meets.fits

  few_trees : (claim : Claim) (least : Fraction) (plan : Option PlanView) → HasPlanFor claim plan → IfSome plan (λ p. Meets junction p least) →
      tree_count junction claim plan ≤ most_trees
  few_trees Capacity least plan stated meets = omega (arith, rules.cycles.some, rules.cycles.longest)
  few_trees Cycle least None stated meets = absurd stated
  few_trees Cycle least (Some p) stated meets = omega (arith, meets.fits.cycle.greatest, rules.cycles.longest)
  few_trees Infeasible least plan stated meets = omega (arith, rules.cycles.some, rules.cycles.longest)
  few_trees Stopped least plan stated meets = absurd stated

pub shown_range_law : ShownRangeLaw
shown_range_law junction c rules least budget proves = record {
  few = omega (arith, proves.trees, few_trees junction rules c.claim c.least c.plan proves.stated proves.meets);
  trees = λ k other below.
      let nodes = get_or c.branches k other in
      let closes = proves.closed k nodes (slice_get-get_or c.branches k other below) in
      among junction rules _ _ nodes closes.sound;
  budget = budget;
  least = least;
  plan = any_among junction rules c.least c.plan proves.meets;
}

pub stopped_range_law : StoppedRangeLaw
stopped_range_law junction least budget c rules in_range some stop =
    let search = stop.search in
    record {
      few = omega (arith, ap length search.joined, length-append search.finished (search.last ∷ []), search.within, rules.cycles.some, rules.cycles.longest);
      trees = λ k other below.
          let nodes = get_or c.branches k other in
          let tree = tree_at _ c.branches junction.least_cycle k nodes search.trees (slice_get-get_or c.branches k other below) in
          among junction rules _ _ nodes tree.sound;
      budget = some;
      least = in_range;
      plan = any_among junction rules c.least c.plan stop.part.meets;
    }
