-- The rules of a certificate's trees, all cycles together.
use Rattle.std.proofs.Common.{ℕ, List, [], ◌∷◌, length, map, ◌≡◌, ◌≢◌, ◌+◌, ◌<◌, ◌≤◌, ◌⊎◌, inl, inr, refl, sym, ap, ◌∙◌, Bool, true, false, arith, subst, nat_lt}
use Rattle.std.specs.Prelude.{Option, None, Some, All, IfSome, IsSomeAnd, slice_get, if◌then◌else◌, ◌==◌, ◌&&◌}
use Rattle.std.specs.List.{range_with_len}
use Rattle.std.proofs.lemmas.Bool.{cases_lt}
use Rattle.std.proofs.lemmas.List.Elements.{All-get_or}
use Rattle.std.proofs.lemmas.Option.{slice_get_within, get_or_from_slice_get}
use Rattle.sig_base.specs.Fraction.{Fraction, IsAtMost, IsSameFraction}
use Rattle.sig_base.specs.Ratio.{fraction_of}
use Rattle.sig_base.specs.declared.ratio.Ratio.{Ratio}
use Rattle.sig_base.specs.declared.target.Target.{Target}
use Rattle.sig_base.specs.declared.target.Target.TheVariants.{Reach, Beat}
use Rattle.sig_base.proofs.Fraction.{at_most_trans}
use Rattle.constraint_cycles.specs.Tree.{IsVisited}
use Rattle.constraint_cycles.specs.declared.node.Node.{Node}
use Rattle.junction_model.specs.Junction.{JunctionView}
use Rattle.junction_model.specs.Rules.{IsJunction}
use Rattle.plan_model.specs.AllLanes.{all_lanes}
use Rattle.plan_model.specs.Claims.{IsPlanMultiplier}
use Rattle.plan_model.specs.FirstFault.{IsFirstFault, NamesPartsOf, FaultLaw, FaultNamesLaw}
use Rattle.plan_model.specs.Fits.{Fits, group_count}
use Rattle.plan_model.specs.Multiplier.{Meets}
use Rattle.plan_model.specs.SignalPlan.{PlanView}
use Rattle.plan_model.proofs.AllLanes.{all_lanes_multiplier_law}
use Rattle.plan_model.proofs.LaneMultiplier.{lane_denominator_law}
use Rattle.plan_model.proofs.MultiplierLaws.{one_multiplier_law}
use Rattle.least_greens.specs.ForTarget.{needs_of}
use Rattle.least_greens.specs.NeedOf.{need_of}
use Rattle.least_greens.specs.Targets.{IsNotAbove}
use Rattle.least_greens.proofs.NeedOf.{rising_need_law}
use Rattle.plan_model.specs.declared.fault.PlanFault.{PlanFault}
use Rattle.plan_certificate.specs.Certificate.{CertificateView, node_count}
use Rattle.plan_certificate.specs.Ranges.{IsInRange, IsNodeAmong, IsTreeAmong}
use Rattle.plan_certificate.specs.declared.claim.Claim.{Claim}
use Rattle.plan_certificate.specs.declared.claim.Claim.TheVariants.{Capacity, Cycle, Infeasible, Stopped}
use Rattle.certificate_checker.specs.Basis.{BasisView, basis_for, is_stopped}
use Rattle.certificate_checker.specs.CertificateRules.{LacksItsPlan, IsBelowLeast, BreaksInTree, BreaksRule, BreaksNoRule, IsNotAfterInTrees, IsFirstOfAll, turn_of}
use Rattle.certificate_checker.specs.ClaimTrees.{cycle_count, cycle_of_tree, tree_count, HasItsTrees, IsMultipleFor, IsMultipleOf, target_for}
use Rattle.certificate_checker.specs.PlanRules.{HasItsPlan, NoTreeBelow}
use Rattle.certificate_checker.specs.Proves.{HasPlanFor, ClosesItsCycle, ProvesClaim, ProvesPart}
use Rattle.certificate_checker.specs.Rules.{rule_number}
use Rattle.certificate_checker.specs.TreeRules.{BreaksAt, NoneBreaks, IsFirstBroken}
use Rattle.certificate_checker.specs.Verdict.{IsVerdict, IsOfRule, IsVerdictOn}
use Rattle.certificate_checker.specs.declared.rule.Rule.{Rule}
use Rattle.certificate_checker.specs.declared.rule.Rule.TheVariants as rule
use Rattle.certificate_checker.specs.declared.verdict.Verdict.{Verdict}
use Rattle.certificate_checker.specs.declared.verdict.Verdict.TheVariants as verdict
use Rattle.certificate_checker.proofs.Closing.{closes_by, none_by_closing}
use Rattle.certificate_checker.proofs.PlanRules.{whole_first, from_third}
use Rattle.certificate_checker.proofs.TreeRules.{all_visited}

-- equal functions list equal numbers
same_list : (f g : ℕ → ℕ) → ((k : ℕ) → f k ≡ g k) → (xs : List ℕ) → map f xs ≡ map g xs
same_list f g same [] = refl
same_list f g same (x ∷ xs) = rw (same x, same_list f g same xs) refl

-- a rule that is broken at a place of a tree is one of those of trees
of_trees : (basis : BasisView) (nodes : List Node) (broken : Rule) (place : ℕ) → BreaksAt basis nodes broken place → turn_of broken ≡ 5
of_trees basis nodes rule.Tree place b = refl
of_trees basis nodes rule.Pair place b = refl
of_trees basis nodes rule.Unvisited place b = refl
of_trees basis nodes rule.Edge place b = refl
of_trees basis nodes rule.Sum place b = refl
of_trees basis nodes rule.Plan place b = absurd b
of_trees basis nodes (rule.Fit fault) place b = absurd b
of_trees basis nodes rule.Least place b = absurd b
of_trees basis nodes rule.Cycles place b = absurd b
of_trees basis nodes rule.Budget place b = absurd b

to_rule : (junction : JunctionView) (c : CertificateView) (broken : Rule) (cycle place : ℕ) → BreaksInTree junction c broken cycle place → BreaksRule junction c broken cycle place
to_rule junction c rule.Tree cycle place b = b
to_rule junction c rule.Pair cycle place b = b
to_rule junction c rule.Unvisited cycle place b = b
to_rule junction c rule.Edge cycle place b = b
to_rule junction c rule.Sum cycle place b = b
to_rule junction c rule.Plan cycle place b = absurd (b.breaks)
to_rule junction c (rule.Fit fault) cycle place b = absurd (b.breaks)
to_rule junction c rule.Least cycle place b = absurd (b.breaks)
to_rule junction c rule.Cycles cycle place b = absurd (b.breaks)
to_rule junction c rule.Budget cycle place b = absurd (b.breaks)

in_tree_or_not : (junction : JunctionView) (c : CertificateView) (broken : Rule) (cycle place : ℕ) → BreaksRule junction c broken cycle place →
    BreaksInTree junction c broken cycle place ⊎ (turn_of broken ≢ 5)
in_tree_or_not junction c rule.Tree cycle place b = inl b
in_tree_or_not junction c rule.Pair cycle place b = inl b
in_tree_or_not junction c rule.Unvisited cycle place b = inl b
in_tree_or_not junction c rule.Edge cycle place b = inl b
in_tree_or_not junction c rule.Sum cycle place b = inl b
in_tree_or_not junction c rule.Plan cycle place b = inr (λ e. omega (arith, e))
in_tree_or_not junction c (rule.Fit fault) cycle place b = inr (λ e. omega (arith, e))
in_tree_or_not junction c rule.Least cycle place b = inr (λ e. omega (arith, e))
in_tree_or_not junction c rule.Cycles cycle place b = inr (λ e. omega (arith, e))
in_tree_or_not junction c rule.Budget cycle place b = inr (λ e. omega (arith, e))

module _ (junction : JunctionView) (rules : IsJunction junction) where
  some_cycle : (p : PlanView) → Fits junction p → 1 ≤ p.cycle
  some_cycle p fits = omega (arith, rules.cycles.some, fits.cycle.least)

  not_below_least : (least : Fraction) (o : Option PlanView) → IfSome o (λ p. Meets junction p least) → IsSomeAnd o (IsBelowLeast junction least) → ⊥
  not_below_least least None meets b = absurd b
  not_below_least least (Some p) meets b =
      let (k, own, found, same) = b.of_plan.reached in
      let positive = lane_denominator_law junction p k own rules (some_cycle p meets.fits) found in
      let reached : IsAtMost least own = meets.reaches k own found in
      let back : IsAtMost own b.multiplier = omega (arith, same) in
      let all : IsAtMost least b.multiplier = at_most_trans least own b.multiplier positive reached back in
      omega (arith, all, b.below)

  fits_of : (least : Fraction) (o : Option PlanView) → IfSome o (λ p. Meets junction p least) → IfSome o (Fits junction)
  fits_of least None meets = tt
  fits_of least (Some p) meets = meets.fits

  -- targets of one value ask the same needs
  same_needs : (s t : Target) (cycle : ℕ) → 1 ≤ cycle → IsNotAbove s t → IsNotAbove t s → needs_of junction all_lanes s cycle ≡ needs_of junction all_lanes t cycle
  same_needs s t cycle some up down = same_list (need_of junction all_lanes s cycle) (need_of junction all_lanes t cycle)
      (λ i. let a = rising_need_law junction all_lanes s t cycle i some up in let b = rising_need_law junction all_lanes t s cycle i some down in omega (arith, a, b))
      (range_with_len 0 (group_count junction))

  beside_same : (m n : Ratio) (cycle : ℕ) → 1 ≤ cycle → IsSameFraction (fraction_of m) (fraction_of n) → (b : Bool) →
      needs_of junction all_lanes (if b then Reach m else Beat m) cycle ≡ needs_of junction all_lanes (if b then Reach n else Beat n) cycle
  beside_same m n cycle some same true = same_needs (Reach m) (Reach n) cycle some (omega (arith, same)) (omega (arith, same))
  beside_same m n cycle some same false = same_needs (Beat m) (Beat n) cycle some (omega (arith, same)) (omega (arith, same))

  one_target : (claim : Claim) (plan : Option PlanView) (m n : Ratio) (cycle : ℕ) → 1 ≤ cycle → IsSameFraction (fraction_of m) (fraction_of n) →
      needs_of junction all_lanes (target_for claim plan m cycle) cycle ≡ needs_of junction all_lanes (target_for claim plan n cycle) cycle
  one_target Capacity (Some p) m n cycle some same = beside_same m n cycle some same (nat_lt cycle p.cycle)
  one_target Stopped (Some p) m n cycle some same = beside_same m n cycle some same (nat_lt cycle p.cycle)
  one_target Capacity None m n cycle some same = beside_same m n cycle some same true
  one_target Stopped None m n cycle some same = beside_same m n cycle some same true
  one_target Cycle plan m n cycle some same = beside_same m n cycle some same true
  one_target Infeasible plan m n cycle some same = beside_same m n cycle some same true

  one_multiplier : (p : PlanView) (m n : Ratio) → Fits junction p → IsPlanMultiplier junction p (fraction_of m) → IsPlanMultiplier junction p (fraction_of n) →
      IsSameFraction (fraction_of m) (fraction_of n)
  one_multiplier p m n fits of_m of_n =
      one_multiplier_law junction p all_lanes (fraction_of m) (fraction_of n) rules (some_cycle p fits) of_m.positive of_n.positive
      ((all_lanes_multiplier_law junction p (fraction_of m) rules).1 of_m) ((all_lanes_multiplier_law junction p (fraction_of n) rules).1 of_n)

  same_value : (m n : Ratio) (least : Fraction) → fraction_of m ≡ least → fraction_of n ≡ least → IsSameFraction (fraction_of m) (fraction_of n)
  same_value m n least of_m of_n = subst (IsSameFraction (fraction_of m)) (of_m ∙ sym of_n) refl

  one_multiple : (claim : Claim) (plan : Option PlanView) (least : Fraction) (m n : Ratio) → IfSome plan (λ p. Meets junction p least) →
      IsMultipleFor junction claim plan least m → IsMultipleFor junction claim plan least n → IsSameFraction (fraction_of m) (fraction_of n)
  one_multiple Capacity (Some p) least m n meets of_m of_n = one_multiplier p m n meets.fits of_m of_n
  one_multiple Stopped (Some p) least m n meets of_m of_n = one_multiplier p m n meets.fits of_m of_n
  one_multiple Capacity None least m n meets of_m of_n = same_value m n least of_m of_n
  one_multiple Stopped None least m n meets of_m of_n = same_value m n least of_m of_n
  one_multiple Cycle plan least m n meets of_m of_n = same_value m n least of_m of_n
  one_multiple Infeasible plan least m n meets of_m of_n = same_value m n least of_m of_n

module _ (law : FaultLaw) (junction : JunctionView) (rules : IsJunction junction) (c : CertificateView) (multiple : Ratio) (planned : HasItsPlan junction c multiple) where
  -- the turn of every broken rule, where those of the plan are kept
  from_fourth : (other : Rule) (cycle place : ℕ) → BreaksRule junction c other cycle place → 4 ≤ turn_of other
  from_fourth rule.Least cycle place b = absurd (not_below_least junction rules c.least c.plan planned.meets b.0)
  from_fourth rule.Plan cycle place b = absurd (planned.stated b.0)
  from_fourth (rule.Fit fault) cycle place b =
      let low : 3 ≤ 2 = from_third junction c law planned.stated (fits_of junction rules c.least c.plan planned.meets) (rule.Fit fault) cycle place b in absurd (omega arith)
  from_fourth rule.Cycles cycle place b = omega arith
  from_fourth rule.Tree cycle place b = omega arith
  from_fourth rule.Pair cycle place b = omega arith
  from_fourth rule.Unvisited cycle place b = omega arith
  from_fourth rule.Edge cycle place b = omega arith
  from_fourth rule.Sum cycle place b = omega arith
  from_fourth rule.Budget cycle place b = omega arith

  pub cycles_first : ¬ HasItsTrees junction c.claim c.plan (length c.branches) → IsFirstOfAll junction c rule.Cycles 0 0
  cycles_first wrong = whole_first junction c rule.Cycles (λ e. omega (arith, e)) (wrong, (refl, refl)) from_fourth

  basis_same : (other : Ratio) (number : ℕ) → IsMultipleOf junction c other → basis_for junction c other number ≡ basis_for junction c multiple number
  basis_same other number of_other =
      ap (λ needs. record { conflicts = junction.conflicts; needs = needs; cycle = cycle_of_tree junction number; unfinished = (basis_for junction c multiple number).unfinished })
      (one_target junction rules c.claim c.plan other multiple (cycle_of_tree junction number) (omega (arith, rules.cycles.some))
      (one_multiple junction rules c.claim c.plan c.least other multiple planned.meets of_other planned.is))

  abbrev NoneBelow : ℕ → Type 0
  NoneBelow number = NoTreeBelow junction c multiple number

  own_breaks : (other : Rule) (cycle place : ℕ) → (b : BreaksInTree junction c other cycle place) → BreaksAt (basis_for junction c multiple b.number) b.nodes other place
  own_breaks other cycle place b = subst (λ basis. BreaksAt basis b.nodes other place) (basis_same b.multiple b.number b.is) b.breaks

  module _ (trees : HasItsTrees junction c.claim c.plan (length c.branches)) where
    -- with the right number of trees, what is broken is a rule of trees or of the budget
    from_fifth : (other : Rule) (cycle place : ℕ) → turn_of other ≢ 5 → BreaksRule junction c other cycle place → 10 ≤ turn_of other
    from_fifth rule.Budget cycle place other b = omega arith
    from_fifth rule.Cycles cycle place other b = absurd (b.0 trees)
    from_fifth rule.Plan cycle place other b = let low : 4 ≤ 1 = from_fourth rule.Plan cycle place b in absurd (omega arith)
    from_fifth (rule.Fit fault) cycle place other b = let low : 4 ≤ 2 = from_fourth (rule.Fit fault) cycle place b in absurd (omega arith)
    from_fifth rule.Least cycle place other b = let low : 4 ≤ 3 = from_fourth rule.Least cycle place b in absurd (omega arith)
    from_fifth rule.Tree cycle place other b = absurd (other refl)
    from_fifth rule.Pair cycle place other b = absurd (other refl)
    from_fifth rule.Unvisited cycle place other b = absurd (other refl)
    from_fifth rule.Edge cycle place other b = absurd (other refl)
    from_fifth rule.Sum cycle place other b = absurd (other refl)

    -- within one tree
    place_order : (number : ℕ) (nodes : List Node) (broken : Rule) (place : ℕ) → IsFirstBroken (basis_for junction c multiple number) nodes broken place →
        (other : Rule) (other_place : ℕ) → BreaksAt (basis_for junction c multiple number) nodes other other_place →
        (place < other_place) ⊎ ((place ≡ other_place) × (rule_number broken ≤ rule_number other))
    place_order number nodes broken place first other other_place breaks = elim (cases_lt other_place place) [
      | inl u ↦ absurd (first.earlier other other_place u breaks)
      | inr u ↦ elim (cases_lt place other_place) [
        | inl x ↦ inl x
        | inr x ↦
            let here : other_place ≡ place = omega (arith, u, x) in
            inr (sym here, first.smaller other (subst (λ k. BreaksAt (basis_for junction c multiple number) nodes other k) here breaks))
      ]
    ]

    tree_order : (number : ℕ) (nodes : List Node) (broken : Rule) (place : ℕ) → NoneBelow number → slice_get c.branches number ≡ Some nodes →
        IsFirstBroken (basis_for junction c multiple number) nodes broken place → (other : Rule) (cycle other_place : ℕ) → (b : BreaksInTree junction c other cycle other_place) →
        IsNotAfterInTrees broken (cycle_of_tree junction number) place other cycle other_place
    tree_order number nodes broken place none at first other cycle other_place b = elim (cases_lt b.number number) [
      | inl w ↦ absurd (none b.number b.nodes w b.there other other_place (own_breaks other cycle other_place b))
      | inr w ↦ elim (cases_lt number b.number) [
        | inl v ↦ inl (omega (arith, b.of_cycle, v))
        | inr v ↦
            let same : b.number ≡ number = omega (arith, v, w) in
            let there : slice_get c.branches number ≡ Some b.nodes = subst (λ k. slice_get c.branches k ≡ Some b.nodes) same b.there in
            let nodes_same : b.nodes ≡ nodes = cc in
            let breaks : BreaksAt (basis_for junction c multiple number) nodes other other_place =
            subst (λ ns. BreaksAt (basis_for junction c multiple number) ns other other_place) nodes_same
            (subst (λ k. BreaksAt (basis_for junction c multiple k) b.nodes other other_place) same (own_breaks other cycle other_place b)) in
            inr (omega (arith, b.of_cycle, same), place_order number nodes broken place first other other_place breaks)
      ]
    ]

    pub tree_first : (number : ℕ) (nodes : List Node) (broken : Rule) (place : ℕ) → NoneBelow number → slice_get c.branches number ≡ Some nodes →
        IsFirstBroken (basis_for junction c multiple number) nodes broken place → IsFirstOfAll junction c broken (cycle_of_tree junction number) place
    tree_first number nodes broken place none at first =
        let turn = of_trees _ nodes broken place first.broken in
        record {
          breaks = to_rule junction c broken _ place (record { number = number; nodes = nodes; there = at; of_cycle = refl; multiple = multiple; is = planned.is; breaks = first.broken });
          first = λ other cycle other_place b. elim (in_tree_or_not junction c other cycle other_place b) [
            | inl t ↦ inr (turn ∙ sym (of_trees _ t.nodes other other_place t.breaks), tree_order number nodes broken place none at first other cycle other_place t)
            | inr u ↦ inl (omega (arith, turn, from_fifth other cycle other_place u b))
          ];
        }

    late_only : NoneBelow (length c.branches) → (other : Rule) (cycle place : ℕ) → BreaksRule junction c other cycle place → 10 ≤ turn_of other
    late_only none other cycle place b = elim (in_tree_or_not junction c other cycle place b) [
      | inl t ↦ absurd (none t.number t.nodes (slice_get_within c.branches t.number t.nodes t.there) t.there other place (own_breaks other cycle place t))
      | inr u ↦ from_fifth other cycle place u b
    ]

    pub budget_first : NoneBelow (length c.branches) → c.claim ≡ Stopped → node_count c ≢ c.budget → IsFirstOfAll junction c rule.Budget 0 0
    budget_first none stopped wrong =
        whole_first junction c rule.Budget (λ e. omega (arith, e)) (record { stopped = stopped; other = wrong }, (refl, refl)) (late_only none)

    only_budget : (other : Rule) (cycle place : ℕ) → 10 ≤ turn_of other → BreaksRule junction c other cycle place → (c.claim ≡ Stopped) × (node_count c ≢ c.budget)
    only_budget rule.Budget cycle place late b = (b.0.stopped, b.0.other)
    only_budget rule.Plan cycle place late b = absurd (omega (arith, late))
    only_budget (rule.Fit fault) cycle place late b = absurd (omega (arith, late))
    only_budget rule.Least cycle place late b = absurd (omega (arith, late))
    only_budget rule.Cycles cycle place late b = absurd (omega (arith, late))
    only_budget rule.Tree cycle place late b = absurd (omega (arith, late))
    only_budget rule.Pair cycle place late b = absurd (omega (arith, late))
    only_budget rule.Unvisited cycle place late b = absurd (omega (arith, late))
    only_budget rule.Edge cycle place late b = absurd (omega (arith, late))
    only_budget rule.Sum cycle place late b = absurd (omega (arith, late))

    pub none_at_all : NoneBelow (length c.branches) → (c.claim ≡ Stopped → node_count c ≡ c.budget) → BreaksNoRule junction c
    none_at_all none spent other cycle place b =
        let budget = only_budget other cycle place (late_only none other cycle place b) b in budget.1 (spent budget.0)

-- what is told of one more tree
pub no_tree_next : (junction : JunctionView) (c : CertificateView) (multiple : Ratio) (number : ℕ) (nodes : List Node) → slice_get c.branches number ≡ Some nodes →
    NoneBreaks (basis_for junction c multiple number) nodes → NoTreeBelow junction c multiple number → NoTreeBelow junction c multiple (number + 1)
no_tree_next junction c multiple number nodes at here none k other h there = elim (cases_lt k number) [
  | inl w ↦ none k other w there
  | inr w ↦ (
      let same : k ≡ number = omega arith in
      let there_too : slice_get c.branches number ≡ Some other = subst (λ i. slice_get c.branches i ≡ Some other) same there in
      let nodes_same : nodes ≡ other = cc in
      subst (λ i. NoneBreaks (basis_for junction c multiple i) other) (sym same) (subst (NoneBreaks (basis_for junction c multiple number)) nodes_same here))
]

has_plan : (claim : Claim) (plan : Option PlanView) → ¬ LacksItsPlan claim plan → claim ≢ Stopped → HasPlanFor claim plan
has_plan Capacity None stated going = absurd (stated tt)
has_plan Capacity (Some p) stated going = tt
has_plan Cycle None stated going = absurd (stated tt)
has_plan Cycle (Some p) stated going = tt
has_plan Infeasible None stated going = tt
has_plan Infeasible (Some p) stated going = absurd (stated tt)
has_plan Stopped plan stated going = absurd (going refl)

count_of : (junction : JunctionView) (claim : Claim) (plan : Option PlanView) (trees : ℕ) → claim ≢ Stopped → HasItsTrees junction claim plan trees → trees ≡ tree_count junction claim plan
count_of junction Capacity plan trees going h = h
count_of junction Cycle plan trees going h = h
count_of junction Infeasible plan trees going h = h
count_of junction Stopped plan trees going h = absurd (going refl)

finished_by : (claim : Claim) (b : Bool) → claim ≢ Stopped → (is_stopped claim && b) ≡ false
finished_by Capacity b going = refl
finished_by Cycle b going = refl
finished_by Infeasible b going = refl
finished_by Stopped b going = absurd (going refl)

module _ (junction : JunctionView) (rules : IsJunction junction) (c : CertificateView) (multiple : Ratio) (ranges : IsInRange (group_count junction) c)
    (none : NoTreeBelow junction c multiple (length c.branches)) where
  in_range : (k : ℕ) (nodes : List Node) → slice_get c.branches k ≡ Some nodes → All (IsNodeAmong junction.conflicts.groups) nodes
  in_range k nodes at =
      let own : IsTreeAmong (group_count junction) nodes =
      subst (IsTreeAmong (group_count junction)) (get_or_from_slice_get c.branches k nodes nodes at)
      (All-get_or (IsTreeAmong (group_count junction)) c.branches k nodes (slice_get_within c.branches k nodes at) ranges.trees) in
      subst (λ (groups : ℕ). All (IsNodeAmong groups) nodes) (sym rules.conflicts.same_groups) own

  tree_closes : (k : ℕ) (nodes : List Node) → slice_get c.branches k ≡ Some nodes → All IsVisited nodes → ClosesItsCycle junction c multiple k nodes
  tree_closes k nodes at visited =
      closes_by (basis_for junction c multiple k) nodes visited (none k nodes (slice_get_within c.branches k nodes at) at) (in_range k nodes at)

  pub proves_claim : HasItsPlan junction c multiple → HasItsTrees junction c.claim c.plan (length c.branches) → c.claim ≢ Stopped → ProvesClaim junction c
  proves_claim planned trees going = record {
    stated = has_plan c.claim c.plan planned.stated going;
    meets = planned.meets;
    trees = count_of junction c.claim c.plan (length c.branches) going trees;
    multiple = multiple;
    is = planned.is;
    closed = λ k nodes at.
        let finished = finished_by c.claim (k + 1 == length c.branches) going in
        let broken = none k nodes (slice_get_within c.branches k nodes at) at in
        tree_closes k nodes at (all_visited nodes (λ place within there. broken rule.Unvisited place (inl (there, finished))));
  }

  pub proves_part : HasItsPlan junction c multiple → c.claim ≡ Stopped → ProvesPart junction c
  proves_part planned stopped = record {
    stopped = stopped;
    meets = planned.meets;
    multiple = multiple;
    is = planned.is;
    closed = tree_closes;
  }

-- and the other way round: what proves its claim breaks no rule
lacks_not : (claim : Claim) (plan : Option PlanView) → HasPlanFor claim plan → (¬ LacksItsPlan claim plan) × (claim ≢ Stopped)
lacks_not Capacity None h = absurd h
lacks_not Capacity (Some p) h = (λ l. l, λ e. cc)
lacks_not Cycle None h = absurd h
lacks_not Cycle (Some p) h = (λ l. l, λ e. cc)
lacks_not Infeasible None h = (λ l. l, λ e. cc)
lacks_not Infeasible (Some p) h = absurd h
lacks_not Stopped plan h = absurd h

has_trees : (junction : JunctionView) (claim : Claim) (plan : Option PlanView) (trees : ℕ) → claim ≢ Stopped → trees ≡ tree_count junction claim plan → HasItsTrees junction claim plan trees
has_trees junction Capacity plan trees going h = h
has_trees junction Cycle plan trees going h = h
has_trees junction Infeasible plan trees going h = h
has_trees junction Stopped plan trees going h = absurd (going refl)

pub rules_law : FaultLaw → (junction : JunctionView) (c : CertificateView) → IsJunction junction → ProvesClaim junction c → BreaksNoRule junction c × (c.claim ≢ Stopped)
rules_law law junction c rules proves =
    let not = lacks_not c.claim c.plan proves.stated in
    let planned : HasItsPlan junction c proves.multiple = record { stated = not.0; meets = proves.meets; is = proves.is } in
    let none : NoTreeBelow junction c proves.multiple (length c.branches) = λ k nodes within at.
    none_by_closing (basis_for junction c proves.multiple k) nodes (proves.closed k nodes at) (finished_by c.claim (k + 1 == length c.branches) not.1) in
    (none_at_all law junction rules c proves.multiple planned (has_trees junction c.claim c.plan (length c.branches) not.1 proves.trees) none (λ stopped. absurd (not.1 stopped)), not.1)

-- what a verdict says of the claim
module _ (junction : JunctionView) (c : CertificateView) where
  pub proved_proves : (given : Verdict) → IsVerdict junction c given → given ≡ verdict.Proved → ProvesClaim junction c
  proved_proves verdict.Proved h e = h.1
  proved_proves verdict.Partial h e = cc
  proved_proves (verdict.Broken broken cycle place) h e = cc

  pub partial_proves : (given : Verdict) → IsVerdict junction c given → given ≡ verdict.Partial → BreaksNoRule junction c × ProvesPart junction c
  partial_proves verdict.Proved h e = cc
  partial_proves verdict.Partial h e = h
  partial_proves (verdict.Broken broken cycle place) h e = cc

  pub proves_proved : (given : Verdict) → IsVerdict junction c given → BreaksNoRule junction c → c.claim ≢ Stopped → given ≡ verdict.Proved
  proves_proved verdict.Proved h none going = refl
  proves_proved verdict.Partial h none going = absurd (going h.1.stopped)
  proves_proved (verdict.Broken broken cycle place) h none going = absurd (none broken cycle place h.breaks)

  pub stopped_partial : (given : Verdict) → IsVerdict junction c given → BreaksNoRule junction c → c.claim ≡ Stopped → given ≡ verdict.Partial
  stopped_partial verdict.Proved h none stopped = absurd ((lacks_not c.claim c.plan h.1.stated).1 stopped)
  stopped_partial verdict.Partial h none stopped = refl
  stopped_partial (verdict.Broken broken cycle place) h none stopped = absurd (none broken cycle place h.breaks)

fault_named : FaultNamesLaw → (junction : JunctionView) (plan : Option PlanView) (found : PlanFault) →
    IsSomeAnd plan (λ p. IsFirstFault junction p found) → NamesPartsOf junction found
fault_named law junction None found is = absurd is
fault_named law junction (Some p) found is = law junction p found is

rule_named : FaultNamesLaw → (junction : JunctionView) (c : CertificateView) (broken : Rule) (cycle place : ℕ) → BreaksRule junction c broken cycle place →
    IsOfRule junction broken
rule_named law junction c rule.Plan cycle place b = tt
rule_named law junction c (rule.Fit found) cycle place b = fault_named law junction c.plan found b.0
rule_named law junction c rule.Least cycle place b = tt
rule_named law junction c rule.Cycles cycle place b = tt
rule_named law junction c rule.Tree cycle place b = tt
rule_named law junction c rule.Pair cycle place b = tt
rule_named law junction c rule.Unvisited cycle place b = tt
rule_named law junction c rule.Edge cycle place b = tt
rule_named law junction c rule.Sum cycle place b = tt
rule_named law junction c rule.Budget cycle place b = tt

-- a verdict names groups and links of the junction only
pub verdict_names : FaultNamesLaw → (junction : JunctionView) (c : CertificateView) (found : Verdict) → IsVerdict junction c found → IsVerdictOn junction found
verdict_names law junction c verdict.Proved is = tt
verdict_names law junction c verdict.Partial is = tt
verdict_names law junction c (verdict.Broken broken cycle place) is = rule_named law junction c broken cycle place is.breaks
