-- The stretched plan was passed where the plan was found: it has the same starts, and so the same own order.
use Rattle.std.proofs.Common.{ℕ, List, [], ◌∷◌, ◌≡◌, length, inl, inr, refl, sym, subst, ap, ◌∙◌, slice_index}
use Rattle.std.specs.Prelude.{Option, None, Some, IfSome}
use Rattle.sig_base.specs.declared.ratio.Ratio.{Ratio}
use Rattle.conflict_matrix.specs.PairLaws.{PairSumLaw}
use Rattle.constraint_cycles.specs.Marks.{item_count, root_marks, Refines}
use Rattle.constraint_cycles.specs.OrderLaws.{RootLaw}
use Rattle.constraint_cycles.specs.Visit.{Visit, visits}
use Rattle.constraint_cycles.specs.declared.mark.Mark.{Mark}
use Rattle.constraint_cycles.specs.declared.node.Node.{Node}
use Rattle.constraint_cycles.specs.declared.node.Node.TheVariants.{Closed}
use Rattle.junction_model.specs.Junction.{JunctionView}
use Rattle.junction_model.specs.Rules.{IsJunction}
use Rattle.plan_model.specs.AllLanes.{all_lanes}
use Rattle.plan_model.specs.OwnOrder.{BeginsWithGroup0, OneMarkLaw, own_marks}
use Rattle.plan_model.specs.SignalPlan.{PlanView}
use Rattle.cycle_orders.specs.Answer.{IsFoundIn}
use Rattle.cycle_orders.specs.Forest.{IsFoundAmong, IsPassedAmong, HasTreesBelow}
use Rattle.cycle_orders.specs.Lean.{IsPassed, MeetsByGreens, MeetsClosed, MeetsSomeClosed}
use Rattle.cycle_orders.specs.Trimmed.{IsAmong}
use Rattle.cycle_orders.proofs.DueList.{root_long}
use Rattle.plan_design.specs.DesignLaws.{IsStretchOfAsked, IsStretchOfAny, PassedShownLaw}

-- a plan that meets the order of a Closed node meets one of them
meets_some : (junction : JunctionView) (q : PlanView) (marks : List Mark) (walk : List ℕ) (before : List Visit) → IsAmong marks (Closed walk) before → MeetsByGreens junction q marks →
    MeetsSomeClosed junction q before
meets_some junction q marks walk [] among meets = absurd among
meets_some junction q marks walk (visit ∷ before) (inl same) meets = inl (subst (λ (v : Visit). MeetsClosed junction q v.0 v.1) (sym same) meets)
meets_some junction q marks walk (visit ∷ before) (inr later) meets = inr (meets_some junction q marks walk before later meets)

module _ (one : OneMarkLaw) (root : RootLaw) (sum : PairSumLaw) (junction : JunctionView) (rules : IsJunction junction) (least : Ratio) (p q : PlanView)
    (stretch : IsStretchOfAsked junction least p q) where
  begins : BeginsWithGroup0 junction p
  begins = record { rules = rules; fits = stretch.asked.meets.fits; first = stretch.asked.first }

  still_begins : BeginsWithGroup0 junction q
  still_begins = record { rules = rules; fits = stretch.stretch.stretched.fits; first = ap (λ starts. slice_index starts 0) stretch.stretch.of.starts ∙ stretch.asked.first }

  still_meets : (marks : List Mark) → length marks ≡ item_count junction.conflicts → MeetsByGreens junction p marks → MeetsByGreens junction q marks
  still_meets marks long meets =
      let own : own_marks junction p ≡ own_marks junction q = rw stretch.stretch.of.starts refl in
      (one junction q marks still_begins long).1 (subst (Refines marks) own ((one junction p marks begins long).0 meets))

  passed_in : (nodes : List Node) → IsFoundIn junction all_lanes nodes p → IsPassed junction q.cycle q (visits (root_marks junction.conflicts ∷ []) nodes [])
  passed_in nodes found =
      let order = found.best.plan in
      let long : length found.marks ≡ item_count junction.conflicts = order.below_root.as_many ∙ root_long root sum junction.conflicts in
      record {
        begins = still_begins;
        lasts = refl;
        met = meets_some junction q found.marks found.walk (visits (root_marks junction.conflicts ∷ []) nodes []) found.closed (still_meets found.marks long order.starts.solution.meets);
      }

  passed_among : (forest : List (List Node)) → IsFoundAmong junction forest p → IsPassedAmong junction forest q
  passed_among forest found = record {
    shorter = found.shorter;
    own = found.own;
    longer = found.longer;
    joined = found.joined;
    below = subst (λ cycle. HasTreesBelow junction cycle found.shorter) (sym stretch.stretch.of.cycle) found.below;
    holds = passed_in found.own found.holds;
  }

pub passed_shown_law : OneMarkLaw → RootLaw → PairSumLaw → PassedShownLaw
passed_shown_law one root sum junction least None None forest rules any found = tt
passed_shown_law one root sum junction least None (Some q) forest rules any found = absurd any
passed_shown_law one root sum junction least (Some p) None forest rules any found = absurd any
passed_shown_law one root sum junction least (Some p) (Some q) forest rules any found = passed_among one root sum junction rules least p q any forest found
