-- How a session stands.
use Rattle.std.specs.Prelude.{ℕ, List, ◌++◌, Option, None, Some, length, take, ◌≡◌, ◌+◌, IfSome, replicate}
use Rattle.sig_base.specs.declared.target.Target.{Target}
use Rattle.constraint_cycles.specs.Marks.{root_marks, Refines, IsDecided}
use Rattle.constraint_cycles.specs.Starts.{MeetsOrder}
use Rattle.constraint_cycles.specs.StartsLaws.{AgreeOnGroups}
use Rattle.constraint_cycles.specs.declared.mark.Mark.{Mark}
use Rattle.constraint_cycles.specs.declared.node.Node.{Node}
use Rattle.constraint_cycles.specs.declared.node.Node.TheVariants.{Unvisited}
use Rattle.difference_system.specs.Solution.{AreLeastStarts, AreStartsWithin}
use Rattle.least_greens.specs.ForTarget.{needs_of}
use Rattle.plan_model.specs.declared.fitted_plan.FittedPlan.{FittedPlan}
use Rattle.cycle_orders.specs.Answer.{IsFirstPlan, IsFoundIn, IsCarried, plan_in}
use Rattle.cycle_orders.specs.DueItems.{AreDueItems}
use Rattle.cycle_orders.specs.Place.{PlaceView}
use Rattle.cycle_orders.specs.Search.{SearchView, IsRunning}
use Rattle.cycle_orders.specs.SearchedNodes.{AreSearched}
use Rattle.cycle_orders.specs.declared.answer.Mode.{Mode}
use Rattle.cycle_orders.specs.declared.answer.Mode.TheVariants as mode

module _ (s : SearchView) where
  -- a tree in the making: the nodes that were visited, and an unvisited one for each order to come
  pub record IsTreeSoFar (target : Target) (tree : List Node) (count : ℕ) (coming : List (List Mark)) : Type 0 where
    pub searched : AreSearched s target (take count tree) coming
    pub whole : tree ≡ take count tree ++ replicate (length coming) Unvisited
    pub counted : length (take count tree) ≡ count

  -- the place has the needs of the target
  pub record HasNeedsOf (target : Target) (p : PlaceView) : Type 0 where
    pub conflicts : p.conflicts ≡ s.junction.conflicts
    pub lasts : p.cycle ≡ s.cycle
    pub needs : AgreeOnGroups s.junction.conflicts p.needs (needs_of s.junction s.lanes target s.cycle)

  -- so it has, and goes down by the due items
  pub record IsPlaceFor (target : Target) (p : PlaceView) : Type 0 where
    pub asks : HasNeedsOf target p
    pub due : AreDueItems s.junction.conflicts p.items

  -- the order decides each item, and these are its least starts for the needs of the target
  pub record AreStartsOfFullOrder (target : Target) (marks : List Mark) (starts : List ℕ) : Type 0 where
    pub below_root : Refines (root_marks s.junction.conflicts) marks
    pub decided : IsDecided marks
    pub least : AreLeastStarts (MeetsOrder s.junction.conflicts marks (needs_of s.junction s.lanes target s.cycle) s.cycle) starts
    pub within : AreStartsWithin s.junction.conflicts.groups s.cycle starts

  -- the tree is in the making or whole
  pub record IsOnTheWay (target : Target) (p : PlaceView) (tree : List Node) (count : ℕ) (plan : Option FittedPlan) : Type 0 where
    pub place : IsPlaceFor target p
    pub tree_is : IsTreeSoFar target tree count p.coming
    pub running : IsRunning s (plan_in plan) target
    pub carried : IsCarried s plan
    pub found : IfSome (plan_in plan) (IsFoundIn s.junction s.lanes (take count tree))

  -- the node that was visited last gave a plan, and the rest of the tree was dropped
  pub record HasFirstPlan (tree : List Node) (count : ℕ) (f : FittedPlan) : Type 0 where
    pub plan : IsFirstPlan s tree f
    pub counted : count ≡ length tree + 1

  -- in mode First a plan ends the search
  abbrev pub IsStandingIn : Mode → Target → PlaceView → List Node → ℕ → Option FittedPlan → Type 0
  IsStandingIn mode.First target p tree count None = IsOnTheWay target p tree count None
  IsStandingIn mode.First target p tree count (Some f) = HasFirstPlan tree count f
  IsStandingIn mode.Best target p tree count plan = IsOnTheWay target p tree count plan

  abbrev pub IsStanding : Target → PlaceView → List Node → ℕ → Option FittedPlan → Type 0
  IsStanding = IsStandingIn s.mode
