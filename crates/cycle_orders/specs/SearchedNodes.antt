-- The nodes that a search has visited so far.
use Rattle.std.specs.Prelude.{List, [], ◌∷◌, All}
use Rattle.sig_base.specs.declared.target.Target.{Target}
use Rattle.constraint_cycles.specs.Marks.{root_marks}
use Rattle.constraint_cycles.specs.Tree.{Leads, IsSound, IsVisited}
use Rattle.constraint_cycles.specs.Visit.{visits, EachVisit}
use Rattle.constraint_cycles.specs.declared.mark.Mark.{Mark}
use Rattle.constraint_cycles.specs.declared.node.Node.{Node}
use Rattle.least_greens.specs.ForTarget.{needs_of}
use Rattle.least_greens.specs.Targets.{IsNotAbove}
use Rattle.cycle_orders.specs.Due.{SplitsDue}
use Rattle.cycle_orders.specs.Lean.{IsLeanFor}
use Rattle.cycle_orders.specs.Search.{SearchView}

module _ (s : SearchView) where
  -- the nodes lead from the root order to the orders that are still to come: the Closed ones close for the target, and
  -- each Split is needed and decides its due item
  pub record AreSearched (target : Target) (nodes : List Node) (coming : List (List Mark)) : Type 0 where
    pub leads : Leads (root_marks s.junction.conflicts ∷ []) nodes coming
    pub visited : All IsVisited nodes
    pub sound : EachVisit (IsSound s.junction.conflicts (needs_of s.junction s.lanes target s.cycle) s.cycle) (visits (root_marks s.junction.conflicts ∷ []) nodes [])
    pub due : EachVisit (SplitsDue s.junction.conflicts) (visits (root_marks s.junction.conflicts ∷ []) nodes [])
    pub lean : IsLeanFor s.junction s.lanes s.target s.cycle nodes
    pub risen : IsNotAbove s.target target
