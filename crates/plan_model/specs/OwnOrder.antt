-- The order that the starts of a plan give: of each pair of conflicting groups the one that starts earlier is first, and
-- a link's follower is behind its leader where it starts no earlier.
use Rattle.std.specs.Prelude.{ℕ, List, ◌++◌, ◌≡◌, ◌<◌, ◌≤◌, ◌↔◌, length, map, if◌then◌else◌, nat_lt, nat_le, slice_index}
use Rattle.conflict_matrix.specs.Pairs.{pairs_of}
use Rattle.conflict_matrix.specs.declared.link.Link.{Link}
use Rattle.constraint_cycles.specs.Marks.{item_count, root_marks, Refines, IsDecided}
use Rattle.constraint_cycles.specs.Starts.{MeetsOrder}
use Rattle.constraint_cycles.specs.Tree.{ClosesCycle}
use Rattle.constraint_cycles.specs.declared.mark.Mark.{Mark}
use Rattle.constraint_cycles.specs.declared.mark.Mark.TheVariants.{First, Second}
use Rattle.constraint_cycles.specs.declared.node.Node.{Node}
use Rattle.junction_model.specs.Junction.{JunctionView}
use Rattle.junction_model.specs.Rules.{IsJunction}
use Rattle.plan_model.specs.SignalPlan.{PlanView, start_of, green_of}
use Rattle.plan_model.specs.Fits.{Fits, group_count}

abbrev pub pair_mark_of : PlanView → ℕ × ℕ → Mark
pair_mark_of p pair = if nat_lt (start_of p pair.0) (start_of p pair.1) then First else Second

abbrev pub link_mark_of : PlanView → Link → Mark
link_mark_of p link = if nat_le (start_of p link.leader) (start_of p link.follower) then First else Second

abbrev pub own_marks : JunctionView → PlanView → List Mark
own_marks junction p = map (pair_mark_of p) (pairs_of junction.conflicts) ++ map (link_mark_of p) junction.conflicts.links

-- a plan that fits and begins with group 0
pub record BeginsWithGroup0 (junction : JunctionView) (p : PlanView) : Type 0 where
  pub rules : IsJunction junction
  pub fits : Fits junction p
  pub first : start_of p 0 ≡ 0

-- no green is below the need of its group
abbrev pub HasNeeds : JunctionView → PlanView → List ℕ → Type 0
HasNeeds junction p needs = (g : ℕ) → g < group_count junction → slice_index needs g ≤ green_of p g

-- the plan's own order decides each item, and the plan meets it
pub record IsOwnOrder (junction : JunctionView) (p : PlanView) (needs : List ℕ) (marks : List Mark) : Type 0 where
  pub refines : Refines (root_marks junction.conflicts) marks
  pub decided : IsDecided marks
  pub met : MeetsOrder junction.conflicts marks needs p.cycle p.starts

abbrev pub OwnOrderLaw : Type 0
OwnOrderLaw = (junction : JunctionView) (p : PlanView) (needs : List ℕ) → BeginsWithGroup0 junction p → HasNeeds junction p needs →
    IsOwnOrder junction p needs (own_marks junction p)

-- exactly one mark of each item fits: with its greens as the needs a plan meets just the orders that its own one refines
abbrev pub OneMarkLaw : Type 0
OneMarkLaw = (junction : JunctionView) (p : PlanView) (marks : List Mark) → BeginsWithGroup0 junction p → length marks ≡ item_count junction.conflicts →
    MeetsOrder junction.conflicts marks p.greens p.cycle p.starts ↔ Refines marks (own_marks junction p)

-- a tree that closes a cycle excludes every plan of that cycle that fits, begins with group 0 and has the needs
abbrev pub ClosedTreeLaw : Type 0
ClosedTreeLaw = (junction : JunctionView) (p : PlanView) (needs : List ℕ) (nodes : List Node) → BeginsWithGroup0 junction p → HasNeeds junction p needs →
    ¬ ClosesCycle junction.conflicts needs p.cycle nodes
