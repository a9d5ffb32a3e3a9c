-- The first rule that a node breaks by itself, in its own order. It is found here by testing one rule after another; that
-- it is the first one that is broken is shown where a tree is judged.
use Rattle.std.specs.Prelude.{ℕ, List, [], ◌∷◌, Bool, false, Option, None, Some, if◌then◌else◌, nat_lt, ℤ, pos, int_lt, slice_get, slice_index}
use Rattle.std.specs.Option.{option_map_or}
use Rattle.constraint_cycles.specs.Edge.{longest_green}
use Rattle.constraint_cycles.specs.TreeShape.{is_open}
use Rattle.constraint_cycles.specs.Walk.{sum_of}
use Rattle.constraint_cycles.specs.declared.mark.Mark.{Mark}
use Rattle.constraint_cycles.specs.declared.node.Node.{Node}
use Rattle.constraint_cycles.specs.declared.node.Node.TheVariants as node
use Rattle.certificate_checker.specs.Basis.{BasisView, edges_of}
use Rattle.certificate_checker.specs.declared.rule.Rule.{Rule}
use Rattle.certificate_checker.specs.declared.rule.Rule.TheVariants.{Pair, Unvisited, Edge, Sum}

abbrev pub names_open : List Mark → ℕ → Bool
names_open marks item = option_map_or is_open (slice_get marks item) false

abbrev pub sum_fault : Option ℤ → Option Rule
sum_fault None = Some Edge
sum_fault (Some sum) = (if int_lt (pos 0) sum then None else Some Sum)

abbrev pub walk_fault : BasisView → List Mark → List ℕ → Option Rule
walk_fault basis marks [] = None
walk_fault basis marks (group ∷ []) = (if nat_lt longest_green (slice_index basis.needs group) then None else Some Sum)
walk_fault basis marks walk = sum_fault (sum_of (edges_of basis marks) walk)

-- `seen` is whether an Unvisited node stands before
abbrev pub node_fault : BasisView → Bool → List Mark → Node → Option Rule
node_fault basis seen marks (node.Split item) = (if names_open marks item then (if seen then Some Unvisited else None) else Some Pair)
node_fault basis seen marks (node.Closed walk) = (if seen then Some Unvisited else walk_fault basis marks walk)
node_fault basis seen marks node.Unvisited = (if basis.unfinished then None else Some Unvisited)
