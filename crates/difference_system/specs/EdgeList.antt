-- What contracts see of gathered edges.
use Rattle.std.specs.Prelude.{List, take}
use Rattle.difference_system.specs.Edge.{AreEdgesBelow}
use Rattle.difference_system.specs.System.{groups_of, edges_of}
use Rattle.difference_system.specs.declared.edge.Edge.{Edge}
use Rattle.difference_system.specs.declared.edge_list.EdgeList.{EdgeList}

abbrev pub edges_in : EdgeList → List Edge
edges_in l = take l.count l.edges

-- it has every edge of its system that begins at another group than group 0
abbrev pub IsWhole : EdgeList → Type 0
IsWhole l = AreEdgesBelow (groups_of l.system) (edges_of l.system) (groups_of l.system) (edges_in l)
