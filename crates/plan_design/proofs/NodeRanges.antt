-- The nodes of a sound tree are in the ranges of a certificate.
use Rattle.std.proofs.Common.{ℕ, List, [], ◌∷◌, ◌++◌, length, ◌<◌, ◌≤◌, arith, length-append}
use Rattle.std.specs.Prelude.{⊤, map, replicate}
use Rattle.std.proofs.lemmas.List.{length-set, length-map, length-replicate}
use Rattle.std.proofs.lemmas.List.Elements.{All-nil, All-cons}
use Rattle.std.proofs.lemmas.Option.{slice_get_within}
use Rattle.conflict_matrix.specs.Matrix.{Matrix, IsMatrix}
use Rattle.conflict_matrix.specs.Pairs.{pairs_of}
use Rattle.conflict_matrix.proofs.PairOrder.{pairs_few}
use Rattle.constraint_cycles.specs.Closing.{Closes}
use Rattle.constraint_cycles.specs.Marks.{root_mark, root_marks}
use Rattle.constraint_cycles.specs.Tree.{AllNodes, IsSound, orders_below}
use Rattle.constraint_cycles.specs.Walk.{IsWalk}
use Rattle.constraint_cycles.specs.declared.mark.Mark.{Mark}
use Rattle.constraint_cycles.specs.declared.mark.Mark.TheVariants.{Open, First, Second}
use Rattle.constraint_cycles.specs.declared.node.Node.{Node}
use Rattle.constraint_cycles.specs.declared.node.Node.TheVariants.{Split, Closed, Unvisited}
use Rattle.constraint_cycles.proofs.WalkGroups.{walk_groups_law}
use Rattle.plan_certificate.specs.Ranges.{IsNodeAmong, IsTreeAmong}

-- the orders have at most 132 marks: those of 120 pairs and 12 links
abbrev AreShort : List (List Mark) → Type 0
AreShort [] = ⊤
AreShort (marks ∷ coming) = (length marks ≤ 132) × AreShort coming

root_short : (m : Matrix) → IsMatrix m → length (root_marks m) ≤ 132
root_short m table =
    let pairs = pairs_few m table.few.1 in
    omega (arith, length-append (map root_mark (pairs_of m)) (replicate (length m.links) Open), length-map (pairs_of m) root_mark, length-replicate (length m.links) Open, pairs, table.links.linkable.few)

below_short : (marks : List Mark) (own : Node) (coming : List (List Mark)) → length marks ≤ 132 → AreShort coming → AreShort (orders_below marks own ++ coming)
below_short marks (Split item) coming short rest =
    (omega (arith, length-set marks item First, short), (omega (arith, length-set marks item Second, short), rest))
below_short marks (Closed walk) coming short rest = rest
below_short marks Unvisited coming short rest = rest

module _ (m : Matrix) (table : IsMatrix m) (needs : List ℕ) (cycle : ℕ) where
  walk_is : (marks : List Mark) (walk : List ℕ) → Closes m marks needs cycle walk → IsWalk walk
  walk_is marks [] closes = closes.walk
  walk_is marks (g ∷ []) closes = record {
    some = omega arith;
    few = omega arith;
    within = All-cons (λ g. g < 16) g [] (omega (arith, closes.0, table.few.1)) (All-nil (λ g. g < 16));
  }
  walk_is marks (first ∷ (second ∷ rest)) closes = closes.walk

  node_among : (marks : List Mark) (own : Node) → length marks ≤ 132 → IsSound m needs cycle marks own → IsNodeAmong m.groups own
  node_among marks (Split item) short sound = omega (arith, slice_get_within marks item Open sound, short)
  node_among marks (Closed walk) short sound = (walk_is marks walk sound, walk_groups_law m marks needs cycle walk sound)
  node_among marks Unvisited short sound = tt

  nodes_among : (coming : List (List Mark)) (nodes : List Node) → AreShort coming → AllNodes (IsSound m needs cycle) coming nodes → IsTreeAmong m.groups nodes
  nodes_among coming [] short sound = All-nil (IsNodeAmong m.groups)
  nodes_among [] (own ∷ nodes) short sound = absurd sound
  nodes_among (marks ∷ coming) (own ∷ nodes) short sound =
      All-cons (IsNodeAmong m.groups) own nodes (node_among marks own short.0 sound.0)
      (nodes_among (orders_below marks own ++ coming) nodes (below_short marks own coming short.0 short.1) sound.1)

  pub tree_among : (nodes : List Node) → AllNodes (IsSound m needs cycle) (root_marks m ∷ []) nodes → IsTreeAmong m.groups nodes
  tree_among nodes = nodes_among (root_marks m ∷ []) nodes (root_short m table, tt)
