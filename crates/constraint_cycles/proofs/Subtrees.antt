-- A whole tree is a leaf, or a Split and the whole trees of its two ways.
use Rattle.std.proofs.Common.{List, [], ◌∷◌, ◌++◌, ◌≡◌, ◌⊎◌, inl, inr, refl, sym, ap, append_assoc, slice_set}
use Rattle.constraint_cycles.specs.Tree.{Leads, IsTreeBelow, orders_below}
use Rattle.constraint_cycles.specs.TreeShape.{IsLeaf, IsLeafTree, IsSplitTree, TreeShapeLaw}
use Rattle.constraint_cycles.specs.declared.mark.Mark.{Mark}
use Rattle.constraint_cycles.specs.declared.mark.Mark.TheVariants.{First, Second}
use Rattle.constraint_cycles.specs.declared.node.Node.{Node}
use Rattle.constraint_cycles.specs.declared.node.Node.TheVariants.{Split, Closed, Unvisited}

-- the nodes are those of the first orders, and then those of the others
pub record IsParted (xs ys : List (List Mark)) (nodes : List Node) : Type 0 where
  pub first : List Node
  pub second : List Node
  pub parts : nodes ≡ first ++ second
  pub leads_first : Leads xs first []
  pub leads_second : Leads ys second []

pub parted : (nodes : List Node) (xs ys : List (List Mark)) → Leads (xs ++ ys) nodes [] → IsParted xs ys nodes
parted nodes [] ys h = record { first = []; second = nodes; parts = refl; leads_first = refl; leads_second = h }
parted [] (marks ∷ xs) ys h = cc
parted (node ∷ nodes) (marks ∷ xs) ys h =
    let same : orders_below marks node ++ (xs ++ ys) ≡ (orders_below marks node ++ xs) ++ ys = sym (append_assoc (orders_below marks node) xs ys) in
    let rest : IsParted (orders_below marks node ++ xs) ys nodes = parted nodes (orders_below marks node ++ xs) ys (rw (← same) h) in
    record { first = node ∷ rest.first; second = rest.second; parts = ap (λ l. node ∷ l) rest.parts; leads_first = rest.leads_first; leads_second = rest.leads_second }

trees_joined : (first second : List Node) (xs ys : List (List Mark)) → Leads xs first [] → Leads ys second [] → Leads (xs ++ ys) (first ++ second) []
trees_joined [] second xs ys p q = rw p q
trees_joined (node ∷ first) second [] ys p q = absurd p
trees_joined (node ∷ first) second (marks ∷ xs) ys p q =
    let same : orders_below marks node ++ (xs ++ ys) ≡ (orders_below marks node ++ xs) ++ ys = sym (append_assoc (orders_below marks node) xs ys) in
    rw same (trees_joined first second (orders_below marks node ++ xs) ys p q)

alone : (nodes : List Node) → Leads [] nodes [] → nodes ≡ []
alone [] h = refl
alone (node ∷ nodes) h = absurd h

shape_of : (marks : List Mark) (nodes : List Node) → IsTreeBelow marks nodes → IsLeafTree nodes ⊎ IsSplitTree marks nodes
shape_of marks [] h = cc
shape_of marks (Split item ∷ nodes) h =
    let parts : IsParted (slice_set marks item First ∷ []) (slice_set marks item Second ∷ []) nodes = parted nodes _ _ h in
    inr (record { item = item; first = parts.first; second = parts.second; joined = ap (λ l. Split item ∷ l) parts.parts; first_tree = parts.leads_first; second_tree = parts.leads_second })
shape_of marks (Closed walk ∷ nodes) h = inl (record { leaf = Closed walk; alone = ap (λ l. Closed walk ∷ l) (alone nodes h); closed_or_unvisited = tt })
shape_of marks (Unvisited ∷ nodes) h = inl (record { leaf = Unvisited; alone = ap (λ l. Unvisited ∷ l) (alone nodes h); closed_or_unvisited = tt })

leaf_tree : (marks : List Mark) (leaf : Node) → IsLeaf leaf → IsTreeBelow marks (leaf ∷ [])
leaf_tree marks (Split item) h = absurd h
leaf_tree marks (Closed walk) h = refl
leaf_tree marks Unvisited h = refl

tree_of : (marks : List Mark) (nodes : List Node) → IsLeafTree nodes ⊎ IsSplitTree marks nodes → IsTreeBelow marks nodes
tree_of marks nodes (inl h) = rw h.alone (leaf_tree marks h.leaf h.closed_or_unvisited)
tree_of marks nodes (inr h) = rw h.joined (trees_joined h.first h.second (slice_set marks h.item First ∷ []) (slice_set marks h.item Second ∷ []) h.first_tree h.second_tree)

pub tree_shape_law : TreeShapeLaw
tree_shape_law marks nodes = (shape_of marks nodes, tree_of marks nodes)
