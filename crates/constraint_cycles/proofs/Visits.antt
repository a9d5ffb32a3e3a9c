-- The nodes of a tree with their own orders, and one more node.
use Rattle.std.proofs.Common.{List, [], ◌∷◌, ◌++◌, ◌≡◌, ◌↔◌, refl, length, replicate}
use Rattle.constraint_cycles.specs.Tree.{Leads, AllNodes, orders_below}
use Rattle.constraint_cycles.specs.TreeShape.{VisitLaw}
use Rattle.constraint_cycles.specs.Visit.{Visit, visits, EachVisit}
use Rattle.constraint_cycles.specs.declared.mark.Mark.{Mark}
use Rattle.constraint_cycles.specs.declared.node.Node.{Node}
use Rattle.constraint_cycles.specs.declared.node.Node.TheVariants.{Unvisited}

-- what holds of every node and of those before
visits_hold : (P : List Mark → Node → Type 0) (nodes : List Node) (coming rest : List (List Mark)) (before : List Visit) → Leads coming nodes rest →
    (AllNodes P coming nodes × EachVisit P before) ↔ EachVisit P (visits coming nodes before)
visits_hold P [] coming rest before leads = (λ h. h.1, λ h. (tt, h))
visits_hold P (node ∷ nodes) [] rest before leads = absurd leads
visits_hold P (node ∷ nodes) (marks ∷ coming) rest before leads =
    let later = visits_hold P nodes (orders_below marks node ++ coming) rest ((marks, node) ∷ before) leads in
    (λ h. later.0 (h.0.1, (h.0.0, h.1)), λ h. let back = later.1 h in ((back.1.0, back.0), back.1.1))

pub visit_law : (P : List Mark → Node → Type 0) → VisitLaw P
visit_law P coming rest nodes leads = let both = visits_hold P nodes coming rest [] leads in (λ h. both.0 (h, tt), λ h. (both.1 h).0)

-- one more node takes the first order that is to come
pub leads_more : (nodes : List Node) (coming rest : List (List Mark)) (marks : List Mark) (node : Node) → Leads coming nodes (marks ∷ rest) →
    Leads coming (nodes ++ node ∷ []) (orders_below marks node ++ rest)
leads_more [] [] rest marks node leads = cc
leads_more [] (first ∷ coming) rest marks node leads =
    let same_first : first ≡ marks = cc in
    let same_rest : coming ≡ rest = cc in
    rw (same_first, same_rest) refl
leads_more (n ∷ nodes) [] rest marks node leads = absurd leads
leads_more (n ∷ nodes) (first ∷ coming) rest marks node leads = leads_more nodes (orders_below first n ++ coming) rest marks node leads

pub visits_more : (nodes : List Node) (coming rest : List (List Mark)) (marks : List Mark) (node : Node) (before : List Visit) → Leads coming nodes (marks ∷ rest) →
    visits coming (nodes ++ node ∷ []) before ≡ (marks, node) ∷ visits coming nodes before
visits_more [] [] rest marks node before leads = cc
visits_more [] (first ∷ coming) rest marks node before leads =
    let same_first : first ≡ marks = cc in
    rw same_first refl
visits_more (n ∷ nodes) [] rest marks node before leads = absurd leads
visits_more (n ∷ nodes) (first ∷ coming) rest marks node before leads =
    visits_more nodes (orders_below first n ++ coming) rest marks node ((first, n) ∷ before) leads

all_unvisited : (coming : List (List Mark)) → Leads coming (replicate (length coming) Unvisited) []
all_unvisited [] = refl
all_unvisited (marks ∷ coming) = all_unvisited coming

-- nodes become a whole tree by an Unvisited node for each order that is to come
pub leads_unvisited : (nodes : List Node) (coming rest : List (List Mark)) → Leads coming nodes rest → Leads coming (nodes ++ replicate (length rest) Unvisited) []
leads_unvisited [] coming rest leads = rw (← leads) (all_unvisited coming)
leads_unvisited (node ∷ nodes) [] rest leads = absurd leads
leads_unvisited (node ∷ nodes) (marks ∷ coming) rest leads = leads_unvisited nodes (orders_below marks node ++ coming) rest leads
