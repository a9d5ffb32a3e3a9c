-- The data of a certificate has no float, nor has that of its numbers, trees and plan; it nests four deep.
use Rattle.std.proofs.Common.{◌≡◌, ◌≤◌, false, List, ℕ, [], ◌∷◌, map, Option, Some, None, refl, arith}
use Rattle.serde_json.specs.Data.{items_depth, depth}
use Rattle.serde_json.specs.Read.{max_depth}
use Rattle.serde_json.specs.View.{items_of}
use Rattle.serde_json.specs.Written.{has_float, items_have_float}
use Rattle.constraint_cycles.specs.declared.node.Node.{Node}
use Rattle.constraint_cycles.specs.declared.node.Node.TheVariants.{Split, Closed, Unvisited}
use Rattle.plan_model.specs.SignalPlan.{PlanView}
use Rattle.plan_certificate.specs.Certificate.{CertificateView}
use Rattle.plan_certificate.specs.Contents.{whole, node_data, tree_data}
use Rattle.plan_certificate.specs.Text.{plan_or_null, certificate_data}

pub wholes_exact : (ns : List ℕ) → items_have_float (items_of (map whole ns)) ≡ false
wholes_exact [] = refl
wholes_exact (n ∷ ns) = wholes_exact ns

node_exact : (node : Node) → has_float (node_data node) ≡ false
node_exact (Split item) = refl
node_exact (Closed walk) = wholes_exact walk
node_exact Unvisited = refl

nodes_exact : (nodes : List Node) → items_have_float (items_of (map node_data nodes)) ≡ false
nodes_exact [] = refl
nodes_exact (node ∷ nodes) = rw (node_exact node) (nodes_exact nodes)

pub trees_exact : (trees : List (List Node)) → items_have_float (items_of (map tree_data trees)) ≡ false
trees_exact [] = refl
trees_exact (nodes ∷ trees) = rw (nodes_exact nodes) (trees_exact trees)

pub plan_exact : (plan : Option PlanView) → has_float (plan_or_null plan) ≡ false
plan_exact None = refl
plan_exact (Some p) = rw (wholes_exact p.greens, wholes_exact p.starts) refl

pub no_float : (c : CertificateView) → has_float (certificate_data c) ≡ false
no_float c = rw (trees_exact c.branches, plan_exact c.plan) refl

wholes_depth : (ns : List ℕ) → items_depth (items_of (map whole ns)) ≤ 0
wholes_depth [] = omega arith
wholes_depth (n ∷ ns) = omega (arith, wholes_depth ns)

node_depth : (node : Node) → depth (node_data node) ≤ 1
node_depth (Split item) = omega arith
node_depth (Closed walk) = omega (arith, wholes_depth walk)
node_depth Unvisited = omega arith

nodes_depth : (nodes : List Node) → items_depth (items_of (map node_data nodes)) ≤ 1
nodes_depth [] = omega arith
nodes_depth (node ∷ nodes) = omega (arith, node_depth node, nodes_depth nodes)

trees_depth : (trees : List (List Node)) → items_depth (items_of (map tree_data trees)) ≤ 2
trees_depth [] = omega arith
trees_depth (nodes ∷ trees) = omega (arith, nodes_depth nodes, trees_depth trees)

plan_depth : (plan : Option PlanView) → depth (plan_or_null plan) ≤ 2
plan_depth None = omega arith
plan_depth (Some p) = omega (arith, wholes_depth p.greens, wholes_depth p.starts)

pub shallow : (c : CertificateView) → depth (certificate_data c) ≤ max_depth
shallow c = omega (arith, trees_depth c.branches, plan_depth c.plan)
