-- The trees of a forest, each beside its cycle.
use Rattle.std.proofs.Common.{ℕ, zero, suc, List, [], ◌∷◌, ◌++◌, Some, slice_get, ◌≡◌, ◌+◌, ◌<◌, ◌≤◌, length, inl, inr, subst, arith}
use Rattle.std.specs.Prelude.{All}
use Rattle.std.proofs.lemmas.Bool.{cases_lt}
use Rattle.std.proofs.lemmas.List.Elements.{All-cons}
use Rattle.std.proofs.lemmas.Option.{none-some, same_Some}
use Rattle.constraint_cycles.specs.declared.node.Node.{Node}
use Rattle.cycle_orders.specs.Forest.{EachTree}

module _ (P : ℕ → List Node → Type 0) where
  -- one more tree at the end
  pub push_tree : (forest : List (List Node)) (cycle last : ℕ) (nodes : List Node) → last ≡ cycle + length forest → EachTree P cycle forest → P last nodes →
      EachTree P cycle (forest ++ nodes ∷ [])
  push_tree [] cycle last nodes is each own =
      let same : last ≡ cycle = omega (arith, is) in
      (subst (λ c. P c nodes) same own, tt)
  push_tree (tree ∷ forest) cycle last nodes is each own = (each.0, push_tree forest (cycle + 1) last nodes (omega (arith, is)) each.1 own)

  -- the tree of a cycle
  pub tree_of : (forest : List (List Node)) (cycle own : ℕ) → cycle ≤ own → own < cycle + length forest → EachTree P cycle forest → (nodes : List Node) × P own nodes
  tree_of [] cycle own from below each = absurd (omega (arith, from, below))
  tree_of (tree ∷ forest) cycle own from below each = elim (cases_lt cycle own) [
    | inl later ↦ tree_of forest (cycle + 1) own (omega (arith, later)) (omega (arith, below)) each.1
    | inr here ↦ (let same : cycle ≡ own = omega (arith, from, here) in (tree, subst (λ c. P c tree) same each.0))
  ]

  -- the tree of a number
  pub tree_at : (forest : List (List Node)) (cycle number : ℕ) (nodes : List Node) → slice_get forest number ≡ Some nodes → EachTree P cycle forest → P (cycle + number) nodes
  tree_at [] cycle number nodes at each = absurd (none-some nodes at)
  tree_at (tree ∷ forest) cycle zero nodes at each =
      let own : tree ≡ nodes = same_Some tree nodes at in
      let here : cycle ≡ cycle + 0 = omega arith in
      subst (λ c. P c nodes) here (subst (P cycle) own each.0)
  tree_at (tree ∷ forest) cycle (suc number) nodes at each =
      let here : cycle + 1 + number ≡ cycle + suc number = omega arith in
      subst (λ c. P c nodes) here (tree_at forest (cycle + 1) number nodes at each.1)

-- what follows for each tree
pub map_trees : (P Q : ℕ → List Node → Type 0) (forest : List (List Node)) (cycle : ℕ) →
    ((own : ℕ) (nodes : List Node) → cycle ≤ own → own < cycle + length forest → P own nodes → Q own nodes) → EachTree P cycle forest → EachTree Q cycle forest
map_trees P Q [] cycle follows each = tt
map_trees P Q (tree ∷ forest) cycle follows each = (
  follows cycle tree (omega arith) (omega arith) each.0,
  map_trees P Q forest (cycle + 1) (λ own nodes from below. follows own nodes (omega (arith, from)) (omega (arith, below))) each.1,
)

-- what holds of each tree, whatever its cycle
pub all_trees : (P : ℕ → List Node → Type 0) (R : List Node → Type 0) → ((own : ℕ) (nodes : List Node) → P own nodes → R nodes) →
    (forest : List (List Node)) (cycle : ℕ) → EachTree P cycle forest → All R forest
all_trees P R follows [] cycle each = λ k d below. absurd (omega (arith, below))
all_trees P R follows (tree ∷ forest) cycle each = All-cons R tree forest (follows cycle tree each.0) (all_trees P R follows forest (cycle + 1) each.1)
