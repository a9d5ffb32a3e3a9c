-- Edges that are written one after another, and read again.
use Rattle.std.proofs.Common.{ℕ, List, length, Some, ◌≡◌, ◌<◌, All, subst, sym, slice_index_or, [], ◌∷◌, ◌++◌, ◌+◌, ◌≤◌, None, ap, ◌∙◌, ⊎_elim, arith}
use Rattle.std.proofs.lemmas.Bool.{cases_lt}
use Rattle.std.specs.List.{Contains}
use Rattle.std.proofs.lemmas.List.Elements.{All-push, Contains-append_left, Contains-push}
use Rattle.std.proofs.lemmas.Option.{same_Some}
use Rattle.constraint_cycles.specs.Edge.{Edges}
use Rattle.difference_system.specs.Edge.{IsEdge, IsEdgeFrom, IsSystem, edge_of, AreEdgesBelow, AreEdgesInRow}
use Rattle.difference_system.specs.declared.edge.Edge.{Edge}

pub read_edge : (groups : ℕ) (edge : Edges) (es read : List Edge) (place : ℕ) (d : Edge) → read ≡ es → place < length es → All (IsEdge groups edge) es →
    IsEdge groups edge (slice_index_or read place d)
read_edge groups edge es read place d same below edges = subst (λ list. IsEdge groups edge (slice_index_or list place d)) (sym same) (edges place d below)

pub weight_between : (groups : ℕ) (edge : Edges) (u v : ℕ) (e : Edge) → IsEdgeFrom groups edge u v e → edge u v ≡ Some e.weight
weight_between groups edge u v e found = subst (λ h. edge u h ≡ Some e.weight) found.to (subst (λ f. edge f e.to ≡ Some e.weight) found.from found.edge_is.is)

module _ (groups : ℕ) (edge : Edges) (from : ℕ) (es : List Edge) where
  pub row_lacks : (to : ℕ) → AreEdgesInRow groups edge from to es → edge from to ≡ None → AreEdgesInRow groups edge from (to + 1) es
  row_lacks to h none = record {
    before = h.before;
    row = λ v w below is. ⊎_elim (λ (less : v < to). h.row v w less is)
        (λ (more : to ≤ v). let same : to ≡ v = omega arith in let lacks = subst (λ x. edge from x ≡ None) same none in cc) (cases_lt v to);
  }

  pub row_more : (to : ℕ) (e : Edge) → AreEdgesInRow groups edge from to es → IsEdgeFrom groups edge from to e → AreEdgesInRow groups edge from (to + 1) (es ++ e ∷ [])
  row_more to e h found = record {
    before = record {
      edges = All-push (IsEdge groups edge) es e h.before.edges found.edge_is;
      whole = λ u v w some below is. Contains-append_left es (e ∷ []) (edge_of u v w) (h.before.whole u v w some below is);
    };
    row = λ v w below is. ⊎_elim (λ (less : v < to). Contains-append_left es (e ∷ []) (edge_of from v w) (h.row v w less is))
        (λ (more : to ≤ v). let same : to ≡ v = omega arith in
        let weighed = subst (λ x. edge from x ≡ Some e.weight) same (weight_between groups edge from to e found) in
        let weight = same_Some e.weight w (sym weighed ∙ is) in
        let made : e ≡ edge_of from v w = ap (λ x. edge_of x e.to e.weight) found.from ∙ ap (λ x. edge_of from x e.weight) (found.to ∙ same) ∙ ap (edge_of from v) weight in
        subst (λ x. Contains (es ++ e ∷ []) x) made (Contains-push es e))
        (cases_lt v to);
  }

  pub row_all : (cycle : ℕ) → IsSystem groups cycle edge → AreEdgesInRow groups edge from groups es → AreEdgesBelow groups edge (from + 1) es
  row_all cycle system h = record {
    edges = h.before.edges;
    whole = λ u v w some below is. ⊎_elim (λ (less : u < from). h.before.whole u v w some less is)
        (λ (more : from ≤ u). let same : u ≡ from = omega arith in
        let here : edge from v ≡ Some w = subst (λ x. edge x v ≡ Some w) same is in
        subst (λ x. Contains es (edge_of x v w)) (sym same) (h.row v w (system.within u v w is).1 here))
        (cases_lt u from);
  }
