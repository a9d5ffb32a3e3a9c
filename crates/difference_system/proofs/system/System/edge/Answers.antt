use Rattle.std.proofs.Common.{ℕ, ℤ, ◌≡◌, ◌<◌, Some, ap, ◌∙◌, sym, refl, subst, arith, w32, w64, to_z, of_z}
use Rattle.std.proofs.lemmas.Int.{ints}
use Rattle.constraint_cycles.specs.Edge.{Edges, IsWeight}
use Rattle.difference_system.specs.Edge.{IsSystem, IsEdgeFrom, edge_of}
use Rattle.difference_system.specs.System.{groups_of, edges_of}
use Rattle.difference_system.proofs.system.System.edge.Goals as goal

edge_from : (groups cycle : ℕ) (edge : Edges) (u v : ℕ) (w weighed : ℤ) → IsSystem groups cycle edge → u < groups → v < groups →
    edge u v ≡ Some w → IsWeight w → weighed ≡ w → IsEdgeFrom groups edge u v (edge_of u v weighed)
edge_from groups cycle edge u v w weighed system u_in v_in is weight same = record {
  edge_is = record {
    is = is ∙ ap Some (sym same);
    from = u_in;
    to = v_in;
    apart = λ e. let none = system.apart u in let looped : edge u u ≡ Some w = subst (λ x. edge u x ≡ Some w) (sym e) is in cc;
    weight = rw same weight;
  };
  from = refl;
  to = refl;
}

pub returns : goal.returns
unfolding edges_of
returns c =
    let s = c.args.self.now in
    let weighed : to_z w32 (of_z w32 (to_z w64 (of_z w64 c.in-Some.seconds))) ≡ c.in-Some.seconds = omega (arith, ints, c.in-Some.ensures.range.least, c.in-Some.ensures.range.greatest) in
    edge_from (groups_of s) s.cycle (edges_of s) c.args.from c.args.to c.in-Some.seconds _ s.regular c.requires.from c.requires.to (sym c.in-Some.ensures.value) c.in-Some.ensures.range weighed

pub returns-in_default : goal.returns-in_default
unfolding edges_of
returns-in_default c = sym c.in_default.ensures.value
