-- Starts that meet every edge of their list are the least ones; what that says of the order, and what its needs add.
use Rattle.std.proofs.Common.{ℕ, List, ◌+◌, ◌-◌, ◌<◌, ◌≤◌, ◌≡◌, ◌≢◌, ℤ, pos, ◌-ℤ◌, ◌≤ℤ◌, Option, Some, None, All, IsSomeAnd, refl, sym, ap, ◌∙◌, subst, ⊎_elim, drop, replicate, arith, [], ◌∷◌, ◌↔◌, inl, inr, slice_index}
use Rattle.std.proofs.lemmas.Int.{ints}
use Rattle.std.proofs.lemmas.Bool.{cases_lt, cases_eq}
use Rattle.std.proofs.lemmas.List.{ext_get_or, length-drop, length-replicate, get_or-drop, get_or-replicate}
use Rattle.std.proofs.lemmas.List.Elements.{All-contains, All-from_get_or, All-nil, All-cons}
use Rattle.std.specs.List.{IsDistinct}
use Rattle.sig_base.specs.First.{NoneBelow}
use Rattle.conflict_matrix.specs.Matrix.{Matrix}
use Rattle.constraint_cycles.specs.Edge.{Edges, unserved_need, edge_weight}
use Rattle.constraint_cycles.specs.Starts.{MeetsEdges, MeetsOrder}
use Rattle.constraint_cycles.specs.Walk.{IsPositiveCycle}
use Rattle.constraint_cycles.specs.Closing.{Closes, IsUnserved}
use Rattle.constraint_cycles.specs.declared.mark.Mark.{Mark}
use Rattle.difference_system.specs.Solution.{MeetsFromZero, AreLeastStarts, AreStartsWithin, IsStarts, IfStarts, IfWalk, IsClosingCircuit, OneLeastLaw}
use Rattle.difference_system.specs.Edge.{IsSystem, AreEdgesBelow, edge_of}
use Rattle.difference_system.specs.State.{start_of, IsState}
use Rattle.difference_system.specs.Relax.{IsMet}
use Rattle.difference_system.specs.declared.edge.Edge.{Edge}
use Rattle.difference_system.specs.declared.state.State.{State}
use Rattle.difference_system.specs.declared.solved.Solved.{Solved}
use Rattle.difference_system.specs.declared.solved.Solved.TheVariants.{Starts, Walk}
use Rattle.difference_system.proofs.IsTrail.{IsTrail-least}

home_early : (o : Option ℤ) (start cycle : ℕ) → IsSomeAnd o (λ w. (pos 1 -ℤ pos cycle) ≤ℤ w) → ((w : ℤ) → o ≡ Some w → w ≤ℤ (pos 0 -ℤ pos start)) → start < cycle
home_early None start cycle home met = absurd home
home_early (Some w) start cycle home met = let asked = met w refl in let back : (pos 1 -ℤ pos cycle) ≤ℤ w = home in omega (arith, ints)

module _ (groups cycle : ℕ) (edge : Edges) (system : IsSystem groups cycle edge) (es : List Edge) (edges : AreEdgesBelow groups edge groups es)
    (s : State) (state : IsState edge groups s) (met : All (IsMet s) es) where
  solution : MeetsFromZero (MeetsEdges edge) s.starts
  solution = record {
    first = state.origin;
    meets = λ u v w is. ⊎_elim
        (λ (origin : u ≡ 0). let out = state.outward v w (system.within u v w is).1 (subst (λ h. edge h v ≡ Some w) origin is) in let first = ap (start_of s) origin ∙ state.origin in omega (arith, ints))
        (λ (other : u ≢ 0). let here : IsMet s (edge_of u v w) = All-contains (IsMet s) es (edge_of u v w) met (edges.whole u v w (omega arith) (system.within u v w is).0 is) in omega (arith, ints))
        (cases_eq u 0);
  }

  pub settled_least : AreLeastStarts (MeetsEdges edge) s.starts
  settled_least = record {
    solution = solution;
    least = λ other meets g. ⊎_elim
        (λ (inside : g < groups). let t = state.trails g inside in IsTrail-least edge s.starts other g t.before (start_of s g) meets t.asks)
        (λ (past : groups ≤ g). let none = state.unused g past in omega arith)
        (cases_lt g groups);
  }

  start_below : (g : ℕ) → start_of s g < cycle
  start_below g = ⊎_elim
      (λ (inside : g < groups). ⊎_elim
      (λ (first : g < 1). let none = ap (start_of s) (let zero_is : g ≡ 0 = omega arith in zero_is) ∙ state.origin in let lasts = system.lasts in omega arith)
      (λ (later : 1 ≤ g). home_early (edge g 0) (start_of s g) cycle (system.homeward g later inside)
      (λ w is. let here = solution.meets g 0 w is in let origin = state.origin in omega (arith, ints)))
      (cases_lt g 1))
      (λ (past : groups ≤ g). let none = state.unused g past in let lasts = system.lasts in omega arith)
      (cases_lt g groups)

  pub settled_within : AreStartsWithin groups cycle s.starts
  settled_within = record {
    each = state.full.0;
    below = All-from_get_or (λ start. start < cycle) s.starts 0 (λ g inside. start_below g);
    unused =
        let full = state.full.0 in
        let few = system.few in
        let size = length-drop groups s.starts in
        let zeros = length-replicate {A = ℕ} (16 - groups) 0 in
        ext_get_or 0 (drop groups s.starts) (replicate (16 - groups) 0) (omega arith)
        (λ k inside. get_or-drop groups s.starts k 0 ∙ state.unused (groups + k) (omega arith) ∙ sym (get_or-replicate (16 - groups) k 0 0 (omega arith)));
  }

module _ (m : Matrix) (marks : List Mark) (needs : List ℕ) (cycle : ℕ) where
  pub starts_exactly : (solved : Solved) → ((starts walk : List ℕ) → MeetsOrder m marks needs cycle starts → ¬ Closes m marks needs cycle walk) →
      IfStarts solved (AreLeastStarts (MeetsOrder m marks needs cycle)) → IfWalk solved (IsClosingCircuit (Closes m marks needs cycle)) →
      IsStarts solved ↔ ((starts : List ℕ) × MeetsFromZero (MeetsOrder m marks needs cycle) starts)
  starts_exactly (Starts starts) excludes least circuit = (λ _. (starts, least.solution), λ _. tt)
  starts_exactly (Walk walk) excludes least circuit = (λ none. absurd none, λ some. excludes some.0 walk some.1.meets circuit.closes)

  -- the walk of the group alone
  pub closing_alone : (g : ℕ) → IsUnserved m needs g → IsClosingCircuit (Closes m marks needs cycle) (g ∷ [])
  unfolding IsDistinct
  closing_alone g unserved = record {
    closes = unserved;
    once = (tt, tt);
    lowest = All-cons (λ h. g ≤ h) g [] (omega arith) (All-nil (λ h. g ≤ h));
  }

  module _ (served : NoneBelow (IsUnserved m needs) m.groups) where
    pub least_served : (starts : List ℕ) → AreLeastStarts (MeetsEdges (edge_weight m marks needs cycle)) starts → AreLeastStarts (MeetsOrder m marks needs cycle) starts
    least_served starts h = record {
      solution = record {
        first = h.solution.first;
        meets = record { served = λ g below. let much = served g below in elim (cases_lt (slice_index needs g) unserved_need) [ inl few ↦ omega arith | inr many ↦ absurd (much (below, many)) ]; edges = h.solution.meets };
      };
      least = λ other meets g. h.least other (record { first = meets.first; meets = meets.meets.edges }) g;
    }

    closes_served : (walk : List ℕ) → ((u : ℕ) → edge_weight m marks needs cycle u u ≡ None) → IsPositiveCycle (edge_weight m marks needs cycle) walk → Closes m marks needs cycle walk
    closes_served [] apart h = h
    closes_served (g ∷ []) apart h = let none = apart g in let some = h.adds in cc
    closes_served (g ∷ (next ∷ rest)) apart h = h

    pub starts_served : (solved : Solved) → IfStarts solved (AreLeastStarts (MeetsEdges (edge_weight m marks needs cycle))) → IfStarts solved (AreLeastStarts (MeetsOrder m marks needs cycle))
    starts_served (Starts starts) h = least_served starts h
    starts_served (Walk walk) h = tt

    pub walk_served : (solved : Solved) → ((u : ℕ) → edge_weight m marks needs cycle u u ≡ None) →
        IfWalk solved (IsClosingCircuit (IsPositiveCycle (edge_weight m marks needs cycle))) → IfWalk solved (IsClosingCircuit (Closes m marks needs cycle))
    walk_served (Starts starts) apart h = tt
    walk_served (Walk walk) apart h = record { closes = closes_served walk apart h.closes; once = h.once; lowest = h.lowest }

pub one_least_law : (asked : List ℕ → Type 0) → OneLeastLaw asked
one_least_law asked starts other h least_too as_many =
    ext_get_or 0 starts other as_many (λ g below. let up = h.least other least_too.solution g in let down = least_too.least starts h.solution g in omega arith)
