-- What relaxing an edge makes of starts with their trails: a start rises, or a walk closes; and a pass, edge by edge.
use Rattle.std.proofs.Common.{ℕ, List, ◌∷◌, length, ◌-◌, ◌<◌, ◌≤◌, ◌≡◌, ◌≢◌, ◌==◌, false, All, refl, sym, ap, subst, arith, suc, [], true, ⊎_elim, Bool, pos, ◌+◌, take, ◌∙◌}
use Rattle.std.specs.List.{IsDistinct, list_any, HoldsAt}
use Rattle.std.proofs.lemmas.Int.{ints}
use Rattle.std.proofs.lemmas.Bool.{eqb-true, ne_eqb}
use Rattle.std.proofs.lemmas.List.Elements.{All-cons, All-contains, All-more}
use Rattle.std.proofs.lemmas.List.Sums.{sum_by-set}
use Rattle.std.proofs.lemmas.Map.Keys.{IsDistinct-cons}
use Rattle.std.proofs.lemmas.Map.Steps.{length-le_from_distinct_below}
use Rattle.std.proofs.lemmas.Map.Views.{Contains-from_any}
use Rattle.std.proofs.lemmas.Bool.Decides.{eqb_tells}
use Rattle.constraint_cycles.specs.Edge.{Edges}
use Rattle.difference_system.specs.Edge.{IsSystem, IsEdge, edge_of}
use Rattle.difference_system.specs.State.{latest_start, start_of, trail_of, IsState, shortfall}
use Rattle.difference_system.specs.Relax.{IsInRange, IsRaise, IsClosure, IsMet, PassesUpTo}
use Rattle.difference_system.specs.Trail.{cut}
use Rattle.difference_system.specs.declared.edge.Edge.{Edge}
use Rattle.difference_system.specs.declared.state.State.{State}
use Rattle.difference_system.proofs.IsTrail.{IsTrail-from_origin, HasPositiveSum, cut-positive}
use Rattle.difference_system.proofs.IsState.{lacks, HasTrail-on, set_state}

-- groups that differ and are below 16 are at most 16
few_groups : (groups : ℕ) (trail : List ℕ) → groups ≤ 16 → IsDistinct (λ g h. g == h) trail → All (λ g. g < groups) trail → length trail ≤ 16
few_groups groups trail few once within =
    length-le_from_distinct_below trail 16 once (λ g on. let below = All-contains (λ h. h < groups) trail g within (Contains-from_any eqb-true g trail on) in omega arith)

module _ (groups cycle : ℕ) (edge : Edges) (system : IsSystem groups cycle edge) (s : State) (state : IsState edge groups s) where
  module _ (g : ℕ) (inside : g < groups) where
    early : start_of s g ≤ latest_start
    early =
        let t = state.trails g inside in
        let size = few_groups groups (g ∷ t.before) system.few t.once t.within in
        let most = t.early in
        omega arith

    room : (v : ℕ) → v < groups → list_any (λ h. v == h) (trail_of s g) ≡ false → length (trail_of s g) < 16
    room v below off =
        let t = state.trails g inside in
        let off_it = rw t.ends at off in
        let size = few_groups groups (v ∷ (g ∷ t.before)) system.few
        (IsDistinct-cons (λ h i. h == i) v (g ∷ t.before) (lacks v (g ∷ t.before) off_it) t.once)
        (All-cons (λ h. h < groups) v (g ∷ t.before) below t.within) in
        let ends = ap length t.ends in
        omega arith

  module _ (e : Edge) (valid : IsEdge groups edge e) where
    pub IsInRange-edge : IsInRange s e
    IsInRange-edge =
        let few = system.few in
        record {
          from = let h = valid.from in omega arith;
          to = let h = valid.to in omega arith;
          weight = valid.weight;
          early = early e.from valid.from;
          room = room e.from valid.from e.to valid.to;
        }

    module _ (raised : State) (raise : IsRaise s e raised) where
      not_origin : e.to ≢ 0
      not_origin zero_is =
          let t = state.trails e.from valid.from in
          let on = IsTrail-from_origin edge s.starts (e.from ∷ t.before) (start_of s e.from) t.asks in
          let off = rw (t.ends, zero_is) at raise.apart in
          cc

      pub IsState-raised : IsState edge groups raised
      IsState-raised =
          let start = raise.start in
          let trail = e.to ∷ trail_of s e.from in
          let inside = IsInRange-edge.to in
          let later : start_of s e.to ≤ start = let h = raise.later in omega arith in
          let new = HasTrail-on edge groups groups s state e.to start trail inside later e.from e.weight (trail_of s e.from) (state.trails e.from valid.from) refl valid.is valid.weight raise.asked raise.apart valid.to in
          subst (IsState edge groups) (sym raise.set)
          (set_state edge groups groups s state e.to start trail inside later groups not_origin valid.to (omega arith) (λ h below other. below) new
          (λ w is. let asked = state.outward e.to w valid.to is in omega (arith, ints)))

      pub shortfall-raised : shortfall raised < shortfall s
      shortfall-raised =
          let inside = IsInRange-edge.to in
          let full = state.full.0 in
          let total = sum_by-set (λ start. latest_start - start) s.starts e.to raise.start 0 (omega arith) in
          let same = ap shortfall raise.set in
          let later = raise.later in
          let t = state.trails e.from valid.from in
          let ends = ap length t.ends in
          let size = room e.from valid.from e.to valid.to raise.apart in
          let most = t.early in
          let weight = valid.weight in
          let asked = raise.asked in
          let early_still : raise.start ≤ latest_start = omega (arith, ints) in
          omega arith

cut-longer : (first : ℕ) (trail walk : List ℕ) → list_any (λ g. first == g) trail ≡ true → suc (length walk) ≤ length (cut first trail walk)
cut-longer first [] walk on = cc
cut-longer first (g ∷ trail) walk on =
    ⊎_elim (λ here. rw here.0 (omega arith)) (λ past. let longer = cut-longer first trail (g ∷ walk) (rw past.0 at on) in rw past.0 (omega arith)) (eqb_tells first g)

module _ (groups : ℕ) (edge : Edges) (s : State) (state : IsState edge groups s) (e : Edge) (valid : IsEdge groups edge e) (closure : IsClosure s e) where
  pub cut-several : 2 ≤ length (cut e.to (trail_of s e.from) [])
  cut-several =
      let t = state.trails e.from valid.from in
      let past = ne_eqb e.to e.from (λ same. valid.apart (sym same)) in
      rw (t.ends, past) (cut-longer e.to t.before (e.from ∷ []) (rw (t.ends, past) at closure.on))

  pub trail-positive : HasPositiveSum edge (cut e.to (trail_of s e.from) [])
  trail-positive =
      let t = state.trails e.from valid.from in
      rw t.ends (cut-positive edge s.starts e.to e.from t.before [] (start_of s e.from) e.weight t.asks valid.is closure.later (rw t.ends at closure.on))

module _ (es : List Edge) (first old new : State) where
  pub met_more : (place : ℕ) (raised : Bool) → place < length es → new ≡ old → HoldsAt (IsMet new) es place →
      PassesUpTo es place first raised old → PassesUpTo es (place + 1) first raised new
  met_more place true within same met h = rw same h
  met_more place false within same met h =
      (same ∙ h.0, All-more (IsMet new) es place (edge_of 0 0 (pos 0)) within (subst (λ s. All (IsMet s) (take place es)) (sym same) h.1) (met (edge_of 0 0 (pos 0))))

  pub raised_more : (place : ℕ) (raised : Bool) → shortfall new < shortfall old → PassesUpTo es place first raised old → shortfall new < shortfall first
  raised_more place true less h = omega arith
  raised_more place false less h = let same = ap shortfall h.0 in omega arith
