-- Starts with their trails: group by group from the edges of group 0, and where one start is set.
use Rattle.std.proofs.Common.{ℕ, List, [], ◌∷◌, ◌<◌, ◌≤◌, ◌≡◌, ◌≢◌, ◌==◌, false, ℤ, pos, ◌+ℤ◌, ◌≤ℤ◌, Some, refl, ap, ◌∙◌, subst, sym, ⊎_elim, slice_index, arith, ◌+◌, replicate}
use Rattle.std.specs.List.{IsDistinct, AllByRecursion, list_any}
use Rattle.std.proofs.lemmas.Int.{ints}
use Rattle.std.proofs.lemmas.Bool.{cases_eq, or_parts, cases_lt, ne_eqb}
use Rattle.std.proofs.lemmas.List.{get_or-set_same, get_or-set_other, length-set, get_or-replicate, get_or_past}
use Rattle.std.proofs.lemmas.List.Elements.{All-nil, All-cons}
use Rattle.std.proofs.lemmas.Map.Keys.{IsDistinct-cons}
use Rattle.std.proofs.lemmas.Option.{same_Some}
use Rattle.constraint_cycles.specs.Edge.{Edges, IsWeight}
use Rattle.difference_system.specs.State.{start_of, trail_of, with_start, IsStateBelow, blank}
use Rattle.difference_system.specs.Trail.{HasTrail}
use Rattle.difference_system.specs.Edge.{IsSystem, IsEdgeFrom}
use Rattle.difference_system.specs.declared.state.State.{State}
use Rattle.difference_system.specs.declared.edge.Edge.{Edge}
use Rattle.difference_system.proofs.IsTrail.{IsTrail-later}
use Rattle.difference_system.proofs.EdgeList.{weight_between}

pub lacks : (g : ℕ) (trail : List ℕ) → list_any (λ h. g == h) trail ≡ false → AllByRecursion (λ h. (g == h) ≡ false) trail
lacks g [] off = tt
lacks g (h ∷ trail) off = let both = or_parts (g == h) (list_any (λ i. g == i) trail) off in (both.0, lacks g trail both.1)

-- group 0 alone is its trail
pub HasTrail-origin : (edge : Edges) (groups : ℕ) (starts : List ℕ) → slice_index starts 0 ≡ 0 → 0 < groups → HasTrail edge groups starts 0 (0 ∷ [])
unfolding IsDistinct
HasTrail-origin edge groups starts origin some = record {
  before = [];
  ends = refl;
  asks = (refl, origin, omega arith);
  once = (tt, tt);
  within = All-cons (λ g. g < groups) 0 [] some (All-nil (λ g. g < groups));
  early = omega arith;
}

module _ (edge : Edges) (groups bound : ℕ) (s : State) (state : IsStateBelow edge groups bound s) (g start : ℕ) (trail : List ℕ) (inside : g < 16) where
  pub start_at : start_of (with_start s g start trail) g ≡ start
  start_at = get_or-set_same s.starts g start 0 (let full = state.full.0 in omega arith)

  pub trail_at : trail_of (with_start s g start trail) g ≡ trail
  trail_at = get_or-set_same s.trails g trail [] (let full = state.full.1 in omega arith)

  pub start_other : (h : ℕ) → h ≢ g → start_of (with_start s g start trail) h ≡ start_of s h
  start_other h other = get_or-set_other s.starts g h start 0 other

  trail_other : (h : ℕ) → h ≢ g → trail_of (with_start s g start trail) h ≡ trail_of s h
  trail_other h other = get_or-set_other s.trails g h trail [] other

  module _ (later : start_of s g ≤ start) where
    rises : (h : ℕ) → start_of s h ≤ start_of (with_start s g start trail) h
    rises h = ⊎_elim (λ same. subst (λ i. start_of s i ≤ start_of (with_start s g start trail) i) (sym same) (rw start_at later)) (λ other. let kept = start_other h other in omega arith) (cases_eq h g)

    HasTrail-other : (h : ℕ) → h ≢ g → HasTrail edge groups s.starts h (trail_of s h) → HasTrail edge groups (with_start s g start trail).starts h (trail_of (with_start s g start trail) h)
    HasTrail-other h other t =
        let kept = start_other h other in
        record {
          before = t.before;
          ends = trail_other h other ∙ t.ends;
          asks = rw kept (IsTrail-later edge s.starts (with_start s g start trail).starts (h ∷ t.before) (start_of s h) rises t.asks);
          once = t.once;
          within = t.within;
          early = rw kept t.early;
        }

    -- a trail goes on along an edge that asks for the start
    pub HasTrail-on : (from : ℕ) (w : ℤ) (before : List ℕ) → HasTrail edge groups s.starts from before → trail ≡ g ∷ before →
        edge from g ≡ Some w → IsWeight w → pos start ≡ pos (start_of s from) +ℤ w → list_any (λ h. g == h) before ≡ false → g < groups →
        HasTrail edge groups (with_start s g start trail).starts g (trail_of (with_start s g start trail) g)
    HasTrail-on from w before t on is weight asked off below =
        let most = t.early in
        record {
          before = from ∷ t.before;
          ends = trail_at ∙ on ∙ ap (λ rest. g ∷ rest) t.ends;
          asks = rw start_at (w, start_of s from, is, asked, omega (arith, start_at), IsTrail-later edge s.starts (with_start s g start trail).starts (from ∷ t.before) (start_of s from) rises t.asks);
          once = IsDistinct-cons (λ h i. h == i) g (from ∷ t.before) (lacks g (from ∷ t.before) (rw t.ends at off)) t.once;
          within = All-cons (λ h. h < groups) g (from ∷ t.before) below t.within;
          early = rw start_at (omega (arith, ints));
        }

    pub set_state : (above : ℕ) → g ≢ 0 → g < above → bound ≤ above → ((h : ℕ) → h < above → h ≢ g → h < bound) →
        HasTrail edge groups (with_start s g start trail).starts g (trail_of (with_start s g start trail) g) → ((w : ℤ) → edge 0 g ≡ Some w → w ≤ℤ pos start) →
        IsStateBelow edge groups above (with_start s g start trail)
    set_state above some below more others new outward = record {
      full = (length-set s.starts g start ∙ state.full.0, length-set s.trails g trail ∙ state.full.1);
      origin = start_other 0 (λ same. some (sym same)) ∙ state.origin;
      trails = λ h within. ⊎_elim
          (λ same. subst (λ i. HasTrail edge groups (with_start s g start trail).starts i (trail_of (with_start s g start trail) i)) (sym same) new)
          (λ other. HasTrail-other h other (state.trails h (others h within other)))
          (cases_eq h g);
      outward = λ h w within is. ⊎_elim
          (λ same. subst (λ i. w ≤ℤ pos (start_of (with_start s g start trail) i)) (sym same) (rw start_at (outward w (subst (λ i. edge 0 i ≡ Some w) same is))))
          (λ other. rw (start_other h other) (state.outward h w (others h within other) is))
          (cases_eq h g);
      unused = λ h past. start_other h (omega arith) ∙ state.unused h (omega arith);
    }

nothing_at : (g : ℕ) → slice_index (replicate 16 0) g ≡ 0
nothing_at g = ⊎_elim (λ (below : g < 16). get_or-replicate 16 g 0 0 below) (λ (past : 16 ≤ g). get_or_past (replicate 16 0) g 0 past) (cases_lt g 16)

module _ (groups cycle : ℕ) (edge : Edges) (system : IsSystem groups cycle edge) where
  pub begun_none : IsStateBelow edge groups 1 blank
  begun_none = record {
    full = (refl, refl);
    origin = refl;
    trails = λ g below. let first : g ≡ 0 = omega arith in let some = system.some in rw first (HasTrail-origin edge groups (replicate 16 0) refl (omega arith));
    outward = λ g w below is. let first : g ≡ 0 = omega arith in let none = system.apart 0 in let some = rw first at is in cc;
    unused = λ g past. nothing_at g;
  }

  module _ (g : ℕ) (some : 1 ≤ g) (inside : g < groups) (e : Edge) (found : IsEdgeFrom groups edge 0 g e) where
    pub begun_weight : pos 0 ≤ℤ e.weight
    begun_weight = rw (weight_between groups edge 0 g e found) at (system.outward g some inside)

    pub begun_more : (s new : State) (start : ℕ) (trail : List ℕ) → IsStateBelow edge groups g s → new ≡ with_start s e.to start trail →
        trail ≡ e.to ∷ (0 ∷ []) → pos start ≡ e.weight → IsStateBelow edge groups (g + 1) new
    begun_more s new start trail state set alone asked =
        let few = system.few in
        let at = found.to in
        let is = subst (λ u. edge u e.to ≡ Some e.weight) found.from found.edge_is.is in
        let low : e.to < 16 = omega arith in
        let later : start_of s e.to ≤ start = let none = state.unused e.to (omega arith) in omega arith in
        let origin = state.origin in
        let other : e.to ≢ 0 = omega arith in
        let own = HasTrail-on edge groups g s state e.to start trail low later 0 e.weight (0 ∷ []) (HasTrail-origin edge groups s.starts state.origin (omega arith)) alone
        is found.edge_is.weight (omega (arith, ints)) (rw (ne_eqb e.to 0 other) refl) found.edge_is.to in
        subst (IsStateBelow edge groups (g + 1)) (sym set)
        (set_state edge groups g s state e.to start trail low later (g + 1) other (omega arith) (omega arith) (λ h below apart. omega arith) own
        (λ w some_w. let same = same_Some e.weight w (sym is ∙ some_w) in omega (arith, ints)))
