-- What a trail of edges asks for.
use Rattle.std.proofs.Common.{ℕ, List, [], ◌∷◌, ◌≡◌, ◌≤◌, ◌==◌, true, ℤ, pos, ◌+ℤ◌, ◌<ℤ◌, Some, refl, ap, subst, slice_index, arith, ⊎_elim}
use Rattle.std.specs.List.{list_any}
use Rattle.std.proofs.lemmas.Int.{ints}
use Rattle.std.proofs.lemmas.Bool.Decides.{eqb_tells}
use Rattle.std.proofs.Math.Bool.{or-true}
use Rattle.constraint_cycles.specs.Edge.{Edges}
use Rattle.constraint_cycles.specs.Starts.{MeetsEdges}
use Rattle.constraint_cycles.specs.Walk.{sum_back, sum_of}
use Rattle.difference_system.specs.Solution.{MeetsFromZero}
use Rattle.difference_system.specs.Trail.{IsTrail, cut}

-- it stays a trail when starts rise
pub IsTrail-later : (edge : Edges) (starts later trail : List ℕ) (sum : ℕ) →
    ((g : ℕ) → slice_index starts g ≤ slice_index later g) → IsTrail edge starts trail sum → IsTrail edge later trail sum
IsTrail-later edge starts later [] sum rises h = h
IsTrail-later edge starts later (g ∷ []) sum rises h = (h.0, h.1, let r = rises g in let l : sum ≤ slice_index starts g = h.2 in omega arith)
IsTrail-later edge starts later (g ∷ (f ∷ rest)) sum rises h =
    (h.0, h.1, h.2, h.3, (let r = rises g in let l : sum ≤ slice_index starts g = h.4 in omega arith), IsTrail-later edge starts later (f ∷ rest) h.1 rises h.5)

-- starts that meet the edges are no less than what it asks for
pub IsTrail-least : (edge : Edges) (starts other : List ℕ) (g : ℕ) (before : List ℕ) (sum : ℕ) →
    MeetsFromZero (MeetsEdges edge) other → IsTrail edge starts (g ∷ before) sum → sum ≤ slice_index other g
IsTrail-least edge starts other g [] sum meets h = let none : sum ≡ 0 = h.1 in omega arith
IsTrail-least edge starts other g (f ∷ rest) sum meets h =
    let earlier = IsTrail-least edge starts other f rest h.1 meets h.5 in
    let asked = meets.meets f g h.0 h.2 in
    let total : pos sum ≡ pos h.1 +ℤ h.0 = h.3 in
    omega (arith, ints)

-- it leads from group 0
pub IsTrail-from_origin : (edge : Edges) (starts trail : List ℕ) (sum : ℕ) → IsTrail edge starts trail sum → list_any (λ h. 0 == h) trail ≡ true
IsTrail-from_origin edge starts [] sum h = absurd h
IsTrail-from_origin edge starts (g ∷ []) sum h = rw h.0 refl
IsTrail-from_origin edge starts (g ∷ (f ∷ rest)) sum h = rw (IsTrail-from_origin edge starts (f ∷ rest) h.1 h.5) (or-true (0 == g))

-- the weights along the groups and back add up to more than 0
abbrev pub HasPositiveSum : Edges → List ℕ → Type 0
HasPositiveSum edge groups = (sum : ℤ) × (sum_of edge groups ≡ Some sum) × (pos 0 <ℤ sum)

positive_here : (edge : Edges) (starts : List ℕ) (first g : ℕ) (walk : List ℕ) (sum : ℕ) (rest : ℤ) → first ≡ g → sum ≤ slice_index starts g →
    sum_back edge first g walk ≡ Some rest → pos (slice_index starts first) <ℤ (pos sum +ℤ rest) → HasPositiveSum edge (g ∷ walk)
positive_here edge starts first g walk sum rest same early back later =
    let at = ap (slice_index starts) same in
    (rest, subst (λ h. sum_back edge h g walk ≡ Some rest) same back, omega (arith, ints))

-- where the edges back to a group ask for a later start of it, they and the trail from it on are a walk that closes
pub cut-positive : (edge : Edges) (starts : List ℕ) (first g : ℕ) (before walk : List ℕ) (sum : ℕ) (rest : ℤ) →
    IsTrail edge starts (g ∷ before) sum → sum_back edge first g walk ≡ Some rest → pos (slice_index starts first) <ℤ (pos sum +ℤ rest) →
    list_any (λ h. first == h) (g ∷ before) ≡ true → HasPositiveSum edge (cut first (g ∷ before) walk)
cut-positive edge starts first g [] walk sum rest h back later on =
    ⊎_elim (λ here. rw here.0 (positive_here edge starts first g walk sum rest here.1 h.2 back later)) (λ past. let off = rw past.0 at on in cc) (eqb_tells first g)
cut-positive edge starts first g (f ∷ before) walk sum rest h back later on =
    let total : pos sum ≡ pos h.1 +ℤ h.0 = h.3 in
    ⊎_elim (λ here. rw here.0 (positive_here edge starts first g walk sum rest here.1 h.4 back later))
    (λ past. rw past.0 (cut-positive edge starts first f before (g ∷ walk) h.1 (h.0 +ℤ rest) h.5 (rw (h.2, back) refl) (omega (arith, ints)) (rw past.0 at on)))
    (eqb_tells first g)
