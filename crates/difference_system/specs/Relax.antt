-- What relaxing an edge does to starts and trails, and what one step and one pass over the edges come to.
use Rattle.std.specs.Prelude.{ℕ, ◌∷◌, length, ℤ, pos, true, false, ◌≡◌, ◌==◌, ◌<◌, ◌≤◌, ◌+ℤ◌, ◌≤ℤ◌, ◌<ℤ◌, List, Bool, All, MatchBool, take}
use Rattle.std.specs.List.{list_any, HoldsAt}
use Rattle.constraint_cycles.specs.Edge.{IsWeight, Edges}
use Rattle.constraint_cycles.specs.Walk.{IsPositiveCycle}
use Rattle.difference_system.specs.State.{start_of, trail_of, with_start, latest_start, shortfall}
use Rattle.difference_system.specs.declared.edge.Edge.{Edge}
use Rattle.difference_system.specs.declared.state.State.{State}
use Rattle.difference_system.specs.Solution.{IsClosingCircuit}
use Rattle.difference_system.specs.declared.relax.Relaxed.{Relaxed}
use Rattle.difference_system.specs.declared.relax.Step.{Step}
use Rattle.difference_system.specs.declared.relax.Relaxed.TheVariants as relaxed
use Rattle.difference_system.specs.declared.relax.Step.TheVariants as step

-- the start that an edge asks for
abbrev pub asked_by : State → Edge → ℤ
asked_by s e = pos (start_of s e.from) +ℤ e.weight

-- the groups are in their arrays, the sums fit, and a trail that lacks the second group has room for it
pub record IsInRange (s : State) (e : Edge) : Type 0 where
  pub from : e.from < 16
  pub to : e.to < 16
  pub weight : IsWeight e.weight
  pub early : start_of s e.from ≤ latest_start
  pub room : list_any (λ g. e.to == g) (trail_of s e.from) ≡ false → length (trail_of s e.from) < 16

-- the start of the second group becomes what the edge asks for, and its trail goes on from that of the first one
pub record IsRaise (s : State) (e : Edge) (raised : State) : Type 0 where
  pub start : ℕ
  pub later : start_of s e.to < start
  pub asked : pos start ≡ asked_by s e
  pub set : raised ≡ with_start s e.to start (e.to ∷ trail_of s e.from)
  pub apart : list_any (λ g. e.to == g) (trail_of s e.from) ≡ false

-- the edge asks for a later start of a group on its own trail
pub record IsClosure (s : State) (e : Edge) : Type 0 where
  pub later : pos (start_of s e.to) <ℤ asked_by s e
  pub on : list_any (λ g. e.to == g) (trail_of s e.from) ≡ true

-- the edge asks for no later start of its second group
abbrev pub IsMet : State → Edge → Type 0
IsMet s e = asked_by s e ≤ℤ pos (start_of s e.to)

abbrev pub Relaxes : State → Edge → Relaxed → State → Type 0
Relaxes s e relaxed.Met new = (new ≡ s) × IsMet s e
Relaxes s e relaxed.Raised new = IsRaise s e new
Relaxes s e relaxed.Closed new = (new ≡ s) × IsClosure s e

-- the edge at a place was met, or a start rose, or a walk closes
abbrev pub Steps : Edges → List Edge → ℕ → State → Step → State → Type 0
Steps edge es place old step.Met new = (new ≡ old) × HoldsAt (IsMet new) es place
Steps edge es place old step.Raised new = shortfall new < shortfall old
Steps edge es place old (step.Closed walk) new = IsClosingCircuit (IsPositiveCycle edge) walk

-- every edge was met, or a start rose, or a walk closes
abbrev pub Passes : Edges → List Edge → State → Step → State → Type 0
Passes edge es old step.Met new = (new ≡ old) × All (IsMet new) es
Passes edge es old step.Raised new = shortfall new < shortfall old
Passes edge es old (step.Closed walk) new = IsClosingCircuit (IsPositiveCycle edge) walk

-- the same of the edges before a place, where no walk closes: whether a start rose
abbrev pub PassesUpTo : List Edge → ℕ → State → Bool → State → Type 0
PassesUpTo es place old raised new = MatchBool raised (shortfall new < shortfall old) ((new ≡ old) × All (IsMet new) (take place es))
