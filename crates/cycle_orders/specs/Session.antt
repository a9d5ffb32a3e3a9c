-- What contracts see of a session, and what its calls do.
use Rattle.std.specs.Prelude.{ℕ, List, [], ◌∷◌, length, take, Option, None, Some, Result, Ok, Err, ◌≡◌, ◌+◌, ◌<◌, ◌≤◌, ⊤}
use Rattle.sig_base.specs.declared.no_memory.NoMemory.{NoMemory}
use Rattle.constraint_cycles.specs.Tree.{visited_count}
use Rattle.constraint_cycles.specs.declared.node.Node.{Node}
use Rattle.constraint_cycles.specs.declared.node.Node.TheVariants.{Unvisited}
use Rattle.plan_model.specs.FittedPlan.{fitted_plan_of}
use Rattle.plan_model.specs.SignalPlan.{PlanView}
use Rattle.cycle_orders.specs.Answer.{plan_in}
use Rattle.cycle_orders.specs.Search.{SearchView}
use Rattle.cycle_orders.specs.declared.answer.CycleAnswer.{CycleAnswer}
use Rattle.cycle_orders.specs.declared.answer.CycleAnswer.TheVariants as answer
use Rattle.cycle_orders.specs.declared.answer.Progress.{Progress}
use Rattle.cycle_orders.specs.declared.answer.Progress.TheVariants as progress

-- what is searched for, the tree, the plan that was found last, and how many nodes were visited
pub record SessionView : Type 0 where
  pub search : SearchView
  pub tree : List Node
  pub plan : Option PlanView
  pub visited : ℕ

-- before the first visit
abbrev pub session_begun : SearchView → SessionView
session_begun s = record { search = s; tree = Unvisited ∷ []; plan = None; visited = 0 }

-- an unvisited node is left
abbrev pub HasUnvisited : SessionView → Type 0
HasUnvisited v = visited_count v.tree < length v.tree

-- Going: so many nodes were visited, and one is left; Ended: none is left; for want of memory: one is left
abbrev pub IsProgress : ℕ → SessionView → SessionView → Result Progress NoMemory → Type 0
IsProgress nodes old new (Ok progress.Going) = (new.visited ≡ old.visited + nodes) × HasUnvisited new
IsProgress nodes old new (Ok progress.Ended) = ¬ HasUnvisited new
IsProgress nodes old new (Err fault) = HasUnvisited new

-- the visited nodes of the tree before are the first nodes of the tree now, as they were
abbrev pub KeepsVisited : SessionView → SessionView → Type 0
KeepsVisited old new = take old.visited new.tree ≡ take old.visited old.tree

-- up to so many nodes were visited
pub record IsAdvance (nodes : ℕ) (old new : SessionView) (result : Result Progress NoMemory) : Type 0 where
  pub search : new.search ≡ old.search
  pub rises : old.visited ≤ new.visited
  pub most : new.visited ≤ old.visited + nodes
  pub past : KeepsVisited old new
  pub is_answer : IsProgress nodes old new result
  pub still : new.visited ≡ old.visited → new ≡ old
  pub over : ¬ HasUnvisited old → (new ≡ old) × (result ≡ Ok progress.Ended)

-- at most n nodes were visited, and fewer only where none is left
pub record IsWithin (n : ℕ) (v : SessionView) : Type 0 where
  pub most : v.visited ≤ n
  pub all : HasUnvisited v → v.visited ≡ n

abbrev pub IsStoppedAnswer : CycleAnswer → Type 0
IsStoppedAnswer (answer.Closed nodes plan) = ⊥
IsStoppedAnswer (answer.Found plan) = ⊥
IsStoppedAnswer (answer.Stopped nodes plan) = ⊤

-- the answer has the session's own tree and plan
abbrev pub IsOfSession : SessionView → CycleAnswer → Type 0
IsOfSession v (answer.Closed nodes plan) = (nodes ≡ v.tree) × (plan_in plan ≡ v.plan)
IsOfSession v (answer.Found plan) = v.plan ≡ Some (fitted_plan_of plan)
IsOfSession v (answer.Stopped nodes plan) = (nodes ≡ v.tree) × (plan_in plan ≡ v.plan)
