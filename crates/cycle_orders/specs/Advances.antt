-- Calls of `advance`, one after another.
use Rattle.std.specs.Prelude.{ℕ, List, [], ◌∷◌, Result, Ok, Err, ◌+◌, ◌-◌, ⊤}
use Rattle.sig_base.specs.declared.no_memory.NoMemory.{NoMemory}
use Rattle.cycle_orders.specs.Session.{SessionView, IsAdvance, IsWithin}
use Rattle.cycle_orders.specs.declared.answer.Progress.{Progress}

-- how many nodes it was to visit, what it answered, and the session after it
pub record Call : Type 0 where
  pub nodes : ℕ
  pub result : Result Progress NoMemory
  pub after : SessionView

-- each call goes on where the one before it stands
abbrev pub AreAdvances : SessionView → List Call → Type 0
AreAdvances v [] = ⊤
AreAdvances v (call ∷ calls) = IsAdvance call.nodes v call.after call.result × AreAdvances call.after calls

-- the session after all of them
abbrev pub last_of : SessionView → List Call → SessionView
last_of v [] = v
last_of v (call ∷ calls) = last_of call.after calls

-- a call that found no memory counts as the nodes that it visited
abbrev pub spent_by : Result Progress NoMemory → ℕ → ℕ → ℕ
spent_by (Ok progress) nodes visited = nodes
spent_by (Err fault) nodes visited = visited

-- the sum of all calls
abbrev pub spent : SessionView → List Call → ℕ
spent v [] = 0
spent v (call ∷ calls) = spent_by call.result call.nodes (call.after.visited - v.visited) + spent call.after calls

abbrev pub AdvancesLaw : Type 0
AdvancesLaw = (v : SessionView) (n : ℕ) (calls : List Call) → IsWithin n v → AreAdvances v calls → IsWithin (n + spent v calls) (last_of v calls)
