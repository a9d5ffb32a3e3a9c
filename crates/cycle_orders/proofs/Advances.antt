-- Calls of `advance`, one after another.
use Rattle.std.proofs.Common.{ℕ, [], ◌∷◌, ◌≡◌, ◌+◌, ◌-◌, ◌≤◌, inl, inr, Result, Ok, Err, length, take, sym, subst, ap, ◌∙◌, arith}
use Rattle.std.proofs.lemmas.List.{take-take}
use Rattle.std.proofs.lemmas.Bool.{cases_lt}
use Rattle.sig_base.specs.declared.no_memory.NoMemory.{NoMemory}
use Rattle.constraint_cycles.specs.Tree.{visited_count}
use Rattle.cycle_orders.specs.Session.{SessionView, HasUnvisited, KeepsVisited, IsAdvance, IsWithin}
use Rattle.cycle_orders.specs.Advances.{AdvancesLaw, spent_by, spent, last_of}
use Rattle.cycle_orders.specs.declared.answer.Progress.{Progress}
use Rattle.cycle_orders.specs.declared.answer.Progress.TheVariants as progress

-- a call that doesn't answer Ended began with an unvisited node
begins_unvisited : (nodes : ℕ) (old new : SessionView) (result : Result Progress NoMemory) → IsAdvance nodes old new result → ¬ (result ≡ Ok progress.Ended) → HasUnvisited old
begins_unvisited nodes old new result h other = elim (cases_lt (visited_count old.tree) (length old.tree)) [
  | inl left ↦ left
  | inr none ↦ absurd (other (h.over (λ left. omega arith)).1)
]

pub advanced : (n nodes : ℕ) (old new : SessionView) (result : Result Progress NoMemory) → IsWithin n old → IsAdvance nodes old new result →
    IsWithin (n + spent_by result nodes (new.visited - old.visited)) new
advanced n nodes old new (Ok progress.Going) within h =
    let all = within.all (begins_unvisited nodes old new (Ok progress.Going) h (λ e. cc)) in
    let more = h.is_answer.0 in
    record { most = omega arith; all = λ left. omega arith }
advanced n nodes old new (Ok progress.Ended) within h = record { most = omega (arith, h.most, within.most); all = λ left. absurd (h.is_answer left) }
advanced n nodes old new (Err fault) within h =
    let all = within.all (begins_unvisited nodes old new (Err fault) h (λ e. cc)) in
    let more = h.rises in
    record { most = omega arith; all = λ left. omega arith }

-- what is kept by a call and by those before it
pub keeps_on : (first middle last : SessionView) → first.visited ≤ middle.visited → KeepsVisited first middle → KeepsVisited middle last → KeepsVisited first last
keeps_on first middle last rises before own =
    sym (take-take first.visited middle.visited last.tree rises) ∙ ap (take first.visited) own ∙ take-take first.visited middle.visited middle.tree rises ∙ before

pub advances_law : AdvancesLaw
advances_law v n [] within h = let same : n ≡ n + 0 = omega arith in subst (λ k. IsWithin k v) same within
advances_law v n (call ∷ calls) within h =
    let one = advanced n call.nodes v call.after call.result within h.0 in
    let here : ℕ = spent_by call.result call.nodes (call.after.visited - v.visited) in
    let same : (n + here) + spent call.after calls ≡ n + (here + spent call.after calls) = omega arith in
    subst (λ k. IsWithin k (last_of call.after calls)) same (advances_law call.after (n + here) calls one h.1)

-- one call on a session that has visited nothing
pub within_one : (nodes : ℕ) (old new : SessionView) (result : Result Progress NoMemory) (answer : Progress) → result ≡ Ok answer → old.visited ≡ 0 → IsAdvance nodes old new result → IsWithin nodes new
within_one nodes old new result answer is none h =
    let begun : IsWithin 0 old = record { most = omega (arith, none); all = λ left. none } in
    let one : IsWithin (0 + nodes) new = advanced 0 nodes old new (Ok answer) begun (subst (IsAdvance nodes old new) is h) in
    let same : 0 + nodes ≡ nodes = omega arith in
    subst (λ n. IsWithin n new) same one
