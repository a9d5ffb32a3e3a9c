-- Around a run of the plan that stands: the run a cycle later, and no other between.
use Rattle.std.proofs.Common.{ℕ, Some, ◌≡◌, ◌≤◌, ◌<◌, ◌+◌, ◌*◌, inl, inr, ◌⊎◌, sym, ap, ◌∙◌, arith}
use Rattle.std.proofs.lemmas.Bool.{cases_lt}
use Rattle.junction_model.specs.Junction.{JunctionView}
use Rattle.plan_model.specs.SignalPlan.{start_of, green_of}
use Rattle.plan_model.specs.Fits.{group_count}
use Rattle.plan_change.specs.Schedule.{Schedule, own_gap, plan_runs}
use Rattle.plan_change.proofs.Schedule.{planned, plan_run}
use Rattle.plan_change.proofs.PlanRuns.{next_turn}
use Rattle.plan_change.proofs.Sound.{IsSound}

pub record IsTurn (junction : JunctionView) (s : Schedule) (i a g : ℕ) : Type 0 where
  pub length : g ≡ green_of s.plan i
  pub next : s.runs i (a + s.plan.cycle) ≡ Some (green_of s.plan i)
  pub each : (b h : ℕ) → s.runs i b ≡ Some h → (b + h + own_gap junction i ≤ a) ⊎ (b ≡ a) ⊎ (a + s.plan.cycle ≤ b)

pub turn : (junction : JunctionView) (s : Schedule) (i a g : ℕ) → IsSound junction s → i < group_count junction → s.begin ≤ a → s.runs i a ≡ Some g →
    IsTurn junction s i a g
turn junction s i a g sound inside from run =
    let c : ℕ = s.plan.cycle in
    let own = planned s.plan s.begin i a g (sym (sound.played i a inside from) ∙ run) in
    let m : ℕ = own.1 in
    let a_is : a ≡ s.begin + start_of s.plan i + m * c = own.2 in
    let follows : (m + 1) * c ≡ m * c + c = grind arith in
    let after : a + c ≡ s.begin + start_of s.plan i + (m + 1) * c = omega arith in
    record {
      length = own.0;
      next = sound.played i (a + c) inside (omega arith) ∙ ap (plan_runs s.plan s.begin i) after ∙ plan_run s.plan s.begin i (m + 1);
      each = λ b h other. elim (cases_lt b a) [
        | inl before ↦ inl (sound.spaced i b a h g inside other run before)
        | inr late ↦
            let its = planned s.plan s.begin i b h (sym (sound.played i b inside (omega arith)) ∙ other) in
            let b_is : b ≡ s.begin + start_of s.plan i + its.1 * c = its.2 in
            elim (cases_lt a b) [
              | inl later ↦ inr (inr (let turns = next_turn s.begin c (start_of s.plan i) m its.1 (omega arith) in omega arith))
              | inr same ↦ inr (inl (omega arith))
            ]
      ];
    }
