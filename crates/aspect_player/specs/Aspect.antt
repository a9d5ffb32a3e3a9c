-- The aspect that a group shows at a second of its plan.
use Rattle.std.specs.Prelude.{ℕ, zero, suc, Bool, false, ◌||◌, ◌+◌, ◌-◌, ◌*◌, ◌%◌, if◌then◌else◌, nat_lt}
use Rattle.sig_base.specs.declared.group_times.GroupTimes.{GroupTimes}
use Rattle.plan_model.specs.SignalPlan.{PlanView, start_of, green_of}
use Rattle.aspect_player.specs.declared.aspect.Aspect.{Aspect}
use Rattle.aspect_player.specs.declared.aspect.Aspect.TheVariants.{Red, RedAmber, Green, Amber}

-- whether group i is green at second t
abbrev pub is_green : PlanView → ℕ → ℕ → Bool
is_green p i t = nat_lt ((t + p.cycle - start_of p i) % p.cycle) (green_of p i)

-- whether one of the numbers 1 to n passes
unfoldable pub one_of_first : ℕ → (ℕ → Bool) → Bool
one_of_first zero test = false
one_of_first (suc n) test = test (suc n) || one_of_first n test

-- whether it was green in one of the last seconds of the cyclic timetable: 30 cycles on it is the same, and as an amber
-- lasts 30 seconds at most, none of these seconds is below 0
abbrev pub was_green : PlanView → ℕ → ℕ → ℕ → Bool
was_green p i seconds t = one_of_first seconds (λ k. is_green p i (t + 30 * p.cycle - k))

-- whether it is green in one of the next seconds
abbrev pub will_be_green : PlanView → ℕ → ℕ → ℕ → Bool
will_be_green p i seconds t = one_of_first seconds (λ k. is_green p i (t + k))

-- the aspect of group i, which has these times, at second t
unfoldable pub aspect_at : PlanView → ℕ → GroupTimes → ℕ → Aspect
aspect_at p i times t =
    (if is_green p i t then Green
    else if was_green p i times.amber t then Amber
    else if will_be_green p i times.red_amber t then RedAmber
    else Red)
