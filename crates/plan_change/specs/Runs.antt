-- The greens of one group as runs of moments, and what the group shows by them. Two runs stay two where one begins as the
-- other ends, so a run is told by its start and its length and not by the moments in it. Moments are counted from 0.
use Rattle.std.specs.Prelude.{ℕ, zero, suc, Bool, false, Option, ◌||◌, ◌&&◌, ◌+◌, if◌then◌else◌, nat_lt, nat_le}
use Rattle.std.specs.Option.{option_map_or}
use Rattle.sig_base.specs.declared.group_times.GroupTimes.{GroupTimes}
use Rattle.aspect_player.specs.declared.aspect.Aspect.{Aspect}
use Rattle.aspect_player.specs.declared.aspect.Aspect.TheVariants.{Red, RedAmber, Green, Amber}

-- the length of the run that starts at a moment, if one does
abbrev pub Runs : Type 0
Runs = ℕ → Option ℕ

-- whether one of the numbers below n passes
unfoldable pub some_below : ℕ → (ℕ → Bool) → Bool
some_below zero test = false
some_below (suc n) test = test n || some_below n test

-- whether a run that starts before moment m passes, by its start and its length
abbrev pub some_run : Runs → ℕ → (ℕ → ℕ → Bool) → Bool
some_run runs m test = some_below m (λ a. option_map_or (test a) (runs a) false)

-- whether moment t lies in a run
abbrev pub is_in_run : Runs → ℕ → Bool
is_in_run runs t = some_run runs (t + 1) (λ a g. nat_lt t (a + g))

-- whether a run ended before t, and at most so many moments before it
abbrev pub has_ended : Runs → ℕ → ℕ → Bool
has_ended runs amber t = some_run runs (t + 1) (λ a g. nat_le (a + g) t && nat_lt t (a + g + amber))

-- whether a run starts after t, and at most so many moments after it
abbrev pub will_start : Runs → ℕ → ℕ → Bool
will_start runs red_amber t = some_run runs (t + red_amber + 1) (λ a g. nat_lt t a)

-- the aspect of a group with these runs and times
unfoldable pub shown_at : Runs → GroupTimes → ℕ → Aspect
shown_at runs times t =
    (if is_in_run runs t then Green
    else if has_ended runs times.amber t then Amber
    else if will_start runs times.red_amber t then RedAmber
    else Red)
