-- Rows: one for each second, with the aspect of each group.
use Rattle.std.specs.Prelude.{ℕ, zero, suc, List, [], ◌∷◌, ◌+◌}
use Rattle.sig_base.specs.declared.group_times.GroupTimes.{GroupTimes}
use Rattle.junction_model.specs.declared.group.Group.{Group}
use Rattle.junction_model.specs.Junction.{JunctionView}
use Rattle.plan_model.specs.SignalPlan.{PlanView}
use Rattle.aspect_player.specs.declared.aspect.Aspect.{Aspect}
use Rattle.aspect_player.specs.Aspect.{aspect_at}

-- what each group, told by its number and its times, shows at a second
abbrev pub Display : Type 0
Display = ℕ → GroupTimes → ℕ → Aspect

-- the aspects at second t of these groups, of which the first has the number i
unfoldable pub aspects_from : Display → ℕ → List Group → ℕ → List Aspect
aspects_from display i [] t = []
aspects_from display i (group ∷ groups) t = display i group.times t ∷ aspects_from display (i + 1) groups t

-- the row of second t: the aspect of each group in order
abbrev pub row_by : JunctionView → Display → ℕ → List Aspect
row_by junction display t = aspects_from display 0 junction.groups t

-- the rows of n seconds from t on
unfoldable pub rows_from : JunctionView → Display → ℕ → ℕ → List (List Aspect)
rows_from junction display t zero = []
rows_from junction display t (suc n) = row_by junction display t ∷ rows_from junction display (t + 1) n

-- the rows of the seconds 0 to n - 1
abbrev pub rows_by : JunctionView → Display → ℕ → List (List Aspect)
rows_by junction display n = rows_from junction display 0 n

-- those of a plan
abbrev pub row_at : JunctionView → PlanView → ℕ → List Aspect
row_at junction p t = row_by junction (aspect_at p) t

abbrev pub timetable : JunctionView → PlanView → ℕ → List (List Aspect)
timetable junction p n = rows_by junction (aspect_at p) n
