-- The lines of a plan's stages.
use Rattle.std.specs.Prelude.{codes, ℕ, Bool, List, [], ◌∷◌, ◌≡◌, ◌++◌, ◌+◌, ◌/◌, ◌%◌, ◌^◌, ◌==◌, decimal, if◌then◌else◌}
use Rattle.junction_model.specs.declared.group.Group.{Group}
use Rattle.junction_model.specs.Junction.{JunctionView}
use Rattle.plan_model.specs.SignalPlan.{PlanView}
use Rattle.stage_builder.specs.declared.stage.Stage.{Stage}
use Rattle.stage_builder.specs.Stages.{AreStages}

abbrev pub name_if : Bool → List ℕ → List ℕ
name_if chosen label = if chosen then codes " " ++ label else []

-- the name of each group of the set, from number k on: bit k of the set tells group k
abbrev pub names_in : ℕ → ℕ → List Group → List ℕ
names_in set k [] = []
names_in set k (group ∷ groups) = name_if (set / 2 ^ k % 2 == 1) group.label ++ names_in set (k + 1) groups

unfoldable pub stage_times : ℕ → ℕ → ℕ → List ℕ
stage_times number first seconds =
    codes "stage " ++ (decimal number ++ (codes " first " ++ (decimal first ++ (codes " seconds " ++ decimal seconds))))

unfoldable pub stage_line : List Group → ℕ → Stage → List ℕ
stage_line groups number stage =
    stage_times number stage.first stage.seconds ++ (codes " groups" ++ (names_in stage.groups 0 groups ++ codes "\n"))

-- a line for each stage, counted from this number on
abbrev pub stage_lines : List Group → ℕ → List Stage → List ℕ
stage_lines groups number [] = []
stage_lines groups number (stage ∷ stages) = stage_line groups number stage ++ stage_lines groups (number + 1) stages

-- the lines of all stages of a plan
abbrev pub AreStageLines : JunctionView → PlanView → List ℕ → Type 0
AreStageLines junction p text = (stages : List Stage) × AreStages p stages × (text ≡ stage_lines junction.groups 1 stages)
