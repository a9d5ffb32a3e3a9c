-- What contracts see of a junction.
use Rattle.std.specs.Prelude.{ℕ, List}
use Rattle.conflict_matrix.specs.Matrix.{Matrix}
use Rattle.flow_model.specs.declared.lane.Lane.{Lane}
use Rattle.junction_model.specs.declared.group.Group.{Group}

-- cycles in seconds
pub record JunctionView : Type 0 where
  pub title : List ℕ
  pub least_cycle : ℕ
  pub greatest_cycle : ℕ
  pub groups : List Group
  pub lanes : List Lane
  pub conflicts : Matrix

-- the junction of these parts
abbrev pub junction_from : List ℕ → ℕ → ℕ → List Group → List Lane → Matrix → JunctionView
junction_from title least_cycle greatest_cycle groups lanes conflicts = record {
  title = title;
  least_cycle = least_cycle;
  greatest_cycle = greatest_cycle;
  groups = groups;
  lanes = lanes;
  conflicts = conflicts;
}
