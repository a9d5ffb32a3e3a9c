-- The sample junction of a number.
use Rattle.std.specs.Prelude.{codes, ℕ, [], ◌≡◌, ◌++◌, ◌+◌, ◌*◌, decimal}
use Rattle.conflict_matrix.specs.Entries.{IsTableOf}
use Rattle.junction_model.specs.Junction.{JunctionView}
use Rattle.junction_model.specs.Rules.{IsJunction}
use Rattle.sample_junctions.specs.Draws.{first_state, state_after, draw}
use Rattle.sample_junctions.specs.Parts.{drawn_groups, drawn_lanes}
use Rattle.sample_junctions.specs.Conflicts.{all_pairs, drawn_conflicts}

-- the number of groups, 8 to 16, is the first draw
abbrev pub group_count : ℕ → ℕ
group_count number = 8 + draw (first_state number) 0 9

-- the state after so many draws of a sample
abbrev pub state_of : ℕ → ℕ → ℕ
state_of number draws = state_after (first_state number) draws

-- a junction by the rules: after the first draw come those of the groups, one for each, then those of the lanes, two for each of
-- the two lanes of a group, then those of the pairs; cycles are in seconds, and of the conflicts only their table stays
pub record IsSample (number : ℕ) (junction : JunctionView) : Type 0 where
  pub rules : IsJunction junction
  pub title : junction.title ≡ codes "sample " ++ decimal number
  pub least_cycle : junction.least_cycle ≡ 60
  pub greatest_cycle : junction.greatest_cycle ≡ 120
  pub groups : junction.groups ≡ drawn_groups (state_of number 1) (group_count number)
  pub lanes : junction.lanes ≡ drawn_lanes (state_of number (1 + group_count number)) (2 * group_count number)
  pub conflicts : IsTableOf (group_count number)
      (drawn_conflicts (state_of number (1 + 5 * group_count number)) (all_pairs (group_count number))) junction.conflicts
  pub links : junction.conflicts.links ≡ []

-- a number has at most one sample
abbrev pub SampleLaw : Type 0
SampleLaw = (number : ℕ) (j k : JunctionView) → IsSample number j → IsSample number k → j ≡ k
