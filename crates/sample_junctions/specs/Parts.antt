-- The groups and the lanes of a sample. Times are in seconds, flows in vehicles per hour, limits in per mille.
use Rattle.std.specs.Prelude.{codes, ℕ, List, [], ◌∷◌, ◌++◌, ◌≡◌, ◌+◌, ◌*◌, ◌/◌, ◌%◌, length, map, All}
use Rattle.std.specs.List.{range_with_len}
use Rattle.flow_model.specs.declared.lane.Lane.{Lane}
use Rattle.junction_model.specs.declared.group.Group.{Group}
use Rattle.sample_junctions.specs.Draws.{draw}

abbrev pub two_digits : ℕ → List ℕ
two_digits k = (48 + k / 10) ∷ (48 + k % 10) ∷ []

-- group i with this minimum green
abbrev pub sample_group : ℕ → ℕ → Group
sample_group i min_green = record {
  label = codes "G" ++ two_digits i;
  times = record { min_green = min_green; amber = 3; red_amber = 2; start_lost = 2; end_gain = 1; max_green = 300 };
}

-- lane k with these flows: each group has two lanes
abbrev pub sample_lane : ℕ → ℕ → ℕ → Lane
sample_lane k arrival saturation = record {
  label = codes "L" ++ two_digits k;
  group = k / 2;
  arrival = arrival;
  saturation = saturation;
  limit = 900;
}

-- so many groups: from the state x on, one draw for each
abbrev pub drawn_groups : ℕ → ℕ → List Group
drawn_groups x count = map (λ i. sample_group i (5 + draw x i 4)) (range_with_len 0 count)

-- so many lanes: from the state x on, two draws for each, first its arrival, then its saturation flow
abbrev pub drawn_lanes : ℕ → ℕ → List Lane
drawn_lanes x count = map (λ k. sample_lane k (20 + draw x (2 * k) 120) (1700 + draw x (2 * k + 1) 301)) (range_with_len 0 count)

-- so many groups with the ambers and red-ambers of a sample
pub record AreGroupsOfSample (count : ℕ) (groups : List Group) : Type 0 where
  pub as_many : length groups ≡ count
  pub amber : All (λ (group : Group). group.times.amber ≡ 3) groups
  pub red_amber : All (λ (group : Group). group.times.red_amber ≡ 2) groups
