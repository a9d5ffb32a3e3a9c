-- The intergreens of a junction, as a table of cells, and its start links.
use Rattle.std.specs.Prelude.{ℕ, List, [], length, Option, None, Some, ◌≡◌, ◌+◌, ◌*◌, ◌==◌, ◌<◌, ◌≤◌, if◌then◌else◌, IsSome, slice_index}
use Rattle.conflict_matrix.specs.Links.{AreLinks}
use Rattle.conflict_matrix.specs.declared.link.Link.{Link}

-- 256 cells for up to 16 groups: cell 16 * i + j is the intergreen from group i to group j in seconds,
-- and 255 where the two don't conflict
pub record Matrix : Type 0 where
  pub groups : ℕ
  pub cells : List ℕ
  pub links : List Link

-- the table of these cells, without links
abbrev pub unlinked : ℕ → List ℕ → Matrix
unlinked groups cells = record { groups = groups; cells = cells; links = [] }

-- the same groups and cells, with these links
abbrev pub with_links : Matrix → List Link → Matrix
with_links m links = record { groups = m.groups; cells = m.cells; links = links }

abbrev pub cell_of : Matrix → ℕ → ℕ → ℕ
cell_of m i j = slice_index m.cells (16 * i + j)

-- the intergreen from group i to group j, or none where the two don't conflict
abbrev pub intergreen_of : Matrix → ℕ → ℕ → Option ℕ
intergreen_of m i j = (if cell_of m i j == 255 then None else Some (cell_of m i j))

abbrev pub AreConflicting : Matrix → ℕ → ℕ → Type 0
AreConflicting m i j = IsSome (intergreen_of m i j)

-- the table of some conflicts and links among 2 to 16 groups
pub record IsMatrix (m : Matrix) : Type 0 where
  pub few : (2 ≤ m.groups) × (m.groups ≤ 16)
  pub full : length m.cells ≡ 256
  pub bounded : (i j w : ℕ) → i < 16 → j < 16 → intergreen_of m i j ≡ Some w → w ≤ 60
  pub symmetric : (i j : ℕ) → i < 16 → j < 16 → AreConflicting m i j → AreConflicting m j i
  pub apart : (i : ℕ) → i < 16 → ¬ AreConflicting m i i
  pub inside : (i j : ℕ) → i < 16 → j < 16 → AreConflicting m i j → (i < m.groups) × (j < m.groups)
  pub links : AreLinks m.groups m.links
