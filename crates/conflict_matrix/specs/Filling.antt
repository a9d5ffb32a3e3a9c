-- How entries, one after another, fill a table of cells.
use Rattle.std.specs.Prelude.{ℕ, List, ◌+◌, ◌*◌, ◌==◌, ◌&&◌, ◌≡◌, ◌<◌, ◌≤◌, if◌then◌else◌, slice_index, slice_set}
use Rattle.std.specs.List.{fold}
use Rattle.conflict_matrix.specs.declared.entry.Entry.{Entry}

-- the cell from i to j after an entry: what the entry says of it, and else what it was
abbrev pub cell_after : ℕ → ℕ → ℕ → Entry → ℕ
cell_after i j cell e = (if e.a == i && e.b == j then e.a_to_b else (if e.b == i && e.a == j then e.b_to_a else cell))

-- the cells with what an entry says of its two ones
abbrev pub with_entry : List ℕ → Entry → List ℕ
with_entry cells e = slice_set (slice_set cells (16 * e.b + e.a) e.b_to_a) (16 * e.a + e.b) e.a_to_b

-- each cell has what the last entry on it says, and 255 where none does
abbrev pub IsFilled : List Entry → List ℕ → Type 0
IsFilled es cells = (i j : ℕ) → i < 16 → j < 16 → slice_index cells (16 * i + j) ≡ fold (cell_after i j) 255 es

-- an entry that has its cells in the table
pub record IsWritable (e : Entry) : Type 0 where
  pub a : e.a < 16
  pub b : e.b < 16
  pub a_to_b : e.a_to_b ≤ 60
  pub b_to_a : e.b_to_a ≤ 60
