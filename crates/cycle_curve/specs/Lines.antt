-- The lines of a curve's text: what stands before each line feed.
use Rattle.std.specs.Prelude.{ℕ, List, [], ◌∷◌, ◌++◌, ◌==◌, ◌≡◌, ◌-◌, Some, length, slice_get, if◌then◌else◌}
use Rattle.junction_model.specs.Junction.{JunctionView}
use Rattle.plan_certificate.specs.Text.{text_of}
use Rattle.certificate_checker.specs.ClaimTrees.{cycle_count}
use Rattle.cycle_curve.specs.Curve.{RowView}

abbrev pub line_feed : ℕ
line_feed = 10

-- the lines of the rest, behind what was read of the first one
abbrev pub lines_behind : List ℕ → List ℕ → List (List ℕ)
lines_behind line [] = []
lines_behind line (byte ∷ rest) = (if byte == line_feed then line ∷ lines_behind [] rest else lines_behind (line ++ byte ∷ []) rest)

abbrev pub lines_of : List ℕ → List (List ℕ)
lines_of bytes = lines_behind [] bytes

-- the last byte is a line feed
abbrev pub EndsLine : List ℕ → Type 0
EndsLine bytes = slice_get bytes (length bytes - 1) ≡ Some line_feed

-- and there are as many lines as cycles
pub record HasItsLines (junction : JunctionView) (bytes : List ℕ) : Type 0 where
  pub ends : EndsLine bytes
  pub count : length (lines_of bytes) ≡ cycle_count junction

-- each row's certificate on a line of its own
abbrev pub curve_text : List RowView → List ℕ
curve_text [] = []
curve_text (row ∷ rows) = text_of row.certificate ++ line_feed ∷ curve_text rows
