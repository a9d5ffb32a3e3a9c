-- The text of rows: lines of comma-separated fields, each ended by a line feed.
use Rattle.std.specs.Prelude.{codes, ℕ, List, [], ◌∷◌, ◌++◌, ◌+◌, map}
use Rattle.std.specs.Fmt.{decimal}
use Rattle.csv.specs.Writing.{default_writer, row_text}
use Rattle.junction_model.specs.declared.group.Group.{Group}
use Rattle.junction_model.specs.Junction.{JunctionView}
use Rattle.plan_model.specs.SignalPlan.{PlanView}
use Rattle.aspect_player.specs.Aspect.{aspect_at}
use Rattle.aspect_player.specs.Timetable.{Display, row_by, rows_by}
use Rattle.aspect_player.specs.declared.aspect.Aspect.{Aspect}
use Rattle.aspect_player.specs.declared.aspect.Aspect.TheVariants.{Red, RedAmber, Green, Amber}

abbrev pub word_of : Aspect → List ℕ
word_of Red = codes "red"
word_of RedAmber = codes "red_amber"
word_of Green = codes "green"
word_of Amber = codes "amber"

-- the line of these fields, as `csv` writes it
abbrev pub line_of : List (List ℕ) → List ℕ
line_of fields = row_text default_writer fields

-- `second` and the names of the groups
abbrev pub header_line : JunctionView → List ℕ
header_line junction = line_of (codes "second" ∷ map (λ (group : Group). group.label) junction.groups)

-- the number of the second and the aspect of each group
abbrev pub row_line : ℕ → List Aspect → List ℕ
row_line second row = line_of (decimal second ∷ map word_of row)

-- the lines of rows, of which the first has this number
unfoldable pub row_lines : ℕ → List (List Aspect) → List ℕ
row_lines second [] = []
row_lines second (row ∷ rows) = row_line second row ++ row_lines (second + 1) rows

-- the header and the lines of all rows
abbrev pub rows_text : JunctionView → List (List Aspect) → List ℕ
rows_text junction rows = header_line junction ++ row_lines 0 rows

-- the line of one second, and the text of n seconds
abbrev pub display_line : JunctionView → Display → ℕ → List ℕ
display_line junction display t = row_line t (row_by junction display t)

abbrev pub display_text : JunctionView → Display → ℕ → List ℕ
display_text junction display n = rows_text junction (rows_by junction display n)

-- those of a plan
abbrev pub own_line : JunctionView → PlanView → ℕ → List ℕ
own_line junction p t = display_line junction (aspect_at p) t

abbrev pub played_text : JunctionView → PlanView → ℕ → List ℕ
played_text junction p n = display_text junction (aspect_at p) n
