-- The text of rows is the log of these rows.
use Rattle.std.proofs.Common.{codes, ℕ, zero, suc, List, [], ◌∷◌, ◌++◌, length, length-append, if◌then◌else◌, map, ◌≡◌, ◌≤◌, ◌+◌, refl, ap, ◌∙◌, arith}
use Rattle.std.specs.Fmt.{decimal}
use Rattle.csv.specs.Machine.{next_record}
use Rattle.csv.specs.Reading.{default_config, records, records_from, strip_bom}
use Rattle.csv.specs.Writing.{default_writer, row_text, row_body, is_blank}
use Rattle.csv.specs.declared.parser.State.TheVariants as st
use Rattle.csv.proofs.RoundTrip.{read-write}
use Rattle.junction_model.specs.declared.group.Group.{Group}
use Rattle.junction_model.specs.Junction.{JunctionView}
use Rattle.aspect_player.specs.declared.aspect.Aspect.{Aspect}
use Rattle.aspect_player.specs.Lines.{word_of, header_line, row_line, row_lines, rows_text}
use Rattle.log_monitor.specs.Log.{Fields, header_of, record_of, records_of, records_in}
use Rattle.log_monitor.specs.LogLaws.{RowsTextLaw}

-- a line has its line feed at least
line_some : (fields : Fields) → 1 ≤ length (row_text default_writer fields)
line_some fields =
    let body = row_body default_writer fields in
    let rest = (if is_blank default_writer fields then default_writer.quote ∷ default_writer.quote ∷ [] else []) in
    omega (arith, length-append body (rest ++ 10 ∷ []), length-append rest (10 ∷ []))

row_lines_read : (n second : ℕ) (rows : List (List Aspect)) → length rows ≤ n →
    records_from default_config n st.StartRecord (row_lines second rows) ≡ records_of second rows
unfolding records_from row_lines records_of next_record
row_lines_read zero second [] h = refl
row_lines_read (suc n) second [] h = refl
row_lines_read zero second (row ∷ rows) h = absurd (omega arith)
row_lines_read (suc n) second (row ∷ rows) h =
    rw (read-write (decimal second ∷ map word_of row) (row_lines (second + 1) rows))
    (ap (λ (more : List Fields). record_of second row ∷ more) (row_lines_read n (second + 1) rows (omega arith)))

row_lines_count : (second : ℕ) (rows : List (List Aspect)) → length rows ≤ length (row_lines second rows)
unfolding row_lines
row_lines_count second [] = omega arith
row_lines_count second (row ∷ rows) =
    omega (arith, line_some (decimal second ∷ map word_of row), row_lines_count (second + 1) rows, length-append (row_line second row) (row_lines (second + 1) rows))

-- the text begins with the word of the header, and so with no byte order mark
no_mark : (junction : JunctionView) (more : List ℕ) → strip_bom (header_line junction ++ more) ≡ header_line junction ++ more
unfolding strip_bom
no_mark junction more = refl

header_read : (junction : JunctionView) (rows : List (List Aspect)) (n : ℕ) → length rows ≤ n →
    records_from default_config (suc n) st.StartRecord (rows_text junction rows) ≡ header_of junction ∷ records_of 0 rows
unfolding records_from
header_read junction rows n h =
    rw (read-write (codes "second" ∷ map (λ (group : Group). group.label) junction.groups) (row_lines 0 rows))
    (ap (λ (more : List Fields). header_of junction ∷ more) (row_lines_read n 0 rows h))

text_read : (junction : JunctionView) (rows : List (List Aspect)) →
    records_in (rows_text junction rows) ≡ header_of junction ∷ records_of 0 rows
text_read junction rows =
    let n : ℕ = length (rows_text junction rows) in
    let enough : length rows ≤ n = omega (arith, row_lines_count 0 rows, length-append (header_line junction) (row_lines 0 rows)) in
    let one : n + 1 ≡ suc n = omega arith in
    ap (λ (text : List ℕ). records default_config text) (no_mark junction (row_lines 0 rows))
    ∙ ap (λ m. records_from default_config m st.StartRecord (rows_text junction rows)) one ∙ header_read junction rows n enough

pub rows_text_law : RowsTextLaw
rows_text_law junction rows are = record { full = are; seconds = omega arith; records = text_read junction rows }
