-- The lines of a curve's text are the texts of its rows.
use Rattle.std.proofs.Common.{ℕ, suc, List, [], ◌∷◌, ◌++◌, ◌≡◌, ◌≢◌, ◌-◌, ◌≤◌, Some, sym, refl, ◌∙◌, ap, subst, map, length, length-append, append_assoc, append-nil, slice_get, arith}
use Rattle.std.specs.Prelude.{option_map}
use Rattle.std.proofs.lemmas.List.{length-map}
use Rattle.std.proofs.lemmas.List.Elements.{All-head, All-tail}
use Rattle.std.proofs.lemmas.Option.{same_Some, slice_get-map}
use Rattle.junction_model.specs.Junction.{JunctionView}
use Rattle.plan_model.specs.Fits.{group_count}
use Rattle.plan_certificate.specs.Ranges.{IsInRange}
use Rattle.plan_certificate.specs.Reads.{Spells}
use Rattle.plan_certificate.specs.Text.{text_of}
use Rattle.plan_certificate.proofs.PlainText.{IsPlain, text_is_plain}
use Rattle.cycle_curve.specs.Curve.{RowView, EachRow}
use Rattle.cycle_curve.specs.Judged.{AreInRange, SpellRows}
use Rattle.cycle_curve.specs.Lines.{line_feed, lines_behind, lines_of, EndsLine, HasItsLines, curve_text}
use Rattle.cycle_curve.proofs.LineParts.{at_feed, at_other}

abbrev row_text : RowView → List ℕ
row_text row = text_of row.certificate

-- the text of a row spells its certificate, where the parts are in their ranges
abbrev pub IsSpelt : RowView → Type 0
IsSpelt row = (groups : ℕ) → IsInRange groups row.certificate → Spells groups (text_of row.certificate) row.certificate

-- the first line feed ends the line
feed_ends : (line text rest : List ℕ) → IsPlain text → lines_behind line (text ++ line_feed ∷ rest) ≡ (line ++ text) ∷ lines_of rest
feed_ends line [] rest plain = at_feed line rest line_feed refl ∙ ap (λ l. l ∷ lines_of rest) (sym (append-nil line))
feed_ends line (byte ∷ text) rest plain =
    let other : byte ≢ line_feed = λ is. (let low = All-head (λ b. 32 ≤ b) byte text plain in omega (arith, low, is)) in
    at_other line (text ++ line_feed ∷ rest) byte other ∙ feed_ends (line ++ byte ∷ []) text rest (All-tail (λ b. 32 ≤ b) byte text plain)
    ∙ ap (λ l. l ∷ lines_of rest) (append_assoc line (byte ∷ []) text)

written_lines : (rows : List RowView) → lines_of (curve_text rows) ≡ map row_text rows
written_lines [] = refl
written_lines (row ∷ rows) =
    feed_ends [] (text_of row.certificate) (curve_text rows) (text_is_plain row.certificate) ∙ ap (λ lines. text_of row.certificate ∷ lines) (written_lines rows)

-- the last byte of what follows is the last one of all
last_behind : (xs : List ℕ) (y : ℕ) (ys : List ℕ) → slice_get (xs ++ y ∷ ys) (length (xs ++ y ∷ ys) - 1) ≡ slice_get (y ∷ ys) (length ys)
last_behind [] y ys = let last : length (y ∷ ys) - 1 ≡ length ys = omega arith in ap (slice_get (y ∷ ys)) last
last_behind (x ∷ xs) y ys =
    let some = length-append xs (y ∷ ys) in
    let last : length (x ∷ (xs ++ y ∷ ys)) - 1 ≡ suc (length (xs ++ y ∷ ys) - 1) = omega (arith, some) in
    ap (slice_get (x ∷ (xs ++ y ∷ ys))) last ∙ last_behind xs y ys

last_of_rest : (y : ℕ) (ys : List ℕ) → 1 ≤ length ys → slice_get (y ∷ ys) (length ys) ≡ slice_get ys (length ys - 1)
last_of_rest y ys some = let last : length ys ≡ suc (length ys - 1) = omega (arith, some) in ap (slice_get (y ∷ ys)) last

ends_line : (rows : List RowView) → 1 ≤ length rows → EndsLine (curve_text rows)
ends_line [] some = absurd (omega (arith, some))
ends_line (row ∷ []) some = last_behind (text_of row.certificate) line_feed []
ends_line (row ∷ next ∷ rows) some =
    let more = length-append (text_of next.certificate) (line_feed ∷ curve_text rows) in
    last_behind (text_of row.certificate) line_feed (curve_text (next ∷ rows))
    ∙ last_of_rest line_feed (curve_text (next ∷ rows)) (omega (arith, more)) ∙ ends_line (next ∷ rows) (omega arith)

pub text_spells : (junction : JunctionView) (rows : List RowView) (bytes : List ℕ) → EachRow IsSpelt rows → bytes ≡ curve_text rows → AreInRange junction rows →
    HasItsLines junction bytes × SpellRows junction bytes rows
text_spells junction rows bytes each is range =
    let counted : length (lines_of (curve_text rows)) ≡ length rows = ap length (written_lines rows) ∙ length-map rows row_text in
    subst (λ bs. HasItsLines junction bs × SpellRows junction bs rows) (sym is) (
      record {
        ends = ends_line rows (omega (arith, range.of_junction.count));
        count = counted ∙ range.of_junction.count;
      },
      record {
        of_junction = range.of_junction;
        each = λ k row line at there.
            let own : Some (row_text row) ≡ Some line =
            sym (slice_get-map row_text rows k ∙ ap (option_map row_text) at) ∙ sym (ap (λ lines. slice_get lines k) (written_lines rows)) ∙ there in
            subst (λ text. Spells (group_count junction) text row.certificate) (same_Some (row_text row) line own) (each k row at (group_count junction) (range.each k row at));
      },
    )
