-- Texts that are written one after another.
use Rattle.std.proofs.Common.{ℕ, List, [], ◌∷◌, ◌++◌, Option, Ok, Err, ◌≡◌, ◌≤◌, ◌<◌, ◌+◌, ◌-◌, inl, inr, length, take, drop, refl, sym, ap, ◌∙◌, subst, arith, append_assoc, take-append-drop}
use Rattle.std.proofs.Math.Seq.{take-length}
use Rattle.std.proofs.lemmas.List.{append-nil}
use Rattle.std.specs.Prelude.{IsErrOf}
use Rattle.std.specs.Io.KnownBytes.{Appends}
use Rattle.csv.proofs.WriteFacts.{appends-more, appends-none}
use Rattle.junction_model.specs.Junction.{JunctionView}
use Rattle.aspect_player.specs.declared.aspect.Aspect.{Aspect}
use Rattle.aspect_player.specs.declared.fault.PlayFault.{PlayFault}
use Rattle.aspect_player.specs.declared.fault.PlayFault.TheVariants.{Sink, Memory}
use Rattle.aspect_player.specs.Timetable.{Display, rows_from, rows_by}
use Rattle.aspect_player.specs.Lines.{row_line, row_lines, header_line, display_line, display_text}
use Rattle.aspect_player.specs.Written.{Writes, EndsInRow}
use Rattle.aspect_player.proofs.Timetable.{rows_split, row_count}

take_front : (xs ys : List ℕ) → take (length xs) (xs ++ ys) ≡ xs
take_front [] ys = refl
take_front (x ∷ xs) ys = ap (λ l. x ∷ l) (take_front xs ys)

lines_split : (t : ℕ) (xs ys : List (List Aspect)) → row_lines t (xs ++ ys) ≡ row_lines t xs ++ row_lines (t + length xs) ys
unfolding row_lines
lines_split t [] ys = let plain : t + 0 ≡ t = omega arith in ap (λ m. row_lines m ys) (sym plain)
lines_split t (x ∷ xs) ys =
    let later : t + 1 + length xs ≡ t + length (x ∷ xs) = omega arith in
    ap (λ l. row_line t x ++ l) (lines_split (t + 1) xs ys ∙ ap (λ m. row_lines (t + 1) xs ++ row_lines m ys) later)
    ∙ sym (append_assoc (row_line t x) (row_lines (t + 1) xs) (row_lines (t + length (x ∷ xs)) ys))

one_line : (junction : JunctionView) (display : Display) (t : ℕ) → row_lines t (rows_from junction display t 1) ≡ display_line junction display t
unfolding row_lines rows_from
one_line junction display t = append-nil (display_line junction display t)

-- the text of k seconds, and what follows in that of m more
text_split : (junction : JunctionView) (display : Display) (k m : ℕ) → display_text junction display (k + m) ≡ display_text junction display k ++ row_lines k (rows_from junction display k m)
text_split junction display k m =
    let head = header_line junction in
    let first = rows_from junction display 0 k in
    let plain : 0 + k ≡ k = omega arith in
    let count : 0 + length first ≡ k = omega (arith, row_count junction display 0 k) in
    ap (λ rows. head ++ row_lines 0 rows) (rows_split junction display 0 k m ∙ ap (λ n. first ++ rows_from junction display n m) plain)
    ∙ ap (λ l. head ++ l) (lines_split 0 first (rows_from junction display k m) ∙ ap (λ n. row_lines 0 first ++ row_lines n (rows_from junction display k m)) count)
    ∙ sym (append_assoc head (row_lines 0 first) (row_lines k (rows_from junction display k m)))

text_more : (junction : JunctionView) (display : Display) (k : ℕ) → display_text junction display (k + 1) ≡ display_text junction display k ++ display_line junction display k
text_more junction display k = text_split junction display k 1 ∙ ap (λ l. display_text junction display k ++ l) (one_line junction display k)

-- a text was written so far, and no fault was counted
pub record HasWritten (old now : Option (List ℕ)) (text : List ℕ) (faults_old faults_now : ℕ) : Type 0 where
  pub appended : Appends old now text
  pub faults : faults_now ≡ faults_old

pub begun : (junction : JunctionView) (display : Display) (old now : Option (List ℕ)) (f g : ℕ) → Writes {T = Unit {0}} old now (header_line junction) f g (Ok tt) →
    HasWritten old now (display_text junction display 0) f g
unfolding rows_from row_lines
begun junction display old now f g w =
    record { appended = subst (Appends old now) (sym (append-nil (header_line junction))) w.whole; faults = w.same }

pub one_more : (junction : JunctionView) (display : Display) (k : ℕ) (old a b : Option (List ℕ)) (f g h : ℕ) → HasWritten old a (display_text junction display k) f g →
    Writes {T = Unit {0}} a b (display_line junction display k) g h (Ok tt) → HasWritten old b (display_text junction display (k + 1)) f h
one_more junction display k old a b f g h so_far w = record {
  appended = subst (Appends old b) (sym (text_more junction display k)) (appends-more old a b _ _ so_far.appended w.whole);
  faults = w.same ∙ so_far.faults;
}

part_of : (old now : Option (List ℕ)) (text xs ys : List ℕ) → Appends old now xs → text ≡ xs ++ ys → (n : ℕ) × Appends old now (take n text)
part_of old now text xs ys h e = (length xs, subst (Appends old now) (sym (ap (take (length xs)) e ∙ take_front xs ys)) h)

memory_no_sink : IsErrOf {T = Unit {0}} {E = PlayFault} (Err Memory) Sink → ⊥
memory_no_sink e = cc

-- a fault in a piece after some text that was written, of a whole text that begins with both
failed_after : (old a b : Option (List ℕ)) (xs piece rest text : List ℕ) (f g h : ℕ) (e : PlayFault) → Appends old a xs → g ≡ f →
    Writes {T = Unit {0}} a b piece g h (Err e) → text ≡ (xs ++ piece) ++ rest → Writes {T = Unit {0}} old b text f h (Err e)
failed_after old a b xs piece rest text f g h e so_far none w whole =
    let n = w.part.0 in
    let seam : text ≡ (xs ++ take n piece) ++ (drop n piece ++ rest) =
    whole ∙ ap (λ l. (xs ++ l) ++ rest) (sym (take-append-drop n piece)) ∙ ap (λ l. l ++ rest) (sym (append_assoc xs (take n piece) (drop n piece)))
    ∙ append_assoc (xs ++ take n piece) (drop n piece) rest in
    record {
      whole = tt;
      part = part_of old b text (xs ++ take n piece) (drop n piece ++ rest) (appends-more old a b xs (take n piece) so_far w.part.1) seam;
      later = omega (arith, none, w.later);
      failed = λ sink. omega (arith, none, w.failed sink);
      same = tt;
    }

pub failed_header : (junction : JunctionView) (display : Display) (n : ℕ) (old now : Option (List ℕ)) (f g : ℕ) (e : PlayFault) →
    Writes {T = Unit {0}} old now (header_line junction) f g (Err e) → Writes {T = Unit {0}} old now (display_text junction display n) f g (Err e)
failed_header junction display n old now f g e w =
    failed_after old old now [] (header_line junction) (row_lines 0 (rows_by junction display n)) (display_text junction display n) f f g e (appends-none old) refl w refl

pub failed_row : (junction : JunctionView) (display : Display) (k n : ℕ) (old a b : Option (List ℕ)) (f g h : ℕ) (e : PlayFault) → k < n →
    HasWritten old a (display_text junction display k) f g → Writes {T = Unit {0}} a b (display_line junction display k) g h (Err e) →
    Writes {T = Unit {0}} old b (display_text junction display n) f h (Err e)
failed_row junction display k n old a b f g h e inside so_far w =
    let rest = row_lines (k + 1) (rows_from junction display (k + 1) (n - (k + 1))) in
    let count : n ≡ k + 1 + (n - (k + 1)) = omega arith in
    let whole : display_text junction display n ≡ (display_text junction display k ++ display_line junction display k) ++ rest =
    ap (display_text junction display) count ∙ text_split junction display (k + 1) (n - (k + 1)) ∙ ap (λ l. l ++ rest) (text_more junction display k) in
    failed_after old a b (display_text junction display k) (display_line junction display k) rest (display_text junction display n) f g h e so_far.appended so_far.faults w whole

-- a fault of memory after the rows of k seconds
pub stopped_after : (junction : JunctionView) (display : Display) (k n : ℕ) (old now : Option (List ℕ)) (f g : ℕ) → k ≤ n →
    HasWritten old now (display_text junction display k) f g → Writes {T = Unit {0}} old now (display_text junction display n) f g (Err Memory)
stopped_after junction display k n old now f g within so_far =
    let rest = row_lines k (rows_from junction display k (n - k)) in
    let count : n ≡ k + (n - k) = omega arith in
    let whole : display_text junction display n ≡ (display_text junction display k ++ []) ++ rest =
    ap (display_text junction display) count ∙ text_split junction display k (n - k) ∙ ap (λ l. l ++ rest) (sym (append-nil (display_text junction display k))) in
    failed_after old now now (display_text junction display k) [] rest (display_text junction display n) f g g Memory so_far.appended so_far.faults
    (record { whole = tt; part = (0, appends-none now); later = omega arith; failed = λ sink. absurd (memory_no_sink sink); same = tt }) whole

-- where what was written ends: within the header
pub ends_in_header : (junction own : JunctionView) (display : Display) (t : ℕ) (old now : Option (List ℕ)) (f g : ℕ) (e : PlayFault) → own ≡ junction → t ≡ 0 →
    Writes {T = Unit {0}} old now (header_line own) f g (Err e) → EndsInRow old now junction display t
ends_in_header junction own display t old now f g e same first w = inr (first, (w.part.0, subst (λ j. Appends old now (take w.part.0 (header_line j))) same w.part.1))

module _ (junction : JunctionView) (display : Display) (k t : ℕ) (at : t ≡ k) where
  -- before the row of second k
  pub ends_before_row : (old now : Option (List ℕ)) (f g : ℕ) → HasWritten old now (display_text junction display k) f g → EndsInRow old now junction display t
  ends_before_row old now f g so_far =
      let whole : Appends old now (display_text junction display k ++ []) = subst (Appends old now) (sym (append-nil (display_text junction display k))) so_far.appended in
      subst (EndsInRow old now junction display) (sym at) (inl (0, whole))

  module _ (old a b : Option (List ℕ)) (f g h : ℕ) (line : List ℕ) (own : line ≡ display_line junction display k) (so_far : HasWritten old a (display_text junction display k) f g) where
    -- within it
    pub ends_in_row : (e : PlayFault) → Writes {T = Unit {0}} a b line g h (Err e) → EndsInRow old b junction display t
    ends_in_row e w =
        let part : Appends a b (take w.part.0 (display_line junction display k)) = subst (λ l. Appends a b (take w.part.0 l)) own w.part.1 in
        subst (EndsInRow old b junction display) (sym at) (inl (w.part.0, appends-more old a b _ _ so_far.appended part))

    -- just behind it
    pub ends_behind_row : Writes {T = Unit {0}} a b line g h (Ok tt) → EndsInRow old b junction display t
    ends_behind_row w =
        let row = display_line junction display k in
        let whole : Appends a b (take (length row) row) = subst (Appends a b) (own ∙ sym (take-length row)) w.whole in
        subst (EndsInRow old b junction display) (sym at) (inl (length row, appends-more old a b _ _ so_far.appended whole))
