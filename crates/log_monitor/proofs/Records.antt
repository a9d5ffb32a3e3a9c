-- What a reader has read is the beginning of the records of the bytes.
use Rattle.std.proofs.Common.{ℕ, zero, suc, List, [], ◌∷◌, ◌++◌, length, Bool, true, false, Some, None, ◌≡◌, ◌≤◌, ◌<◌, ◌+◌, ◌-◌, ◌==◌, ◌||◌, if◌then◌else◌, inl, inr, refl, sym, ap, ◌∙◌, subst, arith}
use Rattle.std.proofs.lemmas.Bool.{cases_Bool, false≢true}
use Rattle.csv.specs.Machine.{Read, next_record, step, in_field, start_field, start_record, after_end, is_end, ends_at_end, fields_after, field_after}
use Rattle.csv.specs.Reading.{Reached, default_config, records_from}
use Rattle.csv.specs.declared.parser.State.{State}
use Rattle.csv.specs.declared.parser.State.TheVariants as st
use Rattle.csv.specs.declared.parser.Action.{Action}
use Rattle.csv.specs.declared.parser.Action.TheVariants as act
use Rattle.csv.specs.declared.parser.Terminator.TheVariants as term
use Rattle.log_monitor.specs.Log.{Fields}

-- where a byte ends the record, the end of the text right after it ends none
Fine : State × Action → Type 0
Fine next = is_end next.1 ≡ true → ends_at_end next.0 ≡ false

pick : (b : Bool) (x y : State × Action) → Fine x → Fine y → Fine (if b then x else y)
unfolding Fine
pick true x y f g = f
pick false x y f g = g

after_fine : (c : ℕ) → Fine (after_end term.CRLF c, act.EndRecord)
unfolding Fine
after_fine c e = by (c == 13)
  where
    by : (b : Bool) → ends_at_end (if b then st.AfterCr else st.StartRecord) ≡ false
    by true = refl
    by false = refl

field_fine : (c : ℕ) → Fine (in_field default_config c)
unfolding Fine
field_fine c = pick (c == 44) _ _ (λ e. absurd (false≢true e)) (pick ((c == 13) || (c == 10)) _ _ (after_fine c) (λ e. absurd (false≢true e)))

start_field_fine : (c : ℕ) → Fine (start_field default_config c)
unfolding Fine
start_field_fine c = pick (c == 34) _ _ (λ e. absurd (false≢true e)) (field_fine c)

start_record_fine : (c : ℕ) → Fine (start_record default_config c)
unfolding Fine
start_record_fine c = pick ((c == 13) || (c == 10)) _ _ (λ e. absurd (false≢true e)) (start_field_fine c)

step_ends : (s : State) (c : ℕ) → Fine (step default_config s c)
unfolding Fine
step_ends st.StartRecord c = start_record_fine c
step_ends st.StartField c = start_field_fine c
step_ends st.InField c = field_fine c
step_ends st.InQuoted c = pick (c == 34) (st.AfterQuote, act.Skip) (st.InQuoted, act.Copy) (λ e. absurd (false≢true e)) (λ e. absurd (false≢true e))
step_ends st.InEscape c = λ e. absurd (false≢true e)
step_ends st.AfterQuote c = pick (c == 34) _ _ (λ e. absurd (false≢true e)) (field_fine c)
step_ends st.InComment c = pick (c == 10) (st.StartRecord, act.Skip) (st.InComment, act.Skip) (λ e. absurd (false≢true e)) (λ e. absurd (false≢true e))
step_ends st.AfterCr c = pick (c == 10) _ _ (λ e. absurd (false≢true e)) (start_record_fine c)

-- what a record leaves of the bytes
record Leaves (s : State) (xs : List ℕ) (p : Read) : Type 0 where
  at_end : ends_at_end p.1 ≡ false
  most : length p.2 ≤ length xs
  fewer : ends_at_end s ≡ false → length p.2 < length xs

record_leaves : (s : State) (fields : Fields) (field xs : List ℕ) (p : Read) → next_record default_config s fields field xs ≡ Some p →
    Leaves s xs p
unfolding next_record Fine
record_leaves s fields field [] p e = elim (cases_Bool (ends_at_end s)) [
  | inl ends ↦
      let is : Some (fields ++ (field ∷ []), st.StartRecord, []) ≡ Some p = rw ends at e in
      let same : (fields ++ (field ∷ []), st.StartRecord, []) ≡ p = cc in
      subst (λ q. Leaves s [] q) same (record { at_end = refl; most = omega arith; fewer = λ none. absurd (false≢true (sym none ∙ ends)) })
  | inr none ↦ absurd (let no : None ≡ Some p = rw none at e in cc)
]
record_leaves s fields field (c ∷ rest) p e = by (is_end (step default_config s c).1) refl
    (record_leaves (step default_config s c).0 (fields_after (step default_config s c).1 fields field) (field_after (step default_config s c).1 c field) rest p)
  where
    by : (b : Bool) → is_end (step default_config s c).1 ≡ b →
        (next_record default_config (step default_config s c).0 (fields_after (step default_config s c).1 fields field) (field_after (step default_config s c).1 c field) rest ≡ Some p →
        Leaves (step default_config s c).0 rest p) → Leaves s (c ∷ rest) p
    by true ends later =
        let is : Some (fields_after (step default_config s c).1 fields field, (step default_config s c).0, rest) ≡ Some p = rw ends at e in
        let same : (fields_after (step default_config s c).1 fields field, (step default_config s c).0, rest) ≡ p = cc in
        subst (λ q. Leaves s (c ∷ rest) q) same (record { at_end = step_ends s c ends; most = omega arith; fewer = λ _. omega arith })
    by false goes later =
        let is = rw goes at e in
        let more = later is in
        record { at_end = more.at_end; most = omega (arith, more.most); fewer = λ _. omega (arith, more.most) }

-- each record takes a byte at least
pub read_count : (rows : List Fields) (s s2 : State) (xs ys : List ℕ) → ends_at_end s ≡ false → Reached default_config s xs rows s2 ys →
    length rows + length ys ≤ length xs
unfolding Reached
read_count [] s s2 xs ys at reached = omega (arith, ap length reached.1)
read_count (row ∷ rows) s s2 xs ys at reached =
    let p = reached.0 in
    let leaves = record_leaves s [] [] xs p reached.1 in
    omega (arith, leaves.fewer at, read_count rows p.1 s2 p.2 ys leaves.at_end reached.3)

-- the records that were read, and then those of the bytes that are left
pub read_first : (n : ℕ) (rows : List Fields) (s s2 : State) (xs ys : List ℕ) → length rows ≤ n → Reached default_config s xs rows s2 ys →
    records_from default_config n s xs ≡ rows ++ records_from default_config (n - length rows) s2 ys
unfolding Reached records_from
read_first n [] s s2 xs ys h reached = let plain : n - 0 ≡ n = omega arith in rw (plain, reached.0, reached.1) refl
read_first zero (row ∷ rows) s s2 xs ys h reached = absurd (omega arith)
read_first (suc n) (row ∷ rows) s s2 xs ys h reached =
    let p = reached.0 in
    let less : suc n - length (row ∷ rows) ≡ n - length rows = omega arith in
    rw (less, reached.1, reached.2) (ap (λ (more : List Fields). p.0 ∷ more) (read_first n rows p.1 s2 p.2 ys (omega arith) reached.3))

-- where no record is left, these are all
pub read_all : (n : ℕ) (s : State) (ys : List ℕ) → next_record default_config s [] [] ys ≡ None → records_from default_config n s ys ≡ []
unfolding records_from
read_all zero s ys none = refl
read_all (suc n) s ys none = rw none refl
