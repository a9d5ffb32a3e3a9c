-- A numeral that `parse` doesn't take is above 64 bits.
use Rattle.std.proofs.Common.{ℕ, List, [], ◌∷◌, Bool, true, false, ◌&&◌, ◌≡◌, ◌<◌, ◌^◌, Err, None, inl, inr, length, refl, sym, arith, rules, leb}
use Rattle.std.specs.Char.{is_ascii_digit}
use Rattle.std.specs.List.{list_all}
use Rattle.std.specs.Str.Parse.{ParsesUnsigned, digits_value}
use Rattle.std.proofs.lemmas.Str.Parse.{IsDigitsTest, IsNumeralModel, numerals_by_value, parse_digits}
use Rattle.std.proofs.lemmas.Bool.{false≢true, cases_lt}
use Rattle.std.proofs.lemmas.Grind.{common_steps}
use Rattle.command_words.specs.Number.{is_numeral, decimal_value, number_in}

tells_digits : IsDigitsTest (λ ds. list_all is_ascii_digit ds ≡ true)
tells_digits = search rules

model : IsNumeralModel (λ ds. list_all is_ascii_digit ds ≡ true) (digits_value 10)
model = numerals_by_value _ tells_digits

numeral_digits : (word : List ℕ) → is_numeral word ≡ true → (list_all is_ascii_digit word ≡ true) × (0 < length word)
numeral_digits [] e = absurd (false≢true e)
numeral_digits (digit ∷ []) e = grind (arith, common_steps)
numeral_digits (first ∷ second ∷ rest) e = grind (arith, common_steps)

not_at_most : (v high : ℕ) (a b : Bool) → high < v → (a && b && leb v high) ≡ false
not_at_most v high a b h = grind (arith, common_steps)

-- a word that `parse` refuses is no number of 64 bits
pub not_parsed : {E : Type 0} (e : E) (low high : ℕ) (word : List ℕ) → is_numeral word ≡ true → high < 2 ^ 64 → ParsesUnsigned {E = E} 64 10 word (Err e) → None ≡ number_in low high word
not_parsed e low high word numeral bounded h =
    let digits = numeral_digits word numeral in
    let refused = parse_digits model 64 word (Err e) h digits.0 in
    let above : high < decimal_value word = elim (cases_lt high (decimal_value word)) [ inl k ↦ k | inr k ↦ absurd (refused (digits.1, omega (arith, k, bounded))) ] in
    sym (rw (not_at_most (decimal_value word) high (is_numeral word) (leb low (decimal_value word)) above) refl)
