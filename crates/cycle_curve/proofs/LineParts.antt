-- The lines of bytes, one after another.
use Rattle.std.proofs.Common.{ℕ, zero, suc, List, [], ◌∷◌, ◌++◌, ◌≡◌, ◌≢◌, ◌+◌, ◌<◌, ◌≤◌, Some, inl, inr, sym, refl, ◌∙◌, ap, length, take, drop, slice_get, get_or, add-one, drop-cons, arith}
use Rattle.std.proofs.lemmas.Bool.{cases_eq, ne_eqb}
use Rattle.std.proofs.lemmas.List.{take_more}
use Rattle.cycle_curve.specs.Lines.{line_feed, lines_behind, lines_of}

pub at_feed : (line rest : List ℕ) (byte : ℕ) → byte ≡ line_feed → lines_behind line (byte ∷ rest) ≡ line ∷ lines_of rest
at_feed line rest byte is = rw is refl

pub at_other : (line rest : List ℕ) (byte : ℕ) → byte ≢ line_feed → lines_behind line (byte ∷ rest) ≡ lines_behind (line ++ byte ∷ []) rest
at_other line rest byte other = rw (ne_eqb byte line_feed other) refl

-- how many lines there are doesn't hang on what was read of the first one
pub any_start : (one other rest : List ℕ) → length (lines_behind one rest) ≡ length (lines_behind other rest)
any_start one other [] = refl
any_start one other (byte ∷ rest) = elim (cases_eq byte line_feed) [
  | inl feed ↦ rw (at_feed one rest byte feed, at_feed other rest byte feed) refl
  | inr not ↦ rw (at_other one rest byte not, at_other other rest byte not) (any_start (one ++ byte ∷ []) (other ++ byte ∷ []) rest)
]

pub count_feed : (rest : List ℕ) (byte : ℕ) → byte ≡ line_feed → length (lines_of (byte ∷ rest)) ≡ length (lines_of rest) + 1
count_feed rest byte feed = rw (at_feed [] rest byte feed) (omega arith)

pub count_other : (rest : List ℕ) (byte : ℕ) → byte ≢ line_feed → length (lines_of (byte ∷ rest)) ≡ length (lines_of rest)
count_other rest byte not = rw (at_other [] rest byte not) (any_start (byte ∷ []) [] rest)

nil_cons : {X : Type 0} (k : ℕ) (x : X) (rest : List X) → drop k [] ≡ x ∷ rest → ⊥
nil_cons zero x rest is = cc
nil_cons (suc k) x rest is = cc

drop_all : {X : Type 0} (xs : List X) (at : ℕ) → length xs ≤ at → drop at xs ≡ []
drop_all [] zero past = refl
drop_all [] (suc at) past = refl
drop_all (x ∷ xs) zero past = absurd (omega (arith, past))
drop_all (x ∷ xs) (suc at) past = drop_all xs at (omega (arith, past))

no_lines : (lines : List (List ℕ)) → [] ≡ lines → 1 ≤ length lines → ⊥
no_lines [] is some = omega (arith, some)
no_lines (line ∷ lines) is some = cc

-- the first of the items from a place on
pub record IsNextItem {X : Type 0} (xs : List X) (k : ℕ) (x : X) (rest : List X) : Type 0 where
  pub there : slice_get xs k ≡ Some x
  pub behind : drop (k + 1) xs ≡ rest

pub next_item : {X : Type 0} (xs : List X) (k : ℕ) (x : X) (rest : List X) → drop k xs ≡ x ∷ rest → IsNextItem xs k x rest
next_item [] k x rest is = absurd (nil_cons k x rest is)
next_item (y ∷ xs) zero x rest is = record { there = ap (λ ys. slice_get ys 0) is; behind = ap (drop 1) is }
next_item (y ∷ xs) (suc k) x rest is =
    let later = next_item xs k x rest is in
    let more : suc k + 1 ≡ suc (k + 1) = omega arith in
    record { there = later.there; behind = rw more later.behind }

-- a byte of the rest, from a place on
rest_from : (bytes : List ℕ) (at : ℕ) → at < length bytes → drop at bytes ≡ get_or bytes at 0 ∷ drop (at + 1) bytes
rest_from bytes at within = rw add-one (drop-cons bytes at 0 within)

pub feed_here : (bytes : List ℕ) (at : ℕ) → at < length bytes → get_or bytes at 0 ≡ line_feed → lines_behind (take at bytes) (drop at bytes) ≡ lines_of bytes →
    lines_of bytes ≡ take at bytes ∷ lines_of (drop (at + 1) bytes)
feed_here bytes at within feed is =
    sym is ∙ ap (lines_behind (take at bytes)) (rest_from bytes at within) ∙ at_feed (take at bytes) (drop (at + 1) bytes) (get_or bytes at 0) feed

pub other_here : (bytes : List ℕ) (at : ℕ) → at < length bytes → get_or bytes at 0 ≢ line_feed → lines_behind (take at bytes) (drop at bytes) ≡ lines_of bytes →
    lines_behind (take (at + 1) bytes) (drop (at + 1) bytes) ≡ lines_of bytes
other_here bytes at within other is = rw (take_more bytes at 0 within)
    (sym (at_other (take at bytes) (drop (at + 1) bytes) (get_or bytes at 0) other) ∙ sym (ap (lines_behind (take at bytes)) (rest_from bytes at within)) ∙ is)

-- behind the last byte there is no line
pub none_behind : (bytes : List ℕ) (at : ℕ) → length bytes ≤ at → lines_behind (take at bytes) (drop at bytes) ≡ lines_of bytes → 1 ≤ length (lines_of bytes) → ⊥
none_behind bytes at past is some =
    let none : drop at bytes ≡ [] = drop_all bytes at past in
    let empty : [] ≡ lines_of bytes = sym (ap (lines_behind (take at bytes)) none) ∙ is in
    no_lines (lines_of bytes) empty some

-- how many lines are still to come
pub count_here : (bytes : List ℕ) (at count : ℕ) → at < length bytes → get_or bytes at 0 ≡ line_feed → count + length (lines_of (drop at bytes)) ≡ length (lines_of bytes) →
    count + 1 + length (lines_of (drop (at + 1) bytes)) ≡ length (lines_of bytes)
count_here bytes at count within feed is =
    let here = ap (λ rest. length (lines_of rest)) (rest_from bytes at within) in
    let one = count_feed (drop (at + 1) bytes) (get_or bytes at 0) feed in omega (arith, is, here, one)

pub count_past : (bytes : List ℕ) (at count : ℕ) → at < length bytes → get_or bytes at 0 ≢ line_feed → count + length (lines_of (drop at bytes)) ≡ length (lines_of bytes) →
    count + length (lines_of (drop (at + 1) bytes)) ≡ length (lines_of bytes)
count_past bytes at count within other is =
    let here = ap (λ rest. length (lines_of rest)) (rest_from bytes at within) in
    let same = count_other (drop (at + 1) bytes) (get_or bytes at 0) other in omega (arith, is, here, same)

pub count_all : (bytes : List ℕ) (at count : ℕ) → length bytes ≤ at → count + length (lines_of (drop at bytes)) ≡ length (lines_of bytes) → count ≡ length (lines_of bytes)
count_all bytes at count past is =
    let here : length (lines_of (drop at bytes)) ≡ 0 = ap (λ rest. length (lines_of rest)) (drop_all bytes at past) in omega (arith, is, here)
