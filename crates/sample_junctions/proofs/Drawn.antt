-- The drawn conflicts: their pairs rise, their intergreens are of 5 to 8 seconds, and each group conflicts with the next one.
use Rattle.std.proofs.Common.{ℕ, zero, suc, List, [], ◌∷◌, ◌++◌, Option, None, Some, IfSome, map, length, drop, get_or, All, Any, Contains, ◌≡◌, ◌≤◌, ◌<◌, ◌+◌, ◌==◌, if◌then◌else◌, true, refl, sym, ◌∙◌, subst, arith, append_assoc}
use Rattle.std.specs.List.{cons_option}
use Rattle.std.proofs.lemmas.Bool.{cond_both, eq-eqb}
use Rattle.std.proofs.lemmas.List.{drop_more}
use Rattle.std.proofs.lemmas.List.Elements.{All-nil, All-cons}
use Rattle.conflict_matrix.specs.declared.entry.Entry.{Entry}
use Rattle.sample_junctions.specs.Draws.{state_after}
use Rattle.sample_junctions.specs.Conflicts.{are_neighbours, is_chosen, drawn_entry, conflict_of, draws_of, drawn_conflicts}
use Rattle.sample_junctions.proofs.Rising.{place_of, AreRising, rising_above}

abbrev pub pair_of : Entry → ℕ × ℕ
pair_of e = (e.a, e.b)

pub record IsDrawn (e : Entry) : Type 0 where
  pub a_to_b : (5 ≤ e.a_to_b) × (e.a_to_b ≤ 8)
  pub b_to_a : (5 ≤ e.b_to_a) × (e.b_to_a ≤ 8)

-- a conflict of this pair
record IsDrawnFor (pair : ℕ × ℕ) (e : Entry) : Type 0 where
  pub same : pair_of e ≡ pair
  pub drawn : IsDrawn e

entry_is : (x : ℕ) (pair : ℕ × ℕ) → IsDrawnFor pair (drawn_entry x pair)
entry_is x pair = record { same = refl; drawn = record { a_to_b = (omega arith, omega arith); b_to_a = (omega arith, omega arith) } }

conflict_is : (x : ℕ) (pair : ℕ × ℕ) → IfSome (conflict_of x pair) (IsDrawnFor pair)
conflict_is x pair =
    cond_both (are_neighbours pair) (Some (drawn_entry x pair)) (if is_chosen x then Some (drawn_entry (state_after x 1) pair) else None)
    (λ o. IfSome o (IsDrawnFor pair)) (λ _. entry_is x pair) (λ _.
    cond_both (is_chosen x) (Some (drawn_entry (state_after x 1) pair)) None (λ o. IfSome o (IsDrawnFor pair)) (λ _. entry_is (state_after x 1) pair) (λ _. tt))

all_option : (pair : ℕ × ℕ) (o : Option Entry) (es : List Entry) → IfSome o (IsDrawnFor pair) → All IsDrawn es → All IsDrawn (cons_option o es)
all_option pair None es h all = all
all_option pair (Some e) es h all = All-cons IsDrawn e es h.drawn all

pub all_drawn : (x : ℕ) (ps : List (ℕ × ℕ)) → All IsDrawn (drawn_conflicts x ps)
all_drawn x [] = All-nil IsDrawn
all_drawn x (p ∷ ps) = all_option p (conflict_of x p) _ (conflict_is x p) (all_drawn (state_after x (draws_of x p)) ps)

rising_option : (n low : ℕ) (pair : ℕ × ℕ) (o : Option Entry) (es : List Entry) → IfSome o (IsDrawnFor pair) → low ≤ place_of pair → pair.0 < pair.1 → pair.1 < n →
    AreRising n (place_of pair + 1) (map pair_of es) → AreRising n low (map pair_of (cons_option o es))
rising_option n low pair None es h above lower within rest = rising_above n low (place_of pair + 1) (map pair_of es) (omega arith) rest
rising_option n low pair (Some e) es h above lower within rest =
    subst (λ (p : ℕ × ℕ). AreRising n low (p ∷ map pair_of es)) (sym h.same) (above, lower, within, rest)

pub drawn_rise : (n low x : ℕ) (ps : List (ℕ × ℕ)) → AreRising n low ps → AreRising n low (map pair_of (drawn_conflicts x ps))
drawn_rise n low x [] h = tt
drawn_rise n low x (p ∷ ps) h =
    rising_option n low p (conflict_of x p) _ (conflict_is x p) h.0 h.1 h.2 (drawn_rise n (place_of p + 1) (state_after x (draws_of x p)) ps h.3)

length_option : (o : Option Entry) (es : List Entry) → length (cons_option o es) ≤ length es + 1
length_option None es = omega arith
length_option (Some e) es = omega arith

pub drawn_few : (x : ℕ) (ps : List (ℕ × ℕ)) → length (drawn_conflicts x ps) ≤ length ps
drawn_few x [] = omega arith
drawn_few x (p ∷ ps) =
    let y = state_after x (draws_of x p) in
    omega (arith, length_option (conflict_of x p) (drawn_conflicts y ps), drawn_few y ps)

any_option : (P : Entry → Type 0) (o : Option Entry) (es : List Entry) → Any P es → Any P (cons_option o es)
any_option P None es any = any
any_option P (Some e) es (k, f, inside, at, holds) = (suc k, f, omega arith, at, holds)

abbrev pub IsOfNext : ℕ → Entry → Type 0
IsOfNext i e = (e.a ≡ i) × (e.b ≡ i + 1)

next_first : (x i : ℕ) (es : List Entry) → Any (IsOfNext i) (cons_option (conflict_of x (i, i + 1)) es)
next_first x i es =
    let neighbours : (i + 1 == i + 1) ≡ true = eq-eqb (i + 1) (i + 1) refl in
    rw neighbours (0, drawn_entry x (i, i + 1), omega arith, refl, (refl, refl))

pub drawn_next : (x i : ℕ) (ps : List (ℕ × ℕ)) → Contains {X = ℕ × ℕ} ps (i, i + 1) → Any (IsOfNext i) (drawn_conflicts x ps)
drawn_next x i [] (k, inside, at) = absurd (omega arith)
drawn_next x i (p ∷ ps) (zero, inside, at) =
    let rest = drawn_conflicts (state_after x (draws_of x p)) ps in
    subst (λ (q : ℕ × ℕ). Any (IsOfNext i) (cons_option (conflict_of x q) rest)) (sym at) (next_first x i rest)
drawn_next x i (p ∷ ps) (suc k, inside, at) =
    any_option (IsOfNext i) (conflict_of x p) _ (drawn_next (state_after x (draws_of x p)) i ps (k, omega arith, at))

-- one more pair has been drawn
option_behind : (o : Option Entry) (es rest : List Entry) → (es ++ cons_option o []) ++ rest ≡ es ++ cons_option o rest
option_behind None es rest = append_assoc es [] rest
option_behind (Some e) es rest = append_assoc es (e ∷ []) rest

pub drawn_more : (x : ℕ) (ps : List (ℕ × ℕ)) (k : ℕ) (p : ℕ × ℕ) (es all : List Entry) → k < length ps → p ≡ get_or ps k (0, 0) →
    es ++ drawn_conflicts x (drop k ps) ≡ all →
    (es ++ cons_option (conflict_of x p) []) ++ drawn_conflicts (state_after x (draws_of x p)) (drop (k + 1) ps) ≡ all
drawn_more x ps k p es all inside at h =
    option_behind (conflict_of x p) es _ ∙ rw (at, ← h, drop_more ps k (0, 0) inside) refl
