-- The entries of a table leave no choice of its cells.
use Rattle.std.proofs.Common.{ℕ, List, Option, None, Some, ◌≡◌, ◌+◌, ◌*◌, ◌/◌, ◌%◌, ◌==◌, ◌<◌, if◌then◌else◌, refl, sym, ap, ◌∙◌, arith}
use Rattle.std.specs.Prelude.{is_some}
use Rattle.std.proofs.Math.Nat.{mod-lt}
use Rattle.std.proofs.lemmas.Bool.Decides.{nat_tests}
use Rattle.std.proofs.lemmas.List.{ext_get_or}
use Rattle.conflict_matrix.specs.Matrix.{Matrix, IsMatrix, cell_of, intergreen_of}
use Rattle.conflict_matrix.specs.declared.entry.Entry.{Entry}
use Rattle.conflict_matrix.specs.Entries.{IsTableOf}

same_values : (a b : Option ℕ) → ((w : ℕ) → a ≡ Some w → b ≡ Some w) → ((w : ℕ) → b ≡ Some w → a ≡ Some w) → a ≡ b
same_values None None there back = refl
same_values None (Some w) there back = back w refl
same_values (Some w) b there back = sym (there w refl)

same_cell : (c d : ℕ) → (if c == 255 then None else Some c) ≡ (if d == 255 then None else Some d) → c ≡ d
same_cell c d h = grind (arith, nat_tests)

-- what one table has, the other has too
same_intergreen : (groups : ℕ) (es : List Entry) (m n : Matrix) → IsTableOf groups es m → IsTableOf groups es n → IsMatrix m →
    (i j w : ℕ) → i < 16 → j < 16 → intergreen_of m i j ≡ Some w → intergreen_of n i j ≡ Some w
same_intergreen groups es m n t u matrix i j w hi hj found =
    let within = matrix.inside i j hi hj (ap is_some found) in
    let first : i < groups = omega (arith, within, t.same_groups) in
    let second : j < groups = omega (arith, within, t.same_groups) in
    (u.intergreens i j w first second).1 ((t.intergreens i j w first second).0 found)

same_cells : (groups : ℕ) (es : List Entry) (m n : Matrix) → IsTableOf groups es m → IsTableOf groups es n → IsMatrix m → IsMatrix n →
    (i j : ℕ) → i < 16 → j < 16 → cell_of m i j ≡ cell_of n i j
same_cells groups es m n t u first second i j hi hj = same_cell _ _ (same_values (intergreen_of m i j) (intergreen_of n i j)
    (λ w. same_intergreen groups es m n t u first i j w hi hj) (λ w. same_intergreen groups es n m u t second i j w hi hj))

pub same_table : (groups : ℕ) (es : List Entry) (m n : Matrix) → IsTableOf groups es m → IsTableOf groups es n → m.links ≡ n.links → IsMatrix m → IsMatrix n → m ≡ n
same_table groups es m n t u links_same first second =
    let groups_same : m.groups ≡ n.groups = t.same_groups ∙ sym u.same_groups in
    let cells_same : m.cells ≡ n.cells = ext_get_or 0 m.cells n.cells (first.full ∙ sym second.full) (λ k below.
    let column : k % 16 < 16 = mod-lt k (omega arith) in
    let row : k / 16 < 16 = omega (arith, first.full) in
    let place : 16 * (k / 16) + k % 16 ≡ k = omega arith in
    rw place at (same_cells groups es m n t u first second (k / 16) (k % 16) row column)) in
    λ i. record { groups = groups_same i; cells = cells_same i; links = links_same i }
