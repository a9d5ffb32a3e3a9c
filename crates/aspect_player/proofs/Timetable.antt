-- Rows: how many there are, and what each shows of a group.
use Rattle.std.proofs.Common.{ℕ, zero, suc, List, [], ◌∷◌, ◌++◌, Some, ◌≡◌, ◌≤◌, ◌<◌, ◌+◌, length, slice_get, take, refl, sym, ap, ◌∙◌, subst, arith}
use Rattle.std.proofs.lemmas.Option.{slice_get_within, get_or_from_slice_get}
use Rattle.std.specs.Option.{option_map}
use Rattle.std.proofs.lemmas.List.{take_more, take_all}
use Rattle.junction_model.specs.declared.group.Group.{Group}
use Rattle.junction_model.specs.Junction.{JunctionView}
use Rattle.plan_model.specs.Fits.{group_count}
use Rattle.plan_model.proofs.IsShown.{group_there}
use Rattle.aspect_player.specs.declared.aspect.Aspect.{Aspect}
use Rattle.aspect_player.specs.Timetable.{Display, aspects_from, row_by, rows_from, rows_by}
use Rattle.aspect_player.specs.Safe.{Shows}

pub group_aspect : (display : Display) (n i t : ℕ) (groups : List Group) (group : Group) → slice_get groups i ≡ Some group →
    slice_get (aspects_from display n groups t) i ≡ Some (display (n + i) group.times t)
unfolding aspects_from
group_aspect display n i t [] group e = cc
group_aspect display n zero t (own ∷ groups) group e =
    let same : own ≡ group = cc in let plain : n ≡ n + 0 = omega arith in
    ap (λ x. Some (display n x.times t)) same ∙ ap (λ m. Some (display m group.times t)) plain
group_aspect display n (suc i) t (own ∷ groups) group e =
    let later : n + 1 + i ≡ n + suc i = omega arith in
    group_aspect display (n + 1) i t groups group e ∙ ap (λ m. Some (display m group.times t)) later

pub second_row : (junction : JunctionView) (display : Display) (t n k : ℕ) → k < n → slice_get (rows_from junction display t n) k ≡ Some (row_by junction display (t + k))
unfolding rows_from
second_row junction display t zero k h = absurd (omega arith)
second_row junction display t (suc n) zero h = let plain : t ≡ t + 0 = omega arith in ap (λ m. Some (row_by junction display m)) plain
second_row junction display t (suc n) (suc k) h =
    let later : t + 1 + k ≡ t + suc k = omega arith in
    second_row junction display (t + 1) n k (omega arith) ∙ ap (λ m. Some (row_by junction display m)) later

pub row_count : (junction : JunctionView) (display : Display) (t n : ℕ) → length (rows_from junction display t n) ≡ n
unfolding rows_from
row_count junction display t zero = refl
row_count junction display t (suc n) = omega (arith, row_count junction display (t + 1) n)

-- the aspect of a group in its row
pub shows_own : (junction : JunctionView) (display : Display) (n t i : ℕ) (group : Group) → slice_get junction.groups i ≡ Some group → t < n →
    Shows (rows_by junction display n) t i (display i group.times t)
shows_own junction display n t i group there h =
    let row = second_row junction display 0 n t h in
    let own = group_aspect display 0 i (0 + t) junction.groups group there in
    let plain : 0 + t ≡ t = omega arith in
    let plain_i : 0 + i ≡ i = omega arith in
    rw row (own ∙ ap (λ m. Some (display m group.times (0 + t))) plain_i ∙ ap (λ m. Some (display i group.times m)) plain)

pub in_rows : (rows : List (List Aspect)) (t i : ℕ) (aspect : Aspect) → Shows rows t i aspect → t < length rows
in_rows [] t i aspect e = cc
in_rows (row ∷ rows) zero i aspect e = omega arith
in_rows (row ∷ rows) (suc t) i aspect e = omega (arith, in_rows rows t i aspect e)

-- and no other
pub shows_same : (junction : JunctionView) (display : Display) (n t i : ℕ) (group : Group) (aspect : Aspect) → slice_get junction.groups i ≡ Some group →
    Shows (rows_by junction display n) t i aspect → display i group.times t ≡ aspect
shows_same junction display n t i group aspect there e =
    let h : t < n = omega (arith, in_rows (rows_by junction display n) t i aspect e, row_count junction display 0 n) in
    let own = shows_own junction display n t i group there h in cc

pub aspect_count : (display : Display) (n t : ℕ) (groups : List Group) → length (aspects_from display n groups t) ≡ length groups
unfolding aspects_from
aspect_count display n t [] = refl
aspect_count display n t (group ∷ groups) = omega (arith, aspect_count display (n + 1) t groups)

pub shows_in : (junction : JunctionView) (display : Display) (n t i : ℕ) (aspect : Aspect) → Shows (rows_by junction display n) t i aspect → i < group_count junction
shows_in junction display n t i aspect e =
    let h : t < n = omega (arith, in_rows (rows_by junction display n) t i aspect e, row_count junction display 0 n) in
    let own = rw (second_row junction display 0 n t h) at e in
    omega (arith, slice_get_within (row_by junction display (0 + t)) i aspect own, aspect_count display 0 (0 + t) junction.groups)

-- the aspects of the first groups, and of one more
pub aspects_more : (junction : JunctionView) (display : Display) (i t : ℕ) (shown : Aspect) → i < group_count junction →
    Some shown ≡ option_map (λ (found : Group). display i found.times t) (slice_get junction.groups i) →
    take (i + 1) (row_by junction display t) ≡ take i (row_by junction display t) ++ shown ∷ []
aspects_more junction display i t shown h is =
    let there = group_there junction i h in
    let row = row_by junction display t in
    let found = rw there.1 at is in
    let plain : 0 + i ≡ i = omega arith in
    let own : slice_get row i ≡ Some shown = group_aspect display 0 i t junction.groups there.0 there.1 ∙ ap (λ m. Some (display m there.0.times t)) plain ∙ sym found in
    take_more row i shown (slice_get_within row i shown own) ∙ ap (λ o. take i row ++ o ∷ []) (get_or_from_slice_get row i shown shown own)

pub all_aspects : (junction : JunctionView) (display : Display) (i t : ℕ) → group_count junction ≤ i → take i (row_by junction display t) ≡ row_by junction display t
all_aspects junction display i t h = take_all i (row_by junction display t) (omega (arith, aspect_count display 0 t junction.groups))

pub rows_split : (junction : JunctionView) (display : Display) (t k m : ℕ) → rows_from junction display t (k + m) ≡ rows_from junction display t k ++ rows_from junction display (t + k) m
unfolding rows_from
rows_split junction display t zero m =
    let plain : 0 + m ≡ m = omega arith in let same : t + 0 ≡ t = omega arith in
    ap (λ n. rows_from junction display t n) plain ∙ ap (λ n. rows_from junction display n m) (sym same)
rows_split junction display t (suc k) m =
    let more : suc k + m ≡ suc (k + m) = omega arith in let later : t + 1 + k ≡ t + suc k = omega arith in
    ap (λ n. rows_from junction display t n) more ∙ ap (λ rows. row_by junction display t ∷ rows) (rows_split junction display (t + 1) k m)
    ∙ ap (λ n. row_by junction display t ∷ (rows_from junction display (t + 1) k ++ rows_from junction display n m)) later

aspects_same : (d e : Display) (n t : ℕ) (groups : List Group) →
    ((i : ℕ) (group : Group) → slice_get groups i ≡ Some group → d (n + i) group.times t ≡ e (n + i) group.times t) →
    aspects_from d n groups t ≡ aspects_from e n groups t
unfolding aspects_from
aspects_same d e n t [] h = refl
aspects_same d e n t (group ∷ groups) h =
    let plain : n + 0 ≡ n = omega arith in
    let own : d n group.times t ≡ e n group.times t = subst (λ m. d m group.times t ≡ e m group.times t) plain (h 0 group refl) in
    let rest : aspects_from d (n + 1) groups t ≡ aspects_from e (n + 1) groups t = aspects_same d e (n + 1) t groups (λ i x is.
    let next : n + suc i ≡ n + 1 + i = omega arith in
    subst (λ m. d m x.times t ≡ e m x.times t) next (h (suc i) x is)) in
    ap (λ a. a ∷ aspects_from d (n + 1) groups t) own ∙ ap (λ l. e n group.times t ∷ l) rest

-- displays that agree at a second have the same row
pub row_same : (junction : JunctionView) (d e : Display) (t : ℕ) →
    ((i : ℕ) (group : Group) → slice_get junction.groups i ≡ Some group → d i group.times t ≡ e i group.times t) →
    row_by junction d t ≡ row_by junction e t
row_same junction d e t agree = aspects_same d e 0 t junction.groups (λ i group is.
    let plain : i ≡ 0 + i = omega arith in
    subst (λ m. d m group.times t ≡ e m group.times t) plain (agree i group is))

-- and the same rows where they do so at each second
pub rows_same : (junction : JunctionView) (d e : Display) (t n : ℕ) →
    ((i u : ℕ) (group : Group) → slice_get junction.groups i ≡ Some group → t ≤ u → u < t + n → d i group.times u ≡ e i group.times u) →
    rows_from junction d t n ≡ rows_from junction e t n
unfolding rows_from
rows_same junction d e t zero agree = refl
rows_same junction d e t (suc n) agree =
    ap (λ row. row ∷ rows_from junction d (t + 1) n) (row_same junction d e t (λ i group is. agree i t group is (omega arith) (omega arith)))
    ∙ ap (λ rows. row_by junction e t ∷ rows)
    (rows_same junction d e (t + 1) n (λ i u group is from below. agree i u group is (omega arith) (omega arith)))
