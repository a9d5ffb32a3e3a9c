-- A row is remembered group by group.
use Rattle.std.proofs.Common.{ℕ, zero, suc, List, [], ◌∷◌, length, take, set, Some, ◌≡◌, ◌≢◌, ◌≤◌, ◌<◌, ◌+◌, slice_get, inl, inr, refl, sym, ap, ◌∙◌, subst, arith}
use Rattle.std.proofs.lemmas.Bool.{cases_lt}
use Rattle.std.proofs.lemmas.Option.{same_Some, slice_get_within}
use Rattle.aspect_player.specs.declared.aspect.Aspect.{Aspect}
use Rattle.log_monitor.specs.declared.memory.GroupMemory.{GroupMemory}
use Rattle.log_monitor.specs.Memory.{group_after, groups_after, with_row}

pub set_here : {X : Type 0} (xs : List X) (i : ℕ) (x : X) → i < length xs → slice_get (set xs i x) i ≡ Some x
set_here [] i x h = absurd (omega arith)
set_here (y ∷ ys) zero x h = refl
set_here (y ∷ ys) (suc i) x h = set_here ys i x (omega arith)

pub set_other : {X : Type 0} (xs : List X) (i k : ℕ) (x : X) → k ≢ i → slice_get (set xs i x) k ≡ slice_get xs k
set_other [] i k x h = refl
set_other (y ∷ ys) zero zero x h = absurd (h refl)
set_other (y ∷ ys) zero (suc k) x h = refl
set_other (y ∷ ys) (suc i) zero x h = refl
set_other (y ∷ ys) (suc i) (suc k) x h = set_other ys i k x (λ e. h (ap suc e))

pub set_count : {X : Type 0} (xs : List X) (i : ℕ) (x : X) → length (set xs i x) ≡ length xs
set_count [] i x = refl
set_count (y ∷ ys) zero x = refl
set_count (y ∷ ys) (suc i) x = omega (arith, set_count ys i x)

-- the groups below i are remembered
pub record IsRemembering (v : ℕ) (row : List Aspect) (old : List GroupMemory) (i : ℕ) (groups : List GroupMemory) : Type 0 where
  pub size : length groups ≡ length old
  pub done : (k : ℕ) (aspect : Aspect) (own : GroupMemory) → k < i → slice_get row k ≡ Some aspect → slice_get old k ≡ Some own →
      slice_get groups k ≡ Some (group_after v aspect own)
  pub left : (k : ℕ) → i ≤ k → slice_get groups k ≡ slice_get old k

pub remembering_none : (v : ℕ) (row : List Aspect) (old : List GroupMemory) → IsRemembering v row old 0 old
remembering_none v row old = record { size = refl; done = λ k aspect own h _ _. absurd (omega (arith, h)); left = λ k h. refl }

pub remembering_more : (v : ℕ) (row : List Aspect) (old groups : List GroupMemory) (i : ℕ) (aspect : Aspect) (own new : GroupMemory) →
    IsRemembering v row old i groups →
    i < length old → slice_get row i ≡ Some aspect → slice_get groups i ≡ Some own → new ≡ group_after v aspect own → IsRemembering v row old (i + 1) (set groups i new)
remembering_more v row old groups i aspect own new is h shown at new_is = record {
  size = set_count groups i new ∙ is.size;
  done = λ k other mine below row_is old_is. elim (cases_lt k i) [
    | inl before ↦ set_other groups i k new (λ e. absurd (omega (arith, before, e))) ∙ is.done k other mine before row_is old_is
    | inr rest ↦
        let same : k ≡ i = omega (arith, below, rest) in
        let same_aspect : aspect ≡ other = same_Some aspect other (sym shown ∙ ap (slice_get row) (sym same) ∙ row_is) in
        let same_own : own ≡ mine = same_Some own mine (sym at ∙ is.left i (omega arith) ∙ ap (slice_get old) (sym same) ∙ old_is) in
        ap (slice_get (set groups i new)) same ∙ set_here groups i new (omega (arith, h, is.size))
        ∙ ap Some (new_is ∙ ap (λ a. group_after v a own) same_aspect ∙ ap (group_after v other) same_own)
  ];
  left = λ k after. set_other groups i k new (λ e. absurd (omega (arith, after, e))) ∙ is.left k (omega (arith, after));
}

all_groups : (v : ℕ) (row : List Aspect) (old groups : List GroupMemory) → length row ≤ length old → length groups ≡ length old →
    ((k : ℕ) (aspect : Aspect) (own : GroupMemory) → slice_get row k ≡ Some aspect → slice_get old k ≡ Some own → slice_get groups k ≡ Some (group_after v aspect own)) →
    take (length row) groups ≡ groups_after v row (take (length row) old)
unfolding groups_after
all_groups v [] old groups h size done = refl
all_groups v (aspect ∷ row) [] groups h size done = absurd (omega arith)
all_groups v (aspect ∷ row) (own ∷ old) [] h size done = absurd (omega arith)
all_groups v (aspect ∷ row) (own ∷ old) (new ∷ groups) h size done =
    let first : new ≡ group_after v aspect own = same_Some _ _ (done 0 aspect own refl refl) in
    let rest = all_groups v row old groups (omega arith) (omega arith) (λ k a o row_is old_is. done (suc k) a o row_is old_is) in
    ap (λ g. g ∷ take (length row) groups) first ∙ ap (λ gs. group_after v aspect own ∷ gs) rest

pub remembered_all : (v rows n : ℕ) (row : List Aspect) (old groups : List GroupMemory) (i : ℕ) → IsRemembering v row old i groups →
    length row ≤ i → length row ≡ n → n ≤ length old → v ≡ rows →
    record { rows = rows + 1; groups = take n groups } ≡ with_row (record { rows = rows; groups = take n old }) row
remembered_all v rows n row old groups i is over full few now =
    let all = all_groups v row old groups (omega (arith, full, few)) is.size (λ k aspect own row_is old_is. is.done k aspect own (omega (arith, over, within k aspect row_is)) row_is old_is) in
    let at : take n groups ≡ groups_after rows row (take n old) =
    subst (λ m. take m groups ≡ groups_after rows row (take m old)) full
    (subst (λ t. take (length row) groups ≡ groups_after t row (take (length row) old)) now all) in
    ap (λ gs. record { rows = rows + 1; groups = gs }) at
  where
    within : (k : ℕ) (aspect : Aspect) → slice_get row k ≡ Some aspect → k < length row
    within k aspect e = slice_get_within row k aspect e
