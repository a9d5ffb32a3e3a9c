-- The least room with one group more.
use Rattle.std.proofs.Common.{ℕ, ◌≡◌, ◌+◌, ◌<◌, ◌≤◌, min, inl, inr, subst, arith, below_more}
use Rattle.std.specs.Prelude.{Option, None, Some}
use Rattle.std.proofs.lemmas.Bool.{cases_lt}
use Rattle.conflict_matrix.specs.Matrix.{intergreen_of}
use Rattle.junction_model.specs.Junction.{JunctionView}
use Rattle.junction_model.specs.Rules.{IsJunction}
use Rattle.plan_model.specs.SignalPlan.{PlanView}
use Rattle.plan_model.specs.Fits.{group_count}
use Rattle.plan_stretch.specs.Stretch.{IsRoom, IsLeastRoom}
use Rattle.plan_stretch.specs.RoomBelow.{IsApart, IsLeastBelow, FoundBelow}

module _ (junction : JunctionView) (p : PlanView) (i j : ℕ) where
  abbrev IsAtMostEach : ℕ → ℕ → Type 0
  IsAtMostEach room k = (other : ℕ) → IsRoom junction p i k other → room ≤ other

  -- a group leaves one room
  at_most_own : (room : ℕ) → IsRoom junction p i j room → IsAtMostEach room j
  at_most_own room (w, is, left) other (v, also, leaves) =
      let one : intergreen_of junction.conflicts i j ≡ Some w = is in
      let two : intergreen_of junction.conflicts i j ≡ Some v = also in
      let same : w ≡ v = cc in
      omega (arith, left, leaves)

  no_room : (room : ℕ) → IsApart junction i j → IsAtMostEach room j
  no_room room apart other (w, is, left) =
      let one : intergreen_of junction.conflicts i j ≡ None = apart in
      let two : intergreen_of junction.conflicts i j ≡ Some w = is in
      absurd (cc)

  pub found_none : (found : Option ℕ) → FoundBelow junction p i j found → IsApart junction i j → FoundBelow junction p i (j + 1) found
  found_none None below apart = below_more (IsApart junction i) j below apart
  found_none (Some room) below apart = record {
    left = below.left;
    least = λ k other h. below_more (IsAtMostEach room) j (λ k h other. below.least k other h) (no_room room apart) k h other;
  }

  pub found_first : (room : ℕ) → ((k : ℕ) → k < j → IsApart junction i k) → j < group_count junction → IsRoom junction p i j room →
      IsLeastBelow junction p i (j + 1) room
  found_first room none h own = record {
    left = (j, h, own);
    least = λ k other h. below_more (IsAtMostEach room) j
        (λ k h other (w, is, left). let apart = none k h in absurd (cc)) (at_most_own room own) k h other;
  }

  pub found_lesser : (found own : ℕ) → IsLeastBelow junction p i j found → j < group_count junction → IsRoom junction p i j own →
      IsLeastBelow junction p i (j + 1) (min found own)
  found_lesser found own below h room = record {
    left = elim (cases_lt found own) [
      | inl less ↦ (below.left.0, below.left.1, subst (λ n. IsRoom junction p i below.left.0 n) (omega arith) below.left.2)
      | inr not ↦ (j, h, subst (λ n. IsRoom junction p i j n) (omega arith) room)
    ];
    least = λ k other h. below_more (IsAtMostEach (min found own)) j
        (λ k h other left. omega (arith, below.least k other h left))
        (λ other left. omega (arith, at_most_own own room other left)) k h other;
  }

-- each group conflicts with another, so some room is found
pub found_all : (junction : JunctionView) (p : PlanView) (i room n : ℕ) → n ≡ group_count junction → IsLeastBelow junction p i n room → IsLeastRoom junction p i room
found_all junction p i room n all below = record { left = below.left; least = λ j other h. below.least j other (omega arith) }

pub some_found : (junction : JunctionView) (i n : ℕ) → IsJunction junction → i < group_count junction → n ≡ group_count junction →
    ((j : ℕ) → j < n → IsApart junction i j) → ⊥
some_found junction i n rules hi all none =
    let same = rules.conflicts.same_groups in
    let (j, h, some) = rules.conflicts.partnered i (omega arith) in
    let apart : intergreen_of junction.conflicts i j ≡ None = none j (omega arith) in
    absurd (cc)
