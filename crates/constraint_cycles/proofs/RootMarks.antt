-- The root order's marks, as they are written pair after pair.
use Rattle.std.proofs.Common.{ℕ, suc, List, ◌∷◌, ◌++◌, ◌≡◌, ◌≢◌, ◌<◌, ◌≤◌, ◌+◌, ◌-◌, refl, sym, ap, ◌∙◌, Some, length, map, replicate, take, drop, slice_get, get_or, set, count_by, arith, append_assoc, length-take}
use Rattle.std.proofs.lemmas.List.{map_more, length-map, length-append, length-replicate, replicate-append-replicate, take-replicate, drop-replicate, take_all}
use Rattle.std.proofs.lemmas.List.Sums.{count_by_more_yes, count_by_more_no}
use Rattle.std.proofs.lemmas.Option.{slice_get_within, get_or_from_slice_get}
use Rattle.std.proofs.Math.Seq.{set-append_seam, take-append_seam, take-append-add, drop-append-add}
use Rattle.conflict_matrix.specs.Matrix.{Matrix}
use Rattle.conflict_matrix.specs.Pairs.{pairs_of, has_group_0, fixed_pairs}
use Rattle.conflict_matrix.proofs.FreePairs.{first_test, other_test}
use Rattle.constraint_cycles.specs.Marks.{KeepsFixed, item_count, root_mark, root_marks}
use Rattle.constraint_cycles.specs.declared.mark.Mark.{Mark}
use Rattle.constraint_cycles.specs.declared.mark.Mark.TheVariants.{Open, First}
use Rattle.constraint_cycles.proofs.FirstPairs.{AreRising, IsRoot, rooted}

-- the marks of the pairs before this one are written, and all others are open
pub record IsBegun (pairs : List (ℕ × ℕ)) (marks : List Mark) (fixed pair : ℕ) : Type 0 where
  pub few : length pairs ≤ 120
  pub reached : pair ≤ length pairs
  pub within : fixed ≤ pair
  pub counted : fixed ≡ count_by has_group_0 (take pair pairs)
  pub written : marks ≡ map root_mark (take pair pairs) ++ replicate (132 - pair) Open

open_next : (pair : ℕ) → pair < 132 → replicate (132 - pair) Open ≡ Open ∷ replicate (132 - (pair + 1)) Open
open_next pair below = let one_more : 132 - pair ≡ suc (132 - (pair + 1)) = omega arith in rw one_more refl

set_next : (before : List Mark) (k : ℕ) (after : List Mark) → length before ≡ k → set (before ++ Open ∷ after) k First ≡ before ++ First ∷ after
set_next before k after long = rw (← long) (set-append_seam before Open after First)

pub begun_first : (pairs : List (ℕ × ℕ)) (marks : List Mark) (fixed k : ℕ) (pair : ℕ × ℕ) → slice_get pairs k ≡ Some pair → pair.0 ≡ 0 →
    IsBegun pairs marks fixed k → IsBegun pairs (set marks k First) (fixed + 1) (k + 1)
begun_first pairs marks fixed k pair at first h =
    let below : k < length pairs = slice_get_within pairs k pair at in
    let here : get_or pairs k pair ≡ pair = get_or_from_slice_get pairs k pair pair at in
    let test = first_test pair first in
    let long : length (map root_mark (take k pairs)) ≡ k = simp (length-map, length-take) (omega arith) in
    record {
      few = h.few;
      reached = omega arith;
      within = omega (arith, h.within);
      counted = rw h.counted (sym (count_by_more_yes has_group_0 pairs k pair below (rw here test)));
      written = rw h.written (
          rw (open_next k (omega (arith, h.few)), map_more root_mark pairs k pair below, here, test, append_assoc)
          (set_next (map root_mark (take k pairs)) k (replicate (132 - (k + 1)) Open) long));
    }

pub begun_other : (pairs : List (ℕ × ℕ)) (marks : List Mark) (fixed k : ℕ) (pair : ℕ × ℕ) → slice_get pairs k ≡ Some pair → pair.0 ≢ 0 →
    IsBegun pairs marks fixed k → IsBegun pairs marks fixed (k + 1)
begun_other pairs marks fixed k pair at other h =
    let below : k < length pairs = slice_get_within pairs k pair at in
    let here : get_or pairs k pair ≡ pair = get_or_from_slice_get pairs k pair pair at in
    let test = other_test pair other in
    record {
      few = h.few;
      reached = omega arith;
      within = omega (arith, h.within);
      counted = rw h.counted (sym (count_by_more_no has_group_0 pairs k pair below (rw here test)));
      written = h.written ∙ rw (open_next k (omega (arith, h.few)), map_more root_mark pairs k pair below, here, test, append_assoc) refl;
    }

take_front : (front after : List Mark) (n : ℕ) → length front ≡ n → take n (front ++ after) ≡ front
take_front front after n long = rw (← long) (take-append_seam front after)

take_items : (front : List Mark) (pairs links room : ℕ) → length front ≡ pairs → links ≤ room →
    take (pairs + links) (front ++ replicate room Open) ≡ front ++ replicate links Open
take_items front pairs links room long fits =
    rw (← long) (take-append-add front (replicate room Open) links ∙ ap (λ rest. front ++ rest) (take-replicate links room Open fits))

drop_items : (front : List Mark) (pairs links room : ℕ) → length front ≡ pairs → pairs + room ≡ 132 →
    drop (pairs + links) (front ++ replicate room Open) ≡ drop (pairs + links) (replicate 132 Open)
drop_items front pairs links room long whole =
    let left : room - links ≡ 132 - (pairs + links) = omega arith in
    rw (← long) (drop-append-add front (replicate room Open) links) ∙ drop-replicate links room Open
    ∙ ap (λ n. replicate n Open) left ∙ sym (drop-replicate (pairs + links) 132 Open)

-- all pairs are marked
record IsMarked (pairs : List (ℕ × ℕ)) (marks : List Mark) (fixed : ℕ) : Type 0 where
  few : length pairs ≤ 120
  written : marks ≡ map root_mark pairs ++ replicate (132 - length pairs) Open
  counted : fixed ≡ count_by has_group_0 pairs

marked : (pairs : List (ℕ × ℕ)) (marks : List Mark) (fixed k : ℕ) → length pairs ≤ k → IsBegun pairs marks fixed k → IsMarked pairs marks fixed
marked pairs marks fixed k all h =
    let whole = take_all k pairs all in
    let here : k ≡ length pairs = omega (arith, h.reached) in
    record {
      few = h.few;
      written = h.written ∙ rw (whole, here) refl;
      counted = rw whole at h.counted;
    }

marked_length : (pairs : List (ℕ × ℕ)) → length (map root_mark pairs) ≡ length pairs
marked_length pairs = simp length-map

pub root_taken : (pairs : List (ℕ × ℕ)) (marks : List Mark) (fixed links k : ℕ) → links ≤ 12 → length pairs ≤ k → IsBegun pairs marks fixed k →
    take (length pairs + links) marks ≡ map root_mark pairs ++ replicate links Open
root_taken pairs marks fixed links k few all h =
    let m = marked pairs marks fixed k all h in
    ap (take (length pairs + links)) m.written ∙ take_items (map root_mark pairs) (length pairs) links (132 - length pairs) (marked_length pairs) (omega (arith, m.few))

pub root_unused : (pairs : List (ℕ × ℕ)) (marks : List Mark) (fixed links k : ℕ) → length pairs ≤ k → IsBegun pairs marks fixed k →
    drop (length pairs + links) marks ≡ drop (length pairs + links) (replicate 132 Open)
root_unused pairs marks fixed links k all h =
    let m = marked pairs marks fixed k all h in
    ap (drop (length pairs + links)) m.written ∙ drop_items (map root_mark pairs) (length pairs) links (132 - length pairs) (marked_length pairs) (omega (arith, m.few))

pub root_kept : (pairs : List (ℕ × ℕ)) (marks : List Mark) (fixed links k : ℕ) → AreRising pairs → links ≤ 12 → length pairs ≤ k → IsBegun pairs marks fixed k →
    KeepsFixed (record { marks = take (length pairs + links) marks; fixed = fixed })
root_kept pairs marks fixed links k first few all h =
    let root = rooted pairs first in
    let m = marked pairs marks fixed k all h in
    let n = count_by has_group_0 pairs in
    rw (root_taken pairs marks fixed links k few all h, m.counted) (record {
      within = let within = root.within in rw (length-append, length-map) (omega arith);
      first = rw (root.marks, append_assoc) (take_front (replicate n First) _ n (length-replicate n First));
    })

-- the open pairs and the links behind the fixed pairs
pub root_all : (m : Matrix) → IsRoot (pairs_of m) → root_marks m ≡ replicate (fixed_pairs m) First ++ replicate (item_count m - fixed_pairs m) Open
root_all m root =
    let n = fixed_pairs m in
    let p = length (pairs_of m) in
    let l = length m.links in
    let within = root.within in
    let left : (p - n) + l ≡ (p + l) - n = omega arith in
    rw (root.marks, append_assoc) (ap (λ rest. replicate n First ++ rest) (replicate-append-replicate (p - n) l Open ∙ ap (λ k. replicate k Open) left))
