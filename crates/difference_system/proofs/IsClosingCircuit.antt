-- A walk has the same sum from each of its groups on; the end of a trail as a walk.
use Rattle.std.proofs.Common.{ℕ, List, [], ◌∷◌, ◌++◌, ◌≡◌, ℤ, Option, Some, None, refl, sym, ap, ◌∙◌, take, drop, arith, length, ◌≤◌, ◌<◌, ◌-◌, ◌+◌, ◌==◌, Bool, false, All, reverse, nat_lt, slice_index, slice_index_or}
use Rattle.std.proofs.lemmas.Int.{ints}
use Rattle.std.proofs.Math.Seq.{take-append_seam}
use Rattle.std.proofs.lemmas.List.{append-nil, append_assoc, length-append, take-append-drop, reverse-reverse, take_rest, length-drop, get_or-drop, get_or_append_left}
use Rattle.std.proofs.lemmas.Grind.{get_or_default_zero}
use Rattle.std.specs.List.{IsDistinct, IsFirstBest}
use Rattle.std.specs.List.Sorted.{IsPermutation}
use Rattle.std.proofs.lemmas.List.Elements.{All-drop}
use Rattle.std.proofs.lemmas.List.Sorted.{All-permutation, IsPermutation-append_comm, IsPermutation-reverse, length_permutation}
use Rattle.std.proofs.lemmas.Bool.Decides.{nat_tests}
use Rattle.std.proofs.lemmas.Map.Keys.{IsDistinct-IsPermutation, IsDistinct-from_apart, apart_from_distinct}
use Rattle.constraint_cycles.specs.Edge.{Edges}
use Rattle.constraint_cycles.specs.Walk.{add_weights, sum_back, sum_of, IsWalk}
use Rattle.difference_system.specs.Trail.{cut}

add_weights-assoc : (a b c : Option ℤ) → add_weights (add_weights a b) c ≡ add_weights a (add_weights b c)
add_weights-assoc None b c = refl
add_weights-assoc (Some a) None c = refl
add_weights-assoc (Some a) (Some b) None = refl
add_weights-assoc (Some a) (Some b) (Some c) = ap Some (omega (arith, ints))

add_weights-comm : (a b : Option ℤ) → add_weights a b ≡ add_weights b a
add_weights-comm None None = refl
add_weights-comm None (Some b) = refl
add_weights-comm (Some a) None = refl
add_weights-comm (Some a) (Some b) = ap Some (omega (arith, ints))

sum_back-append : (edge : Edges) (first u : ℕ) (xs : List ℕ) (y : ℕ) (ys : List ℕ) →
    sum_back edge first u (xs ++ y ∷ ys) ≡ add_weights (sum_back edge y u xs) (sum_back edge first y ys)
sum_back-append edge first u [] y ys = refl
sum_back-append edge first u (x ∷ xs) y ys =
    ap (add_weights (edge u x)) (sum_back-append edge first x xs y ys) ∙ sym (add_weights-assoc (edge u x) (sum_back edge y x xs) (sum_back edge first y ys))

sum_of-append_comm : (edge : Edges) (xs ys : List ℕ) → sum_of edge (xs ++ ys) ≡ sum_of edge (ys ++ xs)
sum_of-append_comm edge [] ys = ap (sum_of edge) (sym (append-nil ys))
sum_of-append_comm edge (x ∷ xs) [] = ap (sum_of edge) (append-nil (x ∷ xs))
sum_of-append_comm edge (x ∷ xs) (y ∷ ys) =
    sum_back-append edge x x xs y ys ∙ add_weights-comm (sum_back edge y x xs) (sum_back edge x y ys) ∙ sym (sum_back-append edge y y ys x xs)

pub sum_of-from_place : (edge : Edges) (place : ℕ) (walk later : List ℕ) → later ≡ drop place walk ++ take place walk → sum_of edge later ≡ sum_of edge walk
sum_of-from_place edge place walk later is =
    ap (sum_of edge) is ∙ sum_of-append_comm edge (drop place walk) (take place walk) ∙ ap (sum_of edge) (take-append-drop place walk)

-- the beginning that is as long as two lists together
pub take-two : (n : ℕ) (xs ys rest : List ℕ) → n ≡ length xs + length ys → take n (xs ++ (ys ++ rest)) ≡ xs ++ ys
take-two n xs ys rest long =
    ap (λ m. take m (xs ++ (ys ++ rest))) (long ∙ sym (length-append xs ys)) ∙ ap (take (length (xs ++ ys))) (sym (append_assoc xs ys rest)) ∙ take-append_seam (xs ++ ys) rest

-- the groups from a place on, and then those before it, are the same groups
pub turned-moved : (place : ℕ) (walk later : List ℕ) → later ≡ drop place walk ++ take place walk → IsPermutation walk later
turned-moved place walk later is =
    let moved = IsPermutation-append_comm (take place walk) (drop place walk) in
    rw is (rw (take-append-drop place walk) at moved)

-- and where they begin with the lowest one, none is lower than the first
pub turned-lowest : (place : ℕ) (walk later : List ℕ) → later ≡ drop place walk ++ take place walk → IsFirstBest nat_lt walk (length walk) place →
    All (λ g. slice_index later 0 ≤ g) later
turned-lowest place walk later is best =
    let short = length-drop place walk in
    let within = best.0 in
    let same : place + 0 ≡ place = omega arith in
    let first : slice_index later 0 ≡ slice_index walk place =
    ap (λ l. slice_index l 0) is ∙ get_or_append_left (drop place walk) (take place walk) 0 0 (omega (arith, short, within)) ∙ get_or-drop place walk 0 0 ∙ ap (λ i. slice_index walk i) same in
    let lowest_at : (k d : ℕ) → k < length walk → nat_lt (slice_index_or walk k d) (slice_index_or walk place d) ≡ false → slice_index walk place ≤ slice_index_or walk k d =
    λ k d below other. let same = get_or_default_zero walk place d within in grind (arith, nat_tests, other, same) in
    let lowest : All (λ g. slice_index walk place ≤ g) walk = λ k d below. lowest_at k d below (best.1 k d below) in
    rw first (All-permutation (λ g. slice_index walk place ≤ g) walk later (turned-moved place walk later is) lowest)

pub IsWalk-permutation : (xs ys : List ℕ) → IsPermutation xs ys → IsWalk xs → IsWalk ys
IsWalk-permutation xs ys moved walk =
    let same = length_permutation xs ys moved in
    record {
      some = let h = walk.some in omega arith;
      few = let h = walk.few in omega arith;
      within = All-permutation (λ g. g < 16) xs ys moved walk.within;
    }

abbrev same_group : ℕ → ℕ → Bool
same_group g h = g == h

IsDistinct-drop : (k : ℕ) (xs : List ℕ) → IsDistinct same_group xs → IsDistinct same_group (drop k xs)
IsDistinct-drop k xs once = IsDistinct-from_apart same_group (drop k xs) (λ i j d before within.
    let size = length-drop k xs in
    rw (get_or-drop k xs i d, get_or-drop k xs j d) (apart_from_distinct same_group xs (k + i) (k + j) d once (omega arith) (omega arith)))

pub IsDistinct-moved : (xs ys : List ℕ) → IsPermutation xs ys → IsDistinct same_group xs → IsDistinct same_group ys
IsDistinct-moved xs ys moved once = IsDistinct-IsPermutation same_group (λ g h. grind (arith, nat_tests)) xs ys moved once

module _ (trail groups : List ℕ) (first place : ℕ) (same : groups ≡ reverse trail) (rest : drop place groups ≡ cut first (reverse groups) []) where
  pub rest-is_cut : take (length groups - place) (drop place groups) ≡ cut first trail []
  rest-is_cut = take_rest groups place ∙ rest ∙ ap (λ t. cut first t []) (ap reverse same ∙ reverse-reverse trail)

  pub cut-distinct : IsDistinct same_group trail → IsDistinct same_group (cut first trail [])
  cut-distinct once = rw (← rest-is_cut, take_rest groups place, same) (IsDistinct-drop place (reverse trail) (IsDistinct-moved trail (reverse trail) (IsPermutation-reverse trail) once))

  pub cut-walk : length groups ≤ 16 → All (λ g. g < 16) trail → 2 ≤ length (cut first trail []) → IsWalk (cut first trail [])
  cut-walk few within several = record {
    some = omega arith;
    few = let size = length-drop place groups in let at = ap length (sym (take_rest groups place) ∙ rest-is_cut) in omega arith;
    within = rw (← rest-is_cut, take_rest groups place, same) (All-drop (λ g. g < 16) place (reverse trail) (All-permutation (λ g. g < 16) trail (reverse trail) (IsPermutation-reverse trail) within));
  }
