-- The groups and lanes of a sample keep the rules of a junction.
use Rattle.std.proofs.Common.{ℕ, List, [], ◌∷◌, ◌++◌, map, length, get_or, codes, decimal, All, AllPairs, Any, ◌≡◌, ◌≢◌, ◌≤◌, ◌<◌, ◌+◌, ◌*◌, ◌/◌, ◌%◌, ◌^◌, inl, inr, refl, ap, ◌∙◌, arith}
use Rattle.std.specs.List.{range_with_len}
use Rattle.std.proofs.lemmas.Fmt.{decimal_by_steps, length-decimal-le}
use Rattle.std.proofs.lemmas.List.FromFn.{length-map-range_with_len, length-range_with_len, get_or-range_with_len, get_or-map-range_with_len, map-range_with_len_more}
use Rattle.std.proofs.lemmas.List.Elements.{All-nil, All-cons, All-push, All-append, All-map}
use Rattle.sig_base.specs.Text.{IsBetween, IsLabelByte, IsLabel, IsTitle}
use Rattle.flow_model.specs.declared.lane.Lane.{Lane}
use Rattle.junction_model.specs.declared.group.Group.{Group}
use Rattle.junction_model.specs.Rules.{AreGroups, AreLanes, IsGroup, IsLane}
use Rattle.sample_junctions.specs.Draws.{state_after, draw}
use Rattle.sample_junctions.specs.Parts.{two_digits, sample_group, sample_lane, drawn_groups, drawn_lanes, AreGroupsOfSample}
use Rattle.sample_junctions.proofs.States.{state_more}

abbrev group_at : ℕ → ℕ → Group
group_at x i = sample_group i (5 + draw x i 4)

abbrev lane_at : ℕ → ℕ → Lane
lane_at x k = sample_lane k (20 + draw x (2 * k) 120) (1700 + draw x (2 * k + 1) 301)

-- one more group, drawn from the state behind those before it
pub groups_more : (x n : ℕ) → drawn_groups x (n + 1) ≡ drawn_groups x n ++ sample_group n (5 + draw (state_after x n) 0 4) ∷ []
groups_more x n = map-range_with_len_more (group_at x) 0 n n (omega arith) ∙ rw (state_more x n) refl

pub lanes_more : (x n : ℕ) → drawn_lanes x (n + 1) ≡ drawn_lanes x n
    ++ sample_lane n (20 + draw (state_after x (2 * n)) 0 120) (1700 + draw (state_after x (2 * n)) 1 301) ∷ []
lanes_more x n = map-range_with_len_more (lane_at x) 0 n n (omega arith) ∙ rw (state_more x (2 * n + 1), state_more x (2 * n)) refl

-- what holds at each number of a range holds of all that is made from it
all_made : {X : Type 0} (P : X → Type 0) (f : ℕ → X) (n : ℕ) → ((i : ℕ) → i < n → P (f i)) → All P (map f (range_with_len 0 n))
all_made P f n each = All-map P f (range_with_len 0 n) (λ k d inside.
    let below : k < n = omega (arith, length-range_with_len 0 n) in
    rw (get_or-range_with_len 0 n k d below) (each (0 + k) (omega arith)))

pairs_made : {X : Type 0} (R : X → X → Type 0) (f : ℕ → X) (n : ℕ) → ((i j : ℕ) → i < j → j < n → R (f i) (f j)) → AllPairs R (map f (range_with_len 0 n))
pairs_made R f n each i j d before inside =
    let below : j < n = omega (arith, length-map-range_with_len f 0 n) in
    rw (get_or-map-range_with_len f 0 n i i d (omega arith) (omega arith), get_or-map-range_with_len f 0 n j j d below (omega arith)) (each i j before below)

is_digit : (k : ℕ) → k < 10 → IsLabelByte (48 + k)
is_digit k below = inr (inr (inl (omega arith, omega arith)))

is_label : (letter k : ℕ) → IsBetween 65 90 letter → k < 100 → IsLabel (letter ∷ two_digits k)
is_label letter k capital small = record {
  nonempty = omega arith;
  short = omega arith;
  plain = All-cons IsLabelByte letter (two_digits k) (inl capital)
      (All-cons IsLabelByte (48 + k / 10) ((48 + k % 10) ∷ []) (is_digit (k / 10) (omega arith))
      (All-cons IsLabelByte (48 + k % 10) [] (is_digit (k % 10) (omega arith)) (All-nil IsLabelByte)));
}

digits_apart : (letter i j : ℕ) → i < j → (letter ∷ two_digits i) ≢ (letter ∷ two_digits j)
digits_apart letter i j before same =
    omega (arith, ap (λ (l : List ℕ). get_or l 1 0) same, ap (λ (l : List ℕ). get_or l 2 0) same)

is_group : (i min_green : ℕ) → i < 100 → 5 ≤ min_green → min_green ≤ 8 → IsGroup (sample_group i min_green)
is_group i min_green small least most = record {
  label = is_label 71 i (omega arith, omega arith) small;
  times = record {
    shown = omega arith;
    min_green = omega arith;
    amber = omega arith;
    red_amber = omega arith;
    lost_and_gained = (omega arith, omega arith);
    max_green = (omega arith, omega arith);
  };
  gained_in_amber = omega arith;
  some_effective = omega arith;
  not_below = omega arith;
}

pub are_groups : (x n : ℕ) → 2 ≤ n → n ≤ 16 → AreGroups (drawn_groups x n)
are_groups x n several few = record {
  several = rw (length-map-range_with_len (group_at x) 0 n) several;
  few = rw (length-map-range_with_len (group_at x) 0 n) few;
  each = all_made IsGroup (group_at x) n (λ i below. is_group i (5 + draw x i 4) (omega arith) (omega arith) (omega arith));
  distinct = pairs_made (λ (a b : Group). a.label ≢ b.label) (group_at x) n (λ i j before below. digits_apart 71 i j before);
}

pub are_groups_of_sample : (x n : ℕ) → AreGroupsOfSample n (drawn_groups x n)
are_groups_of_sample x n = record {
  as_many = length-map-range_with_len (group_at x) 0 n;
  amber = all_made (λ (group : Group). group.times.amber ≡ 3) (group_at x) n (λ i below. refl);
  red_amber = all_made (λ (group : Group). group.times.red_amber ≡ 2) (group_at x) n (λ i below. refl);
}

is_lane : (groups k arrival saturation : ℕ) → k < 100 → k < 2 * groups → arrival ≤ 20000 → 1 ≤ saturation → saturation ≤ 20000 →
    IsLane groups (sample_lane k arrival saturation)
is_lane groups k arrival saturation small inside a b c = record {
  label = is_label 76 k (omega arith, omega arith) small;
  served = omega arith;
  flows = record { arrival = a; some_saturation = b; saturation = c; allowed = omega arith; limit = omega arith };
}

some_arrival : (x n : ℕ) → 1 ≤ n → Any (λ (lane : Lane). 1 ≤ lane.arrival) (drawn_lanes x n)
some_arrival x n some = (
  0,
  lane_at x 0,
  rw (length-map-range_with_len (lane_at x) 0 n) (omega arith),
  get_or-map-range_with_len (lane_at x) 0 n 0 0 (lane_at x 0) (omega arith) (omega arith),
  omega arith,
)

pub are_lanes : (x groups : ℕ) → 1 ≤ groups → groups ≤ 16 → AreLanes groups (drawn_lanes x (2 * groups))
are_lanes x groups some few = record {
  some = rw (length-map-range_with_len (lane_at x) 0 (2 * groups)) (omega arith);
  few = rw (length-map-range_with_len (lane_at x) 0 (2 * groups)) (omega arith);
  each = all_made (IsLane groups) (lane_at x) (2 * groups) (λ k below.
      is_lane groups k (20 + draw x (2 * k) 120) (1700 + draw x (2 * k + 1) 301) (omega arith) below (omega arith) (omega arith) (omega arith));
  distinct = pairs_made (λ (a b : Lane). a.label ≢ b.label) (lane_at x) (2 * groups) (λ i j before below. digits_apart 76 i j before);
  some_arrival = some_arrival x (2 * groups) (omega arith);
}

abbrev IsPlain : ℕ → Type 0
IsPlain = IsBetween 32 126

plain_digits : (n : ℕ) → n < 2 ^ 64 → All IsPlain (decimal n)
plain_digits = decimal_by_steps (λ m ds. All IsPlain ds)
    (λ m below. All-cons IsPlain (48 + m) [] (omega arith, omega arith) (All-nil IsPlain))
    (λ m ds more h. All-push IsPlain ds (48 + m % 10) h (omega arith, omega arith))

plain_word : All IsPlain (codes "sample ")
plain_word =
    All-cons IsPlain 115 (codes "ample ") (omega arith, omega arith) (All-cons IsPlain 97 (codes "mple ") (omega arith, omega arith)
    (All-cons IsPlain 109 (codes "ple ") (omega arith, omega arith) (All-cons IsPlain 112 (codes "le ") (omega arith, omega arith)
    (All-cons IsPlain 108 (codes "e ") (omega arith, omega arith) (All-cons IsPlain 101 (codes " ") (omega arith, omega arith)
    (All-cons IsPlain 32 [] (omega arith, omega arith) (All-nil IsPlain)))))))

pub is_title : (n : ℕ) → n < 2 ^ 32 → IsTitle (codes "sample " ++ decimal n)
is_title n fits =
    let short : length (decimal n) ≤ 10 = length-decimal-le 10 n (omega arith) (omega arith) (omega arith) in
    record {
      nonempty = omega arith;
      short = omega (arith, short);
      plain = All-append IsPlain (codes "sample ") (decimal n) plain_word (plain_digits n (omega arith));
    }
