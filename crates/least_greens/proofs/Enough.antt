-- The test by which a need is found is true exactly of the greens that are enough.
use Rattle.std.proofs.Common.{ℕ, zero, suc, List, [], ◌∷◌, Bool, true, false, ◌≡◌, ◌+◌, ◌≤◌, not, add-zero, zero-add, arith, refl}
use Rattle.std.specs.Prelude.{Option, None, Some, ◌==◌, ◌||◌, ◌&&◌, nat_le, IsBitSet, slice_get}
use Rattle.std.specs.Bool.{Decides}
use Rattle.std.specs.Int.{bit_at}
use Rattle.std.specs.Option.{option_map_or}
use Rattle.std.proofs.lemmas.Bool.{and_parts, and_from, not-true, not-false, both_ways, eq-eqb, eqb-true, eqb-false, ltb-true, leb-true, lt-ltb, le-leb}
use Rattle.std.proofs.Math.Bool.{or_assoc}
use Rattle.sig_base.specs.Fraction.{Fraction}
use Rattle.sig_base.specs.declared.lane_set.LaneSet.{LaneSet}
use Rattle.sig_base.specs.declared.target.Target.{Target}
use Rattle.sig_base.specs.declared.target.Target.TheVariants.{Reach, Beat}
use Rattle.sig_base.proofs.Bits.{one_of_set, set_of_one}
use Rattle.flow_model.specs.declared.lane.Lane.{Lane}
use Rattle.junction_model.specs.declared.group.Group.{Group}
use Rattle.junction_model.specs.Junction.{JunctionView}
use Rattle.plan_model.specs.Multiplier.{Serves}
use Rattle.plan_model.specs.Serving.{multiplier_under}
use Rattle.least_greens.specs.Need.{IsEnough}
use Rattle.least_greens.specs.NeedOf.{serves, lanes_serve, is_enough}

-- a test that passes where P doesn't hold, and otherwise asks for Q
unless : (b r : Bool) (P Q : Type 0) → (b ≡ true → ¬ P) → (b ≡ false → P) → Decides r Q → Decides (b || r) (P → Q)
unless true r P Q not is rest = (λ _ p. absurd (not refl p), λ _. refl)
unless false r P Q not is rest = (λ passes _. rest.0 passes, λ asks. rest.1 (asks (is refl)))

unless_decided : (b r : Bool) (P Q : Type 0) → Decides b P → Decides r Q → Decides (not b || r) (P → Q)
unless_decided b r P Q test rest = unless (not b) r P Q (λ h p. both_ways b (not-true b h) (test.1 p)) (λ h. test.0 (not-false b h)) rest

serves_tells : (target : Target) (own : Fraction) → Decides (serves target own) (Serves target own)
serves_tells (Reach r) own = (λ passes. leb-true _ _ passes, λ is. le-leb _ _ is)
serves_tells (Beat r) own = (λ passes. ltb-true _ _ passes, λ is. lt-ltb _ _ is)

bit_tells : (n k : ℕ) → Decides (bit_at n k == 1) (IsBitSet n k)
bit_tells n k = (λ passes. set_of_one n k (eqb-true _ _ passes), λ is. eq-eqb _ _ (one_of_set n k is))

none_arrives : (n : ℕ) → (n == 0) ≡ true → 1 ≤ n → ⊥
none_arrives n none some = omega (arith, eqb-true n 0 none)

some_arrives : (n : ℕ) → (n == 0) ≡ false → 1 ≤ n
some_arrives n some = let none : n ≡ 0 → ⊥ = eqb-false n 0 some in grind arith

abbrev LaneServes : LaneSet → Target → ℕ → ℕ → Group → ℕ → ℕ → Lane → Type 0
LaneServes lanes target cycle i group green k lane =
    IsBitSet lanes.bits k → lane.group ≡ i → 1 ≤ lane.arrival → Serves target (multiplier_under lane group.times cycle green)

lane_tells : (lanes : LaneSet) (target : Target) (cycle i : ℕ) (group : Group) (green k : ℕ) (lane : Lane) →
    Decides (not (bit_at lanes.bits k == 1) || not (lane.group == i) || (lane.arrival == 0) || serves target (multiplier_under lane group.times cycle green))
    (LaneServes lanes target cycle i group green k lane)
lane_tells lanes target cycle i group green k lane = simp or_assoc
    (unless_decided _ _ _ _ (bit_tells lanes.bits k)
    (unless_decided _ _ _ _ (λ passes. eqb-true lane.group i passes, λ is. eq-eqb lane.group i is)
    (unless _ _ _ _ (none_arrives lane.arrival) (some_arrives lane.arrival) (serves_tells target (multiplier_under lane group.times cycle green)))))

-- the lanes of a list, numbered from k on
abbrev EachServes : LaneSet → Target → ℕ → ℕ → Group → ℕ → ℕ → List Lane → Type 0
EachServes lanes target cycle i group green k list =
    (d : ℕ) (lane : Lane) → slice_get list d ≡ Some lane → LaneServes lanes target cycle i group green (k + d) lane

each_more : (lanes : LaneSet) (target : Target) (cycle i : ℕ) (group : Group) (green k : ℕ) (first : Lane) (rest : List Lane) →
    LaneServes lanes target cycle i group green k first → EachServes lanes target cycle i group green (k + 1) rest →
    EachServes lanes target cycle i group green k (first ∷ rest)
each_more lanes target cycle i group green k first rest here later zero lane there =
    let same : first ≡ lane = cc in rw (add-zero k, ← same) here
each_more lanes target cycle i group green k first rest here later (suc d) lane there =
    let same : k + 1 + d ≡ k + suc d = omega arith in rw same at (later d lane there)

each_later : (lanes : LaneSet) (target : Target) (cycle i : ℕ) (group : Group) (green k : ℕ) (first : Lane) (rest : List Lane) →
    EachServes lanes target cycle i group green k (first ∷ rest) → EachServes lanes target cycle i group green (k + 1) rest
each_later lanes target cycle i group green k first rest each d lane there =
    let same : k + suc d ≡ k + 1 + d = omega arith in rw same at (each (suc d) lane there)

lanes_tell : (lanes : LaneSet) (target : Target) (cycle i : ℕ) (group : Group) (green k : ℕ) (list : List Lane) →
    Decides (lanes_serve lanes target cycle i group green k list) (EachServes lanes target cycle i group green k list)
lanes_tell lanes target cycle i group green k [] = (λ _ d lane there. absurd (cc), λ _. refl)
lanes_tell lanes target cycle i group green k (lane ∷ rest) =
    let here = lane_tells lanes target cycle i group green k lane in
    let later = lanes_tell lanes target cycle i group green (k + 1) rest in (
      λ passes.
          let both = and_parts _ _ passes in each_more lanes target cycle i group green k lane rest (here.0 both.0) (later.0 both.1),
      λ each.
          and_from _ _ (here.1 (rw (add-zero k) at (each 0 lane refl))) (later.1 (each_later lanes target cycle i group green k lane rest each)),
    )

group_tells : (junction : JunctionView) (lanes : LaneSet) (target : Target) (cycle i green : ℕ) (o : Option Group) → slice_get junction.groups i ≡ o →
    Decides (option_map_or (λ (group : Group). nat_le group.times.min_green green && nat_le green group.times.max_green && lanes_serve lanes target cycle i group green 0 junction.lanes) o true)
    (IsEnough junction lanes target cycle i green)
group_tells junction lanes target cycle i green None is = (
  λ _. record { minimum = λ group there. absurd (cc); maximum = λ group there. absurd (cc); serves = λ group k lane there asked. absurd (cc) },
  λ _. refl,
)
group_tells junction lanes target cycle i green (Some own) is =
    let each = lanes_tell lanes target cycle i own green 0 junction.lanes in (
      λ passes.
          let both = and_parts _ _ passes in
          let range = and_parts _ _ both.0 in
          let long : own.times.min_green ≤ green = leb-true _ _ range.0 in
          let short : green ≤ own.times.max_green = leb-true _ _ range.1 in
          record {
            minimum = λ group there. let same : own ≡ group = cc in rw same at long;
            maximum = λ group there. let same : own ≡ group = cc in rw same at short;
            serves = λ group k lane there asked. let same : own ≡ group = cc in
                rw same at (each.0 both.1 k lane asked.there (rw (zero-add k) asked.chosen) asked.own asked.arriving);
          },
      λ enough.
          and_from _ _ (and_from _ _ (le-leb _ _ (enough.minimum own is)) (le-leb _ _ (enough.maximum own is)))
          (each.1 (λ k lane there chosen group arriving. enough.serves own k lane is (record { there = there; chosen = rw (zero-add k) at chosen; own = group; arriving = arriving }))),
    )

pub enough_tells : (junction : JunctionView) (lanes : LaneSet) (target : Target) (cycle i green : ℕ) →
    Decides (is_enough junction lanes target cycle i green) (IsEnough junction lanes target cycle i green)
enough_tells junction lanes target cycle i green = group_tells junction lanes target cycle i green (slice_get junction.groups i) refl
