-- The need as a number. It is found here by trying greens one after another; that it is the need is a law.
use Rattle.std.specs.Prelude.{ℕ, zero, suc, List, [], ◌∷◌, Bool, true, ◌+◌, ◌*◌, ◌==◌, ◌&&◌, ◌||◌, not, if◌then◌else◌, nat_le, nat_lt, slice_get}
use Rattle.std.specs.Option.{option_map_or}
use Rattle.std.specs.Int.{bit_at}
use Rattle.sig_base.specs.Fraction.{Fraction}
use Rattle.sig_base.specs.declared.lane_set.LaneSet.{LaneSet}
use Rattle.sig_base.specs.declared.target.Target.{Target}
use Rattle.sig_base.specs.declared.target.Target.TheVariants.{Reach, Beat}
use Rattle.flow_model.specs.declared.lane.Lane.{Lane}
use Rattle.constraint_cycles.specs.Edge.{longest_green}
use Rattle.junction_model.specs.declared.group.Group.{Group}
use Rattle.junction_model.specs.Junction.{JunctionView}
use Rattle.plan_model.specs.Serving.{multiplier_under}

-- the multiplier reaches the target's ratio, or exceeds it
abbrev pub serves : Target → Fraction → Bool
serves (Reach r) own = nat_le (r.num * own.den) (own.num * r.den)
serves (Beat r) own = nat_lt (r.num * own.den) (own.num * r.den)

-- each lane of the set and of group i on which something arrives serves; the lanes are numbered from k on
abbrev pub lanes_serve : LaneSet → Target → ℕ → ℕ → Group → ℕ → ℕ → List Lane → Bool
lanes_serve lanes target cycle i group green k [] = true
lanes_serve lanes target cycle i group green k (lane ∷ rest) =
    (not (bit_at lanes.bits k == 1) || not (lane.group == i) || (lane.arrival == 0) || serves target (multiplier_under lane group.times cycle green))
    && lanes_serve lanes target cycle i group green (k + 1) rest

abbrev pub is_enough : JunctionView → LaneSet → Target → ℕ → ℕ → ℕ → Bool
is_enough junction lanes target cycle i green =
    option_map_or (λ (group : Group). nat_le group.times.min_green green && nat_le green group.times.max_green && lanes_serve lanes target cycle i group green 0 junction.lanes) (slice_get junction.groups i) true

-- the first of n numbers from k on that passes, and the number after them where none does
unfoldable pub first_from : (ℕ → Bool) → ℕ → ℕ → ℕ
first_from passes k zero = k
first_from passes k (suc n) = (if passes k then k else first_from passes (k + 1) n)

-- the need of group i
abbrev pub need_of : JunctionView → LaneSet → Target → ℕ → ℕ → ℕ
need_of junction lanes target cycle i = first_from (is_enough junction lanes target cycle i) 1 longest_green
