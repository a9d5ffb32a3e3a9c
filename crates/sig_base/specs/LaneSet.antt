-- Sets of lanes, by their bits and by their members.
use Rattle.std.specs.Prelude.{ℕ, ◌^◌, IsBitSet, bit_and}
use Rattle.std.specs.Int.{bit_not, w32}
use Rattle.sig_base.specs.declared.lane_set.LaneSet.{LaneSet}

-- the lane of this number is in the set
abbrev pub IsIn : LaneSet → ℕ → Type 0
IsIn lanes k = IsBitSet lanes.bits k

-- the set without the lane of this number
abbrev pub without : LaneSet → ℕ → LaneSet
without lanes k = record { bits = bit_and lanes.bits (bit_not w32 (2 ^ k)) }
