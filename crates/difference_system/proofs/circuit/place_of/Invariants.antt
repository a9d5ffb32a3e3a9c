use Rattle.std.proofs.Common.{◌≡◌, ◌≤◌, [], length, take, drop, reverse}
use Rattle.difference_system.specs.Trail.{cut}
use Rattle.difference_system.proofs.circuit.place_of.Given as goal

abbrev pub invariant-loop-place : goal.invariant-loop-place
invariant-loop-place l = (l.place ≤ length l.groups) × (cut l.first (reverse (take l.place l.groups)) (drop l.place l.groups) ≡ cut l.first (reverse l.groups) [])

abbrev pub decreases-loop-place : goal.decreases-loop-place
decreases-loop-place l = l.place
