use Rattle.std.proofs.Common.{◌≡◌, length, map, drop, replicate, take}
use Rattle.std.specs.List.{range_with_len}
use Rattle.least_greens.specs.NeedOf.{need_of}
use Rattle.least_greens.proofs.group_need.needs.Given as goal

abbrev pub invariant-loop-group : goal.invariant-loop-group
invariant-loop-group l = record {
  full : length l.needs ≡ 16;
  value : take l.group l.needs ≡ map (need_of l.junction l.lanes l.target l.cycle) (range_with_len 0 l.group);
  unused : drop l.group l.needs ≡ drop l.group (replicate 16 0);
}
