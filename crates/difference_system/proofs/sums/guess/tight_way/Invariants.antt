use Rattle.std.proofs.Common.{◌≡◌, ◌<◌, ◌==◌, length}
use Rattle.std.specs.Prelude.{All}
use Rattle.std.specs.List.{IsDistinct}
use Rattle.difference_system.proofs.sums.guess.tight_way.Given as goal

abbrev pub invariant-loop-step : goal.invariant-loop-step
invariant-loop-step l = record {
  once : IsDistinct (λ g h. g == h) l.trail;
  within : All (λ g. g < l.groups) l.trail;
  long : length l.trail ≡ l.step;
  at : l.at < l.groups;
}
