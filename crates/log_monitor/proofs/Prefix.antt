-- A part of a safe list from its beginning is safe.
use Rattle.std.proofs.Common.{length-append, ◌+◌, arith}
use Rattle.aspect_player.specs.declared.aspect.Aspect.TheVariants.{Green, Amber}
use Rattle.log_monitor.specs.MonitorLaws.{PrefixLaw}
use Rattle.log_monitor.proofs.LongerRows.{longer, shorter, longer_other}

pub prefix_law : PrefixLaw
prefix_law junction rows more safe = record {
  clearance = λ i j w u v conflict order first second. safe.clearance i j w u v conflict order (longer rows more u i Green first) (longer rows more v j Green second);
  amber = λ i u k group there green other some within inside. shorter rows more (u + k) i Amber inside
      (safe.amber i u k group there (longer rows more u i Green green) (longer_other rows more (u + 1) i other) some within (omega (arith, inside, length-append rows more)));
  minimum = λ i u n group there some begun green ended. safe.minimum i u n group there some (longer_other rows more u i begun)
      (λ k low high. longer rows more (u + k) i Green (green k low high)) (longer_other rows more (u + n + 1) i ended);
}
