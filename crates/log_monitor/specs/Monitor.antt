-- What contracts see of a monitor: its junction and its memory.
use Rattle.std.specs.Prelude.{take}
use Rattle.junction_model.specs.Junction.{JunctionView}
use Rattle.plan_model.specs.Fits.{group_count}
use Rattle.log_monitor.specs.declared.monitor.Monitor.{Monitor}
use Rattle.log_monitor.specs.Memory.{Memory}

abbrev pub watched : Monitor → JunctionView
watched monitor = monitor.junction.now

abbrev pub memory_of : Monitor → Memory
memory_of monitor = record { rows = monitor.rows; groups = take (group_count (watched monitor)) monitor.groups }
