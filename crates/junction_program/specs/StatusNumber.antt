-- The exit status of each way to end.
use Rattle.std.specs.Prelude.{ℕ}
use Rattle.junction_program.specs.declared.status.Status.{Status}
use Rattle.junction_program.specs.declared.status.Status.TheVariants.{Done, Infeasible, Stopped, Refuted, BadWords, BadJunction, BadCertificate, ShelfFailed, SinkFailed, Memory, TooLong}

abbrev pub status_number : Status → ℕ
status_number Done = 0
status_number Infeasible = 1
status_number Stopped = 2
status_number Refuted = 3
status_number BadWords = 4
status_number BadJunction = 5
status_number BadCertificate = 6
status_number ShelfFailed = 7
status_number SinkFailed = 8
status_number Memory = 9
status_number TooLong = 10
