-- What a push does to the bytes written, where the sink tells them, and the cause of its fault.
use Rattle.std.specs.Prelude.{ℕ, List, take, Option, Result, ◌≡◌, ◌≤◌, OnOk, IsErrOf}
use Rattle.std.specs.Io.KnownBytes.{Appends, Keeps}
use Rattle.sig_base.specs.FaultCount.{Rose}
use Rattle.sig_base.specs.declared.sink.SinkFault.{SinkFault}
use Rattle.sig_base.specs.declared.sink.SinkFault.TheVariants.{Failed, Memory}

pub record Pushes {T : Type 0} (old new : Option (List ℕ)) (piece : List ℕ) (faults_old faults_new : ℕ)
    (result : Result T SinkFault) : Type 0 where
  pub whole : OnOk result (Appends old new piece)
  pub part : IsErrOf result Failed → (n : ℕ) × Appends old new (take n piece)
  pub nothing : IsErrOf result Memory → Keeps old new
  pub later : faults_old ≤ faults_new
  pub failed : IsErrOf result Failed → Rose faults_old faults_new
  -- the count doesn't rise behind a push of the whole piece
  pub same : OnOk result (faults_new ≡ faults_old)
