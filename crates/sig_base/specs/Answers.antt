-- The counts of a shelf and a sink after an answer.
use Rattle.std.specs.Prelude.{ℕ, Result, Ok, Err}
use Rattle.sig_base.specs.FaultCount.{counted_on}
use Rattle.sig_base.specs.declared.shelf.ShelfFault.{ShelfFault}
use Rattle.sig_base.specs.declared.shelf.ShelfFault.TheVariants.{Failed, TooLong, Memory}
use Rattle.sig_base.specs.declared.sink.SinkFault.{SinkFault}
use Rattle.sig_base.specs.declared.sink.SinkFault.TheVariants as sink

-- one more where the answer is a fault of the store
abbrev pub faults_after : {T : Type 0} → Result T ShelfFault → ℕ → ℕ
faults_after (Err Failed) count = counted_on count
faults_after (Err TooLong) count = count
faults_after (Err Memory) count = count
faults_after (Ok _) count = count

-- one more where the answer is a refusal for length
abbrev pub refusals_after : {T : Type 0} → Result T ShelfFault → ℕ → ℕ
refusals_after (Err TooLong) count = counted_on count
refusals_after (Err Failed) count = count
refusals_after (Err Memory) count = count
refusals_after (Ok _) count = count

-- one more where a push failed
abbrev pub push_faults_after : {T : Type 0} → Result T SinkFault → ℕ → ℕ
push_faults_after (Err sink.Failed) count = counted_on count
push_faults_after (Err sink.Memory) count = count
push_faults_after (Ok _) count = count
