-- How a run may end: with an answer, or by a fault of the outside, each with its cause.
use Rattle.std.specs.Prelude.{ℕ, List, [], ◌∷◌, ◌++◌, take, Option, ◌≡◌, ◌⊎◌, IfSome, ⊤}
use Rattle.sig_base.specs.Shelf.{Holdings, Lacks, Exceeds}
use Rattle.report_text.specs.Refusal.{refusal_line}
use Rattle.report_text.specs.declared.refusal.Refusal.TheVariants as refusal
use Rattle.junction_program.specs.Runs.{Run, told, ShelfRose, RefusalsRose, SinkRose, CountsShelfFault, CountsRefusal, CountsSinkFault, Printed, put_all}
use Rattle.junction_program.specs.declared.status.Status.{Status}
use Rattle.junction_program.specs.declared.status.Status.TheVariants.{ShelfFailed, SinkFailed, Memory, TooLong}

-- what a command answers where the outside has no fault: its status, the text that it pushes, and what it puts
pub record Answer : Type 0 where
  pub status : Status
  pub text : List ℕ
  pub puts : List (List ℕ × List ℕ)

-- the statuses of answers
abbrev pub IsAnswered : Status → Type 0
IsAnswered ShelfFailed = ⊥
IsAnswered SinkFailed = ⊥
IsAnswered Memory = ⊥
IsAnswered TooLong = ⊥
IsAnswered status = ⊤

-- the run ends with the answer, which was put and pushed whole
pub record Gives (answer : Answer) (run : Run) : Type 0 where
  pub status : run.status ≡ answer.status
  pub put : run.after.shelf.holds ≡ put_all (told run) answer.puts
  pub pushed : Printed run answer.text

-- a name that is fetched isn't held
abbrev pub LacksFetched : (List ℕ → ℕ → Type 0) → Option Holdings → Type 0
LacksFetched fetches shelf = (name : List ℕ) × (limit : ℕ) × fetches name limit × Lacks shelf name

-- a name that is fetched has more bytes than its limit
abbrev pub ExceedsFetched : (List ℕ → ℕ → Type 0) → Option Holdings → Type 0
ExceedsFetched fetches shelf = (name : List ℕ) × (limit : ℕ) × fetches name limit × Exceeds shelf name limit

-- of the puts that the command makes, these were made
pub record HasPut (puts : List (List ℕ × List ℕ) → Type 0) (run : Run) : Type 0 where
  pub made : List (List ℕ × List ℕ)
  pub meant : puts made
  pub put : run.after.shelf.holds ≡ put_all (told run) made

-- the fetch of a name failed, since the count rose or the name isn't held; nothing was put
pub record FetchFault (fetches : List ℕ → ℕ → Type 0) (run : Run) : Type 0 where
  pub name : List ℕ
  pub limit : ℕ
  pub asked : fetches name limit
  pub cause : ShelfRose run ⊎ Lacks (told run) name
  pub same : run.after.shelf.holds ≡ told run

-- of the puts that the command makes, these were made, and the next one failed, since the count rose
pub record PutFault (puts : List (List ℕ × List ℕ) → Type 0) (run : Run) : Type 0 where
  pub made : List (List ℕ × List ℕ)
  pub failed : List ℕ × List ℕ
  pub meant : puts (made ++ failed ∷ [])
  pub rose : ShelfRose run
  pub put : run.after.shelf.holds ≡ put_all (told run) made

-- the call that failed, its cause, and what was put before it
abbrev pub ShelfFault : (List ℕ → ℕ → Type 0) → (List (List ℕ × List ℕ) → Type 0) → Run → Type 0
ShelfFault fetches puts run = FetchFault fetches run ⊎ PutFault puts run

-- the cause of a refusal for length; nothing was put
pub record LengthFault (fetches : List ℕ → ℕ → Type 0) (run : Run) : Type 0 where
  pub asked : (name : List ℕ) × (limit : ℕ) × fetches name limit
  pub counted : RefusalsRose run
  pub cause : IfSome (told run) (λ _. ExceedsFetched fetches (told run))
  pub same : run.after.shelf.holds ≡ told run

-- an answer was put whole, and the first n bytes of its text were pushed
pub record PushesPart (answers : Answer → Type 0) (run : Run) : Type 0 where
  pub answer : Answer
  pub meant : answers answer
  pub put : run.after.shelf.holds ≡ put_all (told run) answer.puts
  pub bytes : ℕ
  pub pushed : Printed run (take bytes answer.text)

-- the first n bytes of a line were pushed
abbrev pub PrintedPart : Run → List ℕ → Type 0
PrintedPart run line = (n : ℕ) × Printed run (take n line)

-- what a push that failed leaves: part of an answer's text, or of the line of a fault of the shelf or of a file that is too long
abbrev pub IsCut : (Answer → Type 0) → (List ℕ → ℕ → Type 0) → (List (List ℕ × List ℕ) → Type 0) → Run → Type 0
IsCut answers fetches puts run = PushesPart answers run
    ⊎ ((ShelfFault fetches puts run × PrintedPart run (refusal_line refusal.ShelfFailed))
    ⊎ (LengthFault fetches run × PrintedPart run (refusal_line refusal.TooLong)))

-- this status, or a push failed, or memory is wanting
abbrev pub OrPushFault : Status → Status → Type 0
OrPushFault wanted given = (given ≡ wanted) ⊎ ((given ≡ SinkFailed) ⊎ (given ≡ Memory))

-- this status, and no fault of the shelf is counted; or the shelf failed, and its count rose; or in either case a push failed,
-- or memory is wanting
abbrev pub OrOutsideFault : Status → Run → Type 0
OrOutsideFault wanted run = (OrPushFault wanted run.status × ¬ CountsShelfFault run) ⊎ (OrPushFault ShelfFailed run.status × ShelfRose run)

-- the same of a run that the shelf ends only by a fetch of these names
abbrev pub OrFetchFault : Status → (List ℕ → ℕ → Type 0) → Run → Type 0
OrFetchFault wanted fetches run = (OrPushFault wanted run.status × ¬ CountsShelfFault run)
    ⊎ (OrPushFault ShelfFailed run.status × ShelfRose run × FetchFault fetches run)

-- the line of this status was pushed; or a push failed, behind a part of it; or memory is wanting, and nothing was pushed
abbrev pub TellsFault : Status → List ℕ → Run → Type 0
TellsFault status line run = ((run.status ≡ status) × Printed run line)
    ⊎ (((run.status ≡ SinkFailed) × PrintedPart run line) ⊎ ((run.status ≡ Memory) × Printed run []))

-- how a run of a command ends that has these answers, fetches these names and makes these puts
pub record Outcome (answers : Answer → Type 0) (fetches : List ℕ → ℕ → Type 0) (puts : List (List ℕ × List ℕ) → Type 0)
    (run : Run) : Type 0 where
  -- an answer is put and pushed whole
  pub answered : IsAnswered run.status → (answer : Answer) × answers answer × Gives answer run
  -- a fault of the shelf: its cause and its line
  pub shelf_failed : run.status ≡ ShelfFailed → ShelfFault fetches puts run × Printed run (refusal_line refusal.ShelfFailed)
  -- a file that is too long: its cause and its line
  pub too_long : run.status ≡ TooLong → LengthFault fetches run × Printed run (refusal_line refusal.TooLong)
  pub too_long_always : ExceedsFetched fetches (told run) → ¬ ShelfRose run → OrPushFault TooLong run.status
  -- a fault of the sink: its cause, and what was put and pushed before it
  pub sink_failed : run.status ≡ SinkFailed → SinkRose run × IsCut answers fetches puts run
  -- a fault that is counted ends the run, and is told
  pub shelf_told : CountsShelfFault run → ShelfFault fetches puts run × TellsFault ShelfFailed (refusal_line refusal.ShelfFailed) run
  pub length_told : CountsRefusal run → LengthFault fetches run × TellsFault TooLong (refusal_line refusal.TooLong) run
  pub sink_told : CountsSinkFault run → (run.status ≡ SinkFailed) ⊎ (run.status ≡ Memory)
  -- want of memory: what was put and pushed before it
  pub memory : run.status ≡ Memory → HasPut puts run × (Printed run [] ⊎ PushesPart answers run)
