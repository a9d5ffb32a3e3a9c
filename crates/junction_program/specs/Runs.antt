-- What a run finds outside, and what it leaves.
use Rattle.std.specs.Prelude.{ℕ, List, [], ◌∷◌, Option, None, Some, ◌<◌}
use Rattle.std.specs.Io.KnownBytes.{Appends}
use Rattle.sig_base.specs.FaultCount.{Rose}
use Rattle.sig_base.specs.Shelf.{Holdings, with_held}
use Rattle.junction_program.specs.declared.status.Status.{Status}

-- a shelf: what it holds, where it tells that, and its two counts
pub record ShelfView : Type 0 where
  pub holds : Option Holdings
  pub faults : ℕ
  pub refusals : ℕ

-- a sink: what was written, where it tells that, and its count of faults
pub record SinkView : Type 0 where
  pub written : Option (List ℕ)
  pub faults : ℕ

pub record Outside : Type 0 where
  pub shelf : ShelfView
  pub sink : SinkView

-- the outside before a run and after it, and how it ended
pub record Run : Type 0 where
  pub before : Outside
  pub after : Outside
  pub status : Status

abbrev pub outside : {S K : Type 0} → (S → Option Holdings) → (S → ℕ) → (S → ℕ) → S → (K → Option (List ℕ)) → (K → ℕ) → K → Outside
outside holds faults refusals shelf written sink_faults sink = record {
  shelf = record { holds = holds shelf; faults = faults shelf; refusals = refusals shelf };
  sink = record { written = written sink; faults = sink_faults sink };
}

abbrev pub ran : {S K : Type 0} → (S → Option Holdings) → (S → ℕ) → (S → ℕ) → (K → Option (List ℕ)) → (K → ℕ) → S → S → K → K → Status → Run
ran holds faults refusals written sink_faults shelf_old shelf_new out_old out_new status = record {
  before = outside holds faults refusals shelf_old written sink_faults out_old;
  after = outside holds faults refusals shelf_new written sink_faults out_new;
  status = status;
}

-- what the shelf holds as the run begins, where it tells that
abbrev pub told : Run → Option Holdings
told run = run.before.shelf.holds

-- counts that rose in the run
abbrev pub ShelfRose : Run → Type 0
ShelfRose run = Rose run.before.shelf.faults run.after.shelf.faults

abbrev pub RefusalsRose : Run → Type 0
RefusalsRose run = Rose run.before.shelf.refusals run.after.shelf.refusals

abbrev pub SinkRose : Run → Type 0
SinkRose run = Rose run.before.sink.faults run.after.sink.faults

-- counts that are greater after the run; one that stands at its end as the run begins can't be
abbrev pub CountsShelfFault : Run → Type 0
CountsShelfFault run = run.before.shelf.faults < run.after.shelf.faults

abbrev pub CountsRefusal : Run → Type 0
CountsRefusal run = run.before.shelf.refusals < run.after.shelf.refusals

abbrev pub CountsSinkFault : Run → Type 0
CountsSinkFault run = run.before.sink.faults < run.after.sink.faults

-- the run pushed this text
abbrev pub Printed : Run → List ℕ → Type 0
Printed run text = Appends run.before.sink.written run.after.sink.written text

-- the names hold these bytes one after another, and all else stays
abbrev pub put_all : Option Holdings → List (List ℕ × List ℕ) → Option Holdings
put_all None puts = None
put_all (Some m) [] = Some m
put_all (Some m) (put ∷ puts) = put_all (Some (with_held m put.0 put.1)) puts
