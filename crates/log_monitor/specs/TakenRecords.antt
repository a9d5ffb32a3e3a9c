-- What a reader of a log has taken of its bytes.
use Rattle.std.specs.Prelude.{ℕ, List, [], ◌∷◌, length, Option, None, Some, false, ◌≡◌}
use Rattle.std.specs.Borrow.{Bor}
use Rattle.csv.specs.Reading.{Reached, Ready, default_config, source_of, strip_bom}
use Rattle.csv.specs.declared.parser.State.TheVariants as st
use Rattle.csv.specs.declared.reader.Reader.{Reader}
use Rattle.csv.specs.declared.reader.Trim.TheVariants as trim
use Rattle.log_monitor.specs.Log.{Fields}

-- the number of fields that the first record sets
abbrev pub first_count : List Fields → Option ℕ
first_count [] = None
first_count (fields ∷ more) = Some (length fields)

-- these records, of a log read with the default settings and no header row
pub record HasTaken (bytes : List ℕ) (reader : Reader (Bor (List ℕ))) (taken : List Fields) : Type 0 where
  pub trim : reader.trim ≡ trim.None
  pub ready : Ready reader
  pub config : reader.config ≡ default_config
  pub flexible : reader.flexible ≡ false
  pub rest : List ℕ
  pub source : source_of (λ (s : Bor (List ℕ)). Some s.now) reader ≡ Some rest
  pub reached : Reached default_config st.StartRecord (strip_bom bytes) taken reader.state rest
  pub expected : reader.expected ≡ first_count taken
