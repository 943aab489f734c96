-- Where the reader of a day's sheet stands in its text.
use Rattle.std.specs.Borrow.{Bor}
use Rattle.std.specs.Prelude.{ℕ, List, ◌≡◌, Some}
use Rattle.csv.specs.Reading.{Reached, Ready, default_config, source_of, strip_bom}
use Rattle.csv.specs.declared.parser.State.TheVariants as st
use Rattle.csv.specs.declared.reader.Reader.{Reader}
use Rattle.csv.specs.declared.reader.Trim.TheVariants as trim

-- the text under a reader that hasn't begun to read
abbrev pub text_under : Reader (Bor (List ℕ)) → List ℕ
text_under reader = reader.rdr.now

-- a reader over a text stands behind the records that the text begins with
pub record StandsBehind (text : List ℕ) (records : List (List (List ℕ)))
    (reader : Reader (Bor (List ℕ))) : Type 0 where
  pub plain : reader.trim ≡ trim.None
  pub ready : Ready reader
  pub config : reader.config ≡ default_config
  pub ahead : List ℕ
  pub source : source_of (λ left. Some left.now) reader ≡ Some ahead
  pub reached : Reached default_config st.StartRecord (strip_bom text) records reader.state ahead
