-- The text of a day's sheet, as far as it is read: the heading, and then a record for each pilot.
use Rattle.std.specs.Prelude.{◌≡◌, ℕ, ◌+◌, ◌≤◌, List, [], ◌∷◌, length, slice_index_or, codes, ⊤, IsTrue, IsUtf8}
use Rattle.std.specs.Fmt.{decimal}
use Rattle.csv.specs.Reading.{AreRecords, Reached, default_config, strip_bom}
use Rattle.csv.specs.declared.parser.State.{State}
use Rattle.csv.specs.declared.parser.State.TheVariants as st
use Rattle.gl_series.specs.declared.day.DayRow.{DayRow}
use Rattle.gl_series.specs.declared.day.DaySheet.{DaySheet}
use Rattle.gl_series.specs.declared.error.SheetError.{SheetError}
use Rattle.gl_series.specs.declared.error.SheetError.TheVariants.{Heading, Record, Memory}
use Rattle.gl_text.specs.Forms.{is_name, is_number}
use Rattle.gl_series.specs.OneByOne.{Reads, StopsBehind}
use Rattle.gl_series.specs.Totals.{IsDay}

-- the names of the columns of a sheet
abbrev pub sheet_heading : List (List ℕ)
sheet_heading =
    codes "rank" ∷ codes "number" ∷ codes "name" ∷ codes "result" ∷ codes "metres"
    ∷ codes "seconds" ∷ codes "penalty" ∷ codes "points" ∷ codes "free" ∷ codes "triangle" ∷ []

-- the field at a place, which counts from 0
abbrev pub field_of : List (List ℕ) → ℕ → List ℕ
field_of fields place = slice_index_or fields place []

-- ten fields, of which three say the number, the name and the points; the others aren't read
pub record IsRowOf (fields : List (List ℕ)) (row : DayRow) : Type 0 where
  pub ten : length fields ≡ 10
  pub number_is : field_of fields 1 ≡ row.number
  pub number_form : IsTrue (is_number row.number)
  pub name_is : field_of fields 2 ≡ row.name
  pub name_text : IsUtf8 row.name
  pub name_form : IsTrue (is_name row.name)
  pub points_are : field_of fields 7 ≡ decimal row.points
  pub points_low : row.points ≤ 1_000

-- a text begins with these records, as csv reads it without a header row
pub record Begins (text : List ℕ) (records : List (List (List ℕ))) : Type 0 where
  pub state : State
  pub rest : List ℕ
  pub reached : Reached default_config st.StartRecord (strip_bom text) records state rest

-- the records of a text are the heading and those of these rows, at most 200 with numbers that
-- differ
pub record IsSheetOf (text : List ℕ) (sheet : DaySheet) : Type 0 where
  pub rest : List (List (List ℕ))
  pub records : AreRecords default_config st.StartRecord (strip_bom text) (sheet_heading ∷ rest)
  pub reads : Reads IsRowOf IsDay rest sheet.rows

-- behind the heading, the record with this number is the first that is wrong
pub record IsWrongRecord (text : List ℕ) (number : ℕ) : Type 0 where
  pub read : List (List (List ℕ))
  pub count : ℕ
  pub begins : Begins text (sheet_heading ∷ read)
  pub stops : StopsBehind IsRowOf IsDay read count
  pub last : length read ≡ count + 1
  pub number_is : number ≡ count + 2

-- what is told of a text that is no sheet; want of memory can always be told
abbrev pub IsRefusedSheet : List ℕ → SheetError → Type 0
IsRefusedSheet text Heading = Begins text (sheet_heading ∷ []) → ⊥
IsRefusedSheet text (Record number) = IsWrongRecord text number
IsRefusedSheet text Memory = ⊤
