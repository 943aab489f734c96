-- The rows of a sheet are those of no other records, and the first record that is wrong is the one
-- that is told.
use Rattle.std.proofs.Common.{Bor, ◌≡◌, ◌≢◌, ◌∙◌, sym, ap, subst, refl, inl, inr, ℕ, Bool, true, false, zero, suc, ◌<◌, ◌≤◌, List, [], ◌∷◌, ◌++◌, length, get_or, drop, append_assoc, Option, Some, None, Result, Ok, Err, arith, ⊎_elim}
use Rattle.std.specs.Prelude.{All, IfOk, IfErr, IsErrOf, MatchResult, ◌⊎◌, map, not}
use Rattle.std.proofs.lemmas.Bool.{cases_Bool}
use Rattle.std.proofs.lemmas.Fmt.{decimal_injective}
use Rattle.std.proofs.lemmas.List.{append-nil, length-append}
use Rattle.csv.specs.Machine.{Read, next_record}
use Rattle.csv.specs.Reading.{ReadRecord, Reached, Ready, RowStep, default_config, source_of, strip_bom}
use Rattle.csv.specs.Records.{Row, field_at, fields_of}
use Rattle.csv.specs.declared.error.Error.{Error}
use Rattle.csv.specs.declared.parser.Config.{Config}
use Rattle.csv.specs.declared.parser.State.{State}
use Rattle.csv.specs.declared.parser.State.TheVariants as st
use Rattle.csv.specs.declared.reader.Reader.{Reader}
use Rattle.csv.specs.declared.reader.Trim.TheVariants as trim
use Rattle.csv.proofs.ReadFacts.{rows-end, rows-more}
use Rattle.gl_series.specs.declared.day.DayRow.{DayRow}
use Rattle.gl_series.specs.declared.day.DaySheet.{DaySheet}
use Rattle.gl_series.specs.declared.error.SheetError.{SheetError}
use Rattle.gl_series.specs.declared.numbers.Numbers.{Numbers}
use Rattle.gl_series.specs.declared.error.SheetError.TheVariants.{Heading, Record, Memory}
use Rattle.gl_series.specs.Code.AddingRows.{AddsRow, HasNumbers, IsWrongRow}
use Rattle.gl_series.specs.Code.ReadingRecords.{StandsBehind}
use Rattle.gl_series.specs.OneByOne.{Reads, StopsBehind}
use Rattle.gl_series.specs.SheetText.{Begins, IsRefusedSheet, IsRowOf, IsSheetOf, IsWrongRecord, field_of, sheet_heading}
use Rattle.gl_series.specs.Totals.{IsDay}
use Rattle.gl_text.specs.Forms.{is_text}
use Rattle.gl_series.proofs.Beside.{text_apart, text_same}
use Rattle.gl_series.proofs.Growing.{all_begin, pairs_begin, pairs_last, pairs_nil, pairs_push}
use Rattle.gl_series.proofs.Lines.{zip_long}
use Rattle.gl_series.proofs.Unique.{reads_on, reads_once, stops_once}
use Rattle.std.proofs.lemmas.List.Elements.{All-nil, All-push}
use Rattle.gl_text.proofs.Lists.{AllZip-push}

-- a field is what stands at its place
pub field_there : (fields : List (List ℕ)) (place : ℕ) (field : List ℕ) → Some field ≡ field_at fields place → field ≡ field_of fields place
unfolding field_at
field_there [] place field is = absurd (cc)
field_there (f ∷ fs) zero field is = cc
field_there (f ∷ fs) (suc place) field is = field_there fs place field is

pub field_none : (fields : List (List ℕ)) (place : ℕ) → None ≡ field_at fields place → [] ≡ field_of fields place
unfolding field_at
field_none [] place is = refl
field_none (f ∷ fs) zero is = absurd (cc)
field_none (f ∷ fs) (suc place) is = field_none fs place is

-- records with the same field at each place are the same
pub same_fields : (xs ys : List (List ℕ)) → length xs ≡ length ys → ((k : ℕ) → k < length ys → get_or xs k [] ≡ get_or ys k []) → xs ≡ ys
same_fields [] [] long each = refl
same_fields [] (y ∷ ys) long each = absurd (omega (arith, long))
same_fields (x ∷ xs) [] long each = absurd (omega (arith, long))
same_fields (x ∷ xs) (y ∷ ys) long each =
    let head : x ≡ y = each 0 (omega arith) in
    let tail = same_fields xs ys (omega (arith, long)) (λ k below. each (suc k) (omega (arith, below))) in
    λ i. head i ∷ tail i

-- a record is that of one row
pub row_unique : (fields : List (List ℕ)) (a b : DayRow) → IsRowOf fields a → IsRowOf fields b → a ≡ b
row_unique fields a b one other =
    let number = sym one.number_is ∙ other.number_is in
    let name = sym one.name_is ∙ other.name_is in
    let points = decimal_injective a.points b.points (omega (arith, one.points_low)) (omega (arith, other.points_low)) (sym one.points_are ∙ other.points_are) in
    λ i. record { number = number i; name = name i; points = points i }

abbrev numbers_apart : DayRow → DayRow → Type 0
numbers_apart one other = one.number ≢ other.number

-- no row yet, a front of the rows, and one row more
pub no_rows : IsDay []
no_rows = record { few = omega arith; numbers_differ = pairs_nil numbers_apart; points = All-nil (λ (row : DayRow). row.points ≤ 1_000) }

pub day_begins : (a b : List DayRow) → IsDay (a ++ b) → IsDay a
day_begins a b day = record {
  few = omega (arith, day.few, length-append a b);
  numbers_differ = pairs_begin numbers_apart a b day.numbers_differ;
  points = all_begin (λ (row : DayRow). row.points ≤ 1_000) a b day.points;
}

pub row_fits : (rows : List DayRow) (row : DayRow) → IsDay rows → row.points ≤ 1_000 → length rows < 200 → All (λ other. other.number ≢ row.number) rows → IsDay (rows ++ row ∷ [])
row_fits rows row day low room new = record {
  few = omega (arith, length-append rows (row ∷ []), room);
  numbers_differ = pairs_push numbers_apart rows row day.numbers_differ new;
  points = All-push (λ (other : DayRow). other.points ≤ 1_000) rows row day.points low;
}

pub row_room : (rows : List DayRow) (row : DayRow) → IsDay (rows ++ row ∷ []) → (length rows < 200) × All (λ other. other.number ≢ row.number) rows
row_room rows row day =
    (omega (arith, day.few, length-append rows (row ∷ [])), pairs_last numbers_apart rows row day.numbers_differ)

-- of two lists of records that a text begins with, one begins with the other
abbrev Some_more : List (List (List ℕ)) → List (List (List ℕ)) → Type 0
Some_more front whole = (more : List (List (List ℕ))) × (whole ≡ front ++ more)

some_taken : (p q : Read) → Some p ≡ Some q → p ≡ q
some_taken p q same = cc

one_begins : (cfg : Config) (s : State) (xs : List ℕ) (a b : List (List (List ℕ))) (sa sb : State) (ya yb : List ℕ) → Reached cfg s xs a sa ya → Reached cfg s xs b sb yb
    → Some_more a b ⊎ Some_more b a
unfolding Reached
one_begins cfg s xs [] b sa sb ya yb first second = inl (b, refl)
one_begins cfg s xs (r ∷ rs) [] sa sb ya yb first second = inr (r ∷ rs, refl)
one_begins cfg s xs (r ∷ rs) (q ∷ qs) sa sb ya yb first second =
    let same : first.0 ≡ second.0 = some_taken first.0 second.0 (sym first.1 ∙ second.1) in
    let head : r ≡ q = first.2 ∙ ap (λ (p : Read). p.0) same ∙ sym second.2 in
    let tail : Reached cfg second.0.1 second.0.2 rs sa ya = subst (λ (p : Read). Reached cfg p.1 p.2 rs sa ya) same first.3 in
    ⊎_elim
    (λ (more : Some_more rs qs). let back = sym head in inl (more.0, λ i. back i ∷ more.1 i))
    (λ (more : Some_more qs rs). inr (more.0, λ i. head i ∷ more.1 i))
    (one_begins cfg second.0.1 second.0.2 rs qs sa sb ya yb tail second.3)

-- a text that begins with all its records begins with no more
ended : (cfg : Config) (s : State) (xs : List ℕ) (a b : List (List (List ℕ))) (sa sb : State) (ya yb : List ℕ) → Reached cfg s xs a sa ya → next_record cfg sa [] [] ya ≡ None
    → Reached cfg s xs b sb yb → Some_more b a
unfolding Reached
ended cfg s xs [] [] sa sb ya yb first none second = ([], refl)
ended cfg s xs [] (q ∷ qs) sa sb ya yb first none second =
    let nothing : next_record cfg s [] [] xs ≡ None = (λ i. next_record cfg (first.0 i) [] [] (first.1 i)) ∙ none in
    let some : Some second.0 ≡ None = sym second.1 ∙ nothing in
    absurd (cc)
ended cfg s xs (r ∷ rs) [] sa sb ya yb first none second = (r ∷ rs, refl)
ended cfg s xs (r ∷ rs) (q ∷ qs) sa sb ya yb first none second =
    let same : first.0 ≡ second.0 = some_taken first.0 second.0 (sym first.1 ∙ second.1) in
    let head : r ≡ q = first.2 ∙ ap (λ (p : Read). p.0) same ∙ sym second.2 in
    let tail : Reached cfg second.0.1 second.0.2 rs sa ya = subst (λ (p : Read). Reached cfg p.1 p.2 rs sa ya) same first.3 in
    let more = ended cfg second.0.1 second.0.2 rs qs sa sb ya yb tail none second.3 in
    (more.0, λ i. head i ∷ more.1 i)

-- the bytes that a reader over a text has left
abbrev pub left_of : Bor (List ℕ) → Option (List ℕ)
left_of text = Some text.now

-- a reader that has read nothing of a text
pub at_start : (text : List ℕ) (reader : Reader (Bor (List ℕ))) → reader.trim ≡ trim.None → Ready reader → reader.config ≡ default_config → source_of left_of reader ≡ Some (strip_bom text)
    → reader.state ≡ st.StartRecord → StandsBehind text [] reader
unfolding Reached
at_start text reader plain ready config source start =
    record { plain = plain; ready = ready; config = config; ahead = strip_bom text; source = source; reached = (sym start, refl) }

-- a reader that has read one record more
pub one_further : (text : List ℕ) (records : List (List (List ℕ))) (old new : Reader (Bor (List ℕ))) (fields : List (List ℕ)) → StandsBehind text records old → ReadRecord left_of old new true fields
    → Ready new → StandsBehind text (records ++ fields ∷ []) new
one_further text records old new fields behind read ready =
    let more = rows-more left_of old new fields default_config st.StartRecord (strip_bom text) behind.ahead records behind.config behind.source behind.reached read in
    record { plain = read.3 ∙ behind.plain; ready = ready; config = read.2 ∙ behind.config; ahead = more.0; source = more.1; reached = more.2 }

-- the rows so far are those of the records that a reader has read behind the heading
pub record RowsUpTo (text : List ℕ) (reader : Reader (Bor (List ℕ))) (rows : List DayRow) : Type 0 where
  pub read : List (List (List ℕ))
  pub behind : StandsBehind text (sheet_heading ∷ read) reader
  pub reads : Reads IsRowOf IsDay read rows

-- no row yet
pub rows_none : (text : List ℕ) (reader : Reader (Bor (List ℕ))) → StandsBehind text (sheet_heading ∷ []) reader → RowsUpTo text reader []
rows_none text reader behind = record { read = []; behind = behind; reads = record { each = tt; fit = no_rows } }

-- the row of one record more
pub rows_further : (text : List ℕ) (old new : Reader (Bor (List ℕ))) (rows more : List DayRow) (numbers : Numbers) (left : ℕ) (read : Result Row Error) → RowsUpTo text old rows
    → RowStep left_of old new left (Some read) → MatchResult read (λ columns. AddsRow (fields_of columns) rows more numbers) (λ error. ⊥)
    → RowsUpTo text new more × HasNumbers numbers (map (λ row. row.number) more) × (0 < left)
rows_further text old new rows more numbers left (Ok columns) far step adds =
    let fields = fields_of columns in
    let reads : Reads IsRowOf IsDay (far.read ++ fields ∷ []) (rows ++ adds.row ∷ []) = record { each = AllZip-push IsRowOf far.read rows fields adds.row far.reads.each adds.next.is_row; fit = adds.next.fits } in (
      record {
        read = far.read ++ fields ∷ [];
        behind = one_further text (sheet_heading ∷ far.read) old new fields far.behind step.0 (inl step.1);
        reads = subst (Reads IsRowOf IsDay (far.read ++ fields ∷ [])) (sym adds.added) reads;
      },
      adds.kept,
      step.2,
    )
rows_further text old new rows more numbers left (Err error) far step adds = absurd adds

-- the record behind those of some rows is wrong
wrong_record : (text : List ℕ) (rows : List DayRow) (old new : Reader (Bor (List ℕ))) (fields : List (List ℕ)) (told : SheetError) (far : RowsUpTo text old rows)
    → StandsBehind text (sheet_heading ∷ (far.read ++ fields ∷ [])) new → IsWrongRow rows fields told → IsRefusedSheet text told
wrong_record text rows old new fields Heading far behind wrong = absurd wrong
wrong_record text rows old new fields (Record number) far behind wrong = record {
  read = far.read ++ fields ∷ [];
  count = length far.read;
  begins = record { state = new.state; rest = behind.ahead; reached = behind.reached };
  stops = record {
    front = far.read;
    wrong = fields;
    behind = [];
    items = rows;
    parts = refl;
    before = far.reads;
    none = λ row is_row fit. wrong.1 row (record { is_row = is_row; fits = fit });
    counted = refl;
  };
  last = length-append far.read (fields ∷ []);
  number_is = omega (arith, wrong.0, zip_long IsRowOf far.read rows far.reads.each);
}
wrong_record text rows old new fields Memory far behind wrong = tt

pub wrong_here : (text : List ℕ) (old new : Reader (Bor (List ℕ))) (rows : List DayRow) (left : ℕ) (read : Result Row Error) (told : SheetError) → RowsUpTo text old rows
    → RowStep left_of old new left (Some read) → MatchResult read (λ columns. IsWrongRow rows (fields_of columns) told) (λ error. told ≡ Memory) → IsRefusedSheet text told
wrong_here text old new rows left (Ok columns) told far step wrong =
    wrong_record text rows old new (fields_of columns) told far (one_further text (sheet_heading ∷ far.read) old new (fields_of columns) far.behind step.0 (inl step.1)) wrong
wrong_here text old new rows left (Err error) told far step wrong = subst (IsRefusedSheet text) (sym wrong) tt

-- no record stands behind those of some rows
pub rows_all : (text : List ℕ) (rows : List DayRow) (old new : Reader (Bor (List ℕ))) → RowsUpTo text old rows → ReadRecord left_of old new false [] → IsSheetOf text (record { rows = rows })
rows_all text rows old new far ended = record {
  rest = far.read;
  records = (old.state, far.behind.ahead, far.behind.reached, rows-end left_of old new [] default_config far.behind.ahead far.behind.config far.behind.source ended);
  reads = far.reads;
}

-- a text whose first record isn't the heading, or that has none
pub other_heading : (text : List ℕ) (fields : List (List ℕ)) (state : State) (rest : List ℕ) → Reached default_config st.StartRecord (strip_bom text) (fields ∷ []) state rest
    → (fields ≡ sheet_heading → ⊥) → Begins text (sheet_heading ∷ []) → ⊥
unfolding Reached
other_heading text fields state rest reached other begins =
    let same : reached.0 ≡ begins.reached.0 = some_taken reached.0 begins.reached.0 (sym reached.1 ∙ begins.reached.1) in
    other (reached.2 ∙ ap (λ (p : Read). p.0) same ∙ sym begins.reached.2)

pub no_heading : (text : List ℕ) → next_record default_config st.StartRecord [] [] (strip_bom text) ≡ None → Begins text (sheet_heading ∷ []) → ⊥
unfolding Reached
no_heading text none begins =
    let some : Some begins.reached.0 ≡ None = sym begins.reached.1 ∙ none in
    absurd (cc)

-- a text that begins with some records begins with the first of them
begins_first : (text : List ℕ) (fields : List (List ℕ)) (read : List (List (List ℕ))) → Begins text (fields ∷ read) → Begins text (fields ∷ [])
unfolding Reached
begins_first text fields read begins =
    let reached = begins.reached in
    record { state = reached.0.1; rest = reached.0.2; reached = (reached.0, reached.1, reached.2, (refl, refl)) }

-- where records stop to read, they stop so with others behind them
stops_longer : (read more whole : List (List (List ℕ))) (count : ℕ) → whole ≡ read ++ more → StopsBehind IsRowOf IsDay read count → StopsBehind IsRowOf IsDay whole count
stops_longer read more whole count is stops = record {
  front = stops.front;
  wrong = stops.wrong;
  behind = stops.behind ++ more;
  items = stops.items;
  parts = is ∙ ap (λ (l : List (List (List ℕ))). l ++ more) stops.parts ∙ append_assoc stops.front (stops.wrong ∷ stops.behind) more;
  before = stops.before;
  none = stops.none;
  counted = stops.counted;
}

behind_heading : (a b more : List (List (List ℕ))) → sheet_heading ∷ b ≡ (sheet_heading ∷ a) ++ more → b ≡ a ++ more
behind_heading a b more same = ap (drop 1) same

-- one sheet, or one refusal
pub sheet_unique : (text : List ℕ) (a b : DaySheet) → IsSheetOf text a → IsSheetOf text b → a ≡ b
sheet_unique text a b one other =
    let first = one.records in
    let second = other.records in
    let longer = ended default_config st.StartRecord (strip_bom text) (sheet_heading ∷ one.rest) (sheet_heading ∷ other.rest) first.0 second.0 first.1 second.1 first.2 first.3 second.2 in
    let shorter = ended default_config st.StartRecord (strip_bom text) (sheet_heading ∷ other.rest) (sheet_heading ∷ one.rest) second.0 first.0 second.1 first.1 second.2 second.3 first.2 in
    let long : one.rest ≡ other.rest ++ longer.0 = behind_heading other.rest one.rest longer.0 longer.1 in
    let short : other.rest ≡ one.rest ++ shorter.0 = behind_heading one.rest other.rest shorter.0 shorter.1 in
    let same : one.rest ≡ other.rest = grown_nothing one.rest other.rest longer.0 shorter.0 long short in
    let rows = reads_once IsRowOf row_unique IsDay day_begins other.rest a.rows b.rows (subst (λ (l : List (List (List ℕ))). Reads IsRowOf IsDay l a.rows) same one.reads) other.reads in
    λ i. record { rows = rows i }
  where
    grown_nothing : (x y m n : List (List (List ℕ))) → x ≡ y ++ m → y ≡ x ++ n → x ≡ y
    grown_nothing x y [] n long short = long ∙ append-nil y
    grown_nothing x y (k ∷ m) n long short =
        absurd (omega (arith, ap length long, ap length short, length-append y (k ∷ m), length-append x n))

pub sheet_refused : (text : List ℕ) (sheet : DaySheet) (error : SheetError) → (error ≡ Memory → ⊥) → IsSheetOf text sheet → IsRefusedSheet text error → ⊥
sheet_refused text sheet Heading some is refused =
    refused (begins_first text sheet_heading is.rest (record { state = is.records.0; rest = is.records.1; reached = is.records.2 }))
sheet_refused text sheet (Record number) some is refused =
    let records = is.records in
    let more = ended default_config st.StartRecord (strip_bom text) (sheet_heading ∷ is.rest)
    (sheet_heading ∷ refused.read) records.0 refused.begins.state records.1 refused.begins.rest records.2 records.3 refused.begins.reached in
    let whole = behind_heading refused.read is.rest more.0 more.1 in
    reads_on IsRowOf row_unique IsDay day_begins is.rest sheet.rows refused.count is.reads (stops_longer refused.read more.0 is.rest refused.count whole refused.stops)
sheet_refused text sheet Memory some is refused = some refl

pub sheet_told : (text : List ℕ) (sheet : DaySheet) (error : SheetError) → IsSheetOf text sheet → IsRefusedSheet text error → error ≡ Memory
sheet_told text sheet Heading is refused = absurd (sheet_refused text sheet Heading (λ same. cc) is refused)
sheet_told text sheet (Record number) is refused = absurd (sheet_refused text sheet (Record number) (λ same. cc) is refused)
sheet_told text sheet Memory is refused = refl

wrong_once : (text : List ℕ) (m n : ℕ) → IsWrongRecord text m → IsWrongRecord text n → m ≡ n
wrong_once text m n a b =
    ⊎_elim
    (λ (more : Some_more (sheet_heading ∷ a.read) (sheet_heading ∷ b.read)).
    let whole = behind_heading a.read b.read more.0 more.1 in
    let count = stops_once IsRowOf row_unique IsDay day_begins b.read a.count b.count (stops_longer a.read more.0 b.read a.count whole a.stops) b.stops in
    omega (arith, count, a.number_is, b.number_is))
    (λ (more : Some_more (sheet_heading ∷ b.read) (sheet_heading ∷ a.read)).
    let whole = behind_heading b.read a.read more.0 more.1 in
    let count = stops_once IsRowOf row_unique IsDay day_begins a.read a.count b.count a.stops (stops_longer b.read more.0 a.read b.count whole b.stops) in
    omega (arith, count, a.number_is, b.number_is))
    (one_begins default_config st.StartRecord (strip_bom text) (sheet_heading ∷ a.read)
    (sheet_heading ∷ b.read) a.begins.state b.begins.state a.begins.rest b.begins.rest a.begins.reached b.begins.reached)

pub refused_once : (text : List ℕ) (error other : SheetError) → (error ≡ Memory → ⊥) → (other ≡ Memory → ⊥) → IsRefusedSheet text error → IsRefusedSheet text other → error ≡ other
refused_once text Heading Heading some too a b = refl
refused_once text Heading (Record n) some too a b = absurd (a (begins_first text sheet_heading b.read b.begins))
refused_once text (Record m) Heading some too a b = absurd (b (begins_first text sheet_heading a.read a.begins))
refused_once text (Record m) (Record n) some too a b = ap Record (wrong_once text m n a b)
refused_once text Heading Memory some too a b = absurd (too refl)
refused_once text (Record m) Memory some too a b = absurd (too refl)
refused_once text Memory other some too a b = absurd (some refl)

pub exactly : (text : List ℕ) (answer : Result DaySheet SheetError) (error : SheetError) → IfOk answer (IsSheetOf text) → IfErr answer (IsRefusedSheet text) → (error ≡ Memory → ⊥)
    → IsRefusedSheet text error → IsErrOf answer error ⊎ IsErrOf answer Memory
exactly text (Ok sheet) error ok refused some is = absurd (sheet_refused text sheet error some ok is)
exactly text (Err Heading) error ok refused some is = inl (ap Err (refused_once text Heading error (λ same. cc) some refused is))
exactly text (Err (Record number)) error ok refused some is = inl (ap Err (refused_once text (Record number) error (λ same. cc) some refused is))
exactly text (Err Memory) error ok refused some is = inr refl

-- what a test whether two texts differ tells
pub told_apart : (a b : List ℕ) (differ : Bool) → differ ≡ not (is_text a b) → differ ≡ true → a ≢ b
told_apart a b differ is apart =
    ⊎_elim
    (λ (same : is_text a b ≡ true).
    let clash : true ≡ false = sym apart ∙ is ∙ ap not same in absurd (cc))
    (λ (other : is_text a b ≡ false). text_apart a b other)
    (cases_Bool (is_text a b))

pub told_same : (a b : List ℕ) (differ : Bool) → differ ≡ not (is_text a b) → differ ≡ false → a ≡ b
told_same a b differ is alike =
    ⊎_elim
    (λ (same : is_text a b ≡ true). text_same a b same)
    (λ (other : is_text a b ≡ false).
    let clash : false ≡ true = sym alike ∙ is ∙ ap not other in absurd (cc))
    (cases_Bool (is_text a b))

-- a text without a first record, and one whose first record isn't the heading
pub unread_heading : (text : List ℕ) (old new : Reader (Bor (List ℕ))) (fields : List (List ℕ)) → StandsBehind text [] old → ReadRecord left_of old new false fields → Begins text (sheet_heading ∷ []) → ⊥
unfolding Reached
unread_heading text old new fields behind read =
    let ended = rows-end left_of old new fields default_config behind.ahead behind.config behind.source read in
    no_heading text ((λ i. next_record default_config (behind.reached.0 i) [] [] (behind.reached.1 i)) ∙ ended)

pub wrong_heading : (text : List ℕ) (old new : Reader (Bor (List ℕ))) (fields : List (List ℕ)) → StandsBehind text [] old → ReadRecord left_of old new true fields → (fields ≡ sheet_heading → ⊥)
    → Begins text (sheet_heading ∷ []) → ⊥
wrong_heading text old new fields behind read other =
    let more = rows-more left_of old new fields default_config st.StartRecord (strip_bom text) behind.ahead [] behind.config behind.source behind.reached read in
    other_heading text fields new.state more.0 more.2 other
