use Rattle.std.proofs.Common.{◌≢◌, ℕ, List, map}
use Rattle.std.proofs.lemmas.List.Elements.{All-map}
use Rattle.gl_series.specs.declared.day.DayRow.{DayRow}
use Rattle.gl_series.proofs.Sheets.{row_fits, row_room}
use Rattle.gl_series.proofs.sheet.fits.Goals as goal
use Rattle.gl_text.proofs.Lists.{All-unmap}

pub returns-then-rows-lt-MOST_ROWS : goal.returns-then-rows-lt-MOST_ROWS
returns-then-rows-lt-MOST_ROWS c =
    let rows = c.args.rows.now in
    let row = c.args.row.now in
    let number : DayRow → List ℕ = λ other. other.number in
    let apart : List ℕ → Type 0 = λ other. other ≢ row.number in
    let new = c.is_new.ensures (map number rows) c.requires.kept in
    (λ is. row_fits rows row c.requires.day c.requires.low c.if-rows-lt-MOST_ROWS.true (All-unmap apart number rows (new.0 is)), λ fit. new.1 (All-map apart number rows (row_room rows row fit).1))
