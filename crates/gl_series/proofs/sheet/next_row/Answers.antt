use Rattle.std.proofs.Common.{sym, subst, ◌∙◌, ◌++◌, ◌∷◌, []}
use Rattle.std.proofs.lemmas.Bool.{false≢true}
use Rattle.csv.specs.Records.{fields_of}
use Rattle.gl_series.specs.declared.day.DayRow.{DayRow}
use Rattle.gl_series.specs.SheetText.{IsRowOf}
use Rattle.gl_series.specs.Totals.{IsDay}
use Rattle.gl_series.proofs.Sheets.{row_unique}
use Rattle.gl_series.proofs.sheet.next_row.Goals as goal

pub returns-then-not-fits : goal.returns-then-not-fits
returns-then-not-fits c = λ row next.
    let fields = fields_of c.args.columns.now in
    let read : IsRowOf fields c.in-Some.row = rw c.in-Some.is at c.in_ok-row.ensures in
    let same = row_unique fields row c.in-Some.row next.is_row read in
    let fit = subst (λ (r : DayRow). IsDay (c.args.rows.now ++ r ∷ [])) same next.fits in
    absurd (false≢true (sym c.if-not-fits.true ∙ c.fits.ensures.1 fit))
