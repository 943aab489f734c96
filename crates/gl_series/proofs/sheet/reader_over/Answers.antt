use Rattle.std.proofs.Common.{◌≡◌, ◌∙◌, inr}
use Rattle.csv.specs.Reading.{Ready, default_config}
use Rattle.csv.specs.declared.reader.Trim.TheVariants as trim
use Rattle.gl_series.proofs.Sheets.{at_start}
use Rattle.gl_series.proofs.sheet.reader_over.Goals as goal

pub returns-clause-start : goal.returns-clause-start
returns-clause-start c =
    let made = c.from_reader.ensures in
    let reader = c.from_reader.result in
    let plain : reader.trim ≡ trim.None = rw (c.flexible.ensures, c.has_headers.ensures) at made.trim ∙ c.new.ensures.trim in
    let ready : Ready reader = inr (inr (rw (c.flexible.ensures, c.has_headers.ensures) at made.has_headers, made.headers)) in
    let config : reader.config ≡ default_config = rw (c.flexible.ensures, c.has_headers.ensures) at made.config ∙ c.new.ensures.config in
    at_start c.args.text.now reader plain ready config made.source made.state
