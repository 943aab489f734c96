use Rattle.std.proofs.Common.{◌∙◌, sym, subst}
use Rattle.std.proofs.lemmas.Bool.{false≢true}
use Rattle.gl_series.specs.declared.entry.Entry.{Entry}
use Rattle.gl_series.specs.Code.Adding.{with_entry}
use Rattle.gl_series.specs.SeriesList.{IsLineOf, IsSeries}
use Rattle.gl_series.proofs.Lines.{line_unique}
use Rattle.gl_series.proofs.list.next_entry.Goals as goal

pub returns-then-not-fits : goal.returns-then-not-fits
returns-then-not-fits c = λ entry next.
    let line = c.args.line.now in
    let read : IsLineOf line c.in-Some.entry = rw c.in-Some.is at c.in_ok-entry.ensures in
    let same = line_unique line entry c.in-Some.entry next.is_line read in
    let fit = subst (λ (e : Entry). IsSeries (with_entry c.args.days.now c.args.teams.now e)) same next.fits in
    absurd (false≢true (sym c.if-not-fits.true ∙ c.fits.ensures.1 fit))
