use Rattle.std.proofs.Common.{subst, List, Option, Ok, Err}
use Rattle.std.proofs.lemmas.Result.{IfOk-weaker}
use Rattle.gl_desk.specs.Desk.{FilesByName}
use Rattle.gl_series.specs.declared.day.DaySheet.{DaySheet}
use Rattle.gl_words.specs.SeriesWords.{series_seen}
use Rattle.gl_answer.specs.FileTests.{HasTested}
use Rattle.gl_flights.specs.SeriesFiles.{AreSeriesRead, IsSeriesSeen, series_tests}
use Rattle.gl_answer.specs.declared.status.Status.TheVariants.{Done}
use Rattle.gl_answer.specs.Answer.{saying}
use Rattle.gl_answer.proofs.Answered.{done_right, done_stopped, halt_answered, only_read}
use Rattle.gl_flights.specs.Series.{IsAddedUp, IsSeries, IsStandingText}
use Rattle.gl_flights.proofs.SeriesLaws.{series_answered}
use Rattle.gl_flights.proofs.series.series.Goals as goal

pub returns-in-Ok-clause-right : goal.returns-in-Ok-clause-right
returns-in-Ok-clause-right g c =
    let words = series_seen c.args.words in
    let folder = (g.D.Desk.told c.args.desk.now).folder in
    let series = c.in-Ok.series in
    let sheets = c.in-Ok.sheets in
    let tested = subst (λ (f : Option FilesByName). HasTested (IsSeriesSeen words f) (series_tests words) AreSeriesRead (Ok (series, sheets))) c.in_ok-names.ensures.reads.folder
    c.in-Ok.ensures.tested in
    done_right (IsSeries folder words) c.text_of_standing.result c.done.result c.done.ensures
    (IfOk-weaker c.text_of_standing.result _ (λ text. IsSeries folder words (saying Done text.items))
    (λ text is. series_answered folder words series sheets text.items tested (subst (λ (l : List DaySheet). IsStandingText series l words.left_out text.items) c.deref-in-Ok.ensures.value is))
    c.text_of_standing.ensures)

pub returns-in-Ok-clause-reads : goal.returns-in-Ok-clause-reads
returns-in-Ok-clause-reads g c =
    only_read (g.D.Desk.told c.args.desk.now) (g.D.Desk.told c.names.new.self) (g.D.Desk.told c.test_series_files.new.desk) c.done.result c.in_ok-names.ensures.reads c.in-Ok.ensures.reads
    (done_stopped c.text_of_standing.result c.done.result c.done.ensures)

pub returns-clause-right : goal.returns-clause-right
returns-clause-right g c =
    let words = series_seen c.args.words in
    let folder = (g.D.Desk.told c.args.desk.now).folder in
    let tested = subst (λ (f : Option FilesByName). HasTested (IsSeriesSeen words f) (series_tests words) AreSeriesRead (Err c.in-Err.halt)) c.in_ok-names.ensures.reads.folder c.in-Err.ensures.tested
    in
    halt_answered (IsSeriesSeen words folder) (series_tests words) AreSeriesRead (IsAddedUp words) c.in-Err.halt c.answer_halt.result tested c.answer_halt.ensures
