use Rattle.std.proofs.Common.{Bor, Bool, Vec, Global, ◌∙◌, sym, ap, map}
use Rattle.std.specs.Prelude.{not}
use Rattle.std.proofs.lemmas.List.{map_push}
use Rattle.gl_series.specs.declared.day.DayRow.{DayRow}
use Rattle.gl_series.specs.Code.Tallies.{days_of, is_in_days}
use Rattle.gl_series.proofs.LastRows.{one_kept, one_left}
use Rattle.gl_series.proofs.pilots.push_last.Goals as goal
use Rattle.gl_series.proofs.pilots.push_last.Goals.{then-not-is_in_days+in_ok-push, else-not-is_in_days}

pub loop-row-preserved : goal.loop-row-preserved
loop-row-preserved c =
    let later = days_of c.args.later.now in
    let keeps : DayRow → Bool = λ row. not (is_in_days row.number later) in
    let now : Bor DayRow → DayRow = λ row. row.now in
    let before = map now c.args.rows.now.items in
    let some = map now c.loop-row.rows.items in
    let day = c.args.day.now in
    let row = c.row-item.result in
    let seen = λ (rows : Vec (Bor DayRow) Global). map now rows.items in
    elim c.if-not-is_in_days.branch [
      | then-not-is_in_days+in_ok-push w ↦ one_kept keeps before some _ day c.loop-row.row-index row c.loop-row-test.true c.row-item.is (ap not (sym c.is_in_days.ensures ∙ w.if-not-is_in_days.true)) c.loop-row.invariant
          (ap seen w.rows-is ∙ ap (map now) w.in_ok-push.ensures.items ∙ map_push now c.loop-row.rows.items _)
      | else-not-is_in_days w ↦ ap seen w.rows-is
          ∙ one_left keeps before some day c.loop-row.row-index row c.loop-row-test.true c.row-item.is (ap not (sym c.is_in_days.ensures ∙ w.if-not-is_in_days.false)) c.loop-row.invariant
    ]
