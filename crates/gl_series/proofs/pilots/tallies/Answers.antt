use Rattle.std.proofs.Common.{Bor, ◌∙◌, ap, subst, List, map}
use Rattle.std.proofs.lemmas.Result.{IfOk-weaker}
use Rattle.gl_series.specs.declared.day.DayRow.{DayRow}
use Rattle.gl_series.specs.declared.ordered.Ordered.{Ordered}
use Rattle.gl_series.specs.Code.Tallies.{AreTotals, days_of, last_rows}
use Rattle.gl_series.proofs.Tallied.{tallies_all}
use Rattle.gl_series.proofs.pilots.tallies.Goals as goal

pub returns : goal.returns
returns c =
    let days = c.args.days.now in
    let ordered = c.in_ok-ordered.ordered.items in
    let rows = c.in_ok-rows.rows.items in
    let now : Bor DayRow → DayRow = λ row. row.now in
    IfOk-weaker c.tallies_of.result _ _ (λ tallies totals.
    let of_days = subst (λ (l : List Ordered). AreTotals (days_of l) (map now c.deref-3.result.now) c.args.drop tallies.items) c.deref-2.ensures.value totals in
    let of_rows = subst (λ (l : List (Bor DayRow)). AreTotals (days_of ordered) (map now l) c.args.drop tallies.items) c.deref-3.ensures.value of_days in
    tallies_all days ordered (map now rows) c.args.drop tallies.items c.requires c.in_ok-ordered.ensures (c.in_ok-rows.ensures
    ∙ ap (λ (l : List Ordered). last_rows (days_of l)) c.deref.ensures.value) of_rows) c.tallies_of.ensures
