use Rattle.std.proofs.Common.{◌≡◌, subst, [], ◌∷◌, ◌++◌}
use Rattle.std.proofs.lemmas.Result.{on_ok_weaker}
use Rattle.gl_sheet.specs.declared.row.Row.{Row}
use Rattle.gl_why.specs.declared.fact.Fact.TheVariants.{Scored}
use Rattle.gl_why.proofs.ResultLemmas.{points_told}
use Rattle.gl_why.proofs.results.tell_points.Goals as goal

pub returns : goal.returns
returns c =
    on_ok_weaker c.tell_row.result
    (λ told. points_told c.args.day.now c.args.entrant.now c.args.flight.now _ _ _ c.in_ok-tell_earning.ensures
    (subst (λ (row : Row). c.tell_row.new.lines ≡ c.tell_earning.new.lines ++ Scored c.args.entrant.now.number row ∷ []) c.row_of-row.ensures told))
    c.tell_row.ensures
