use Rattle.std.proofs.Common.{sym, ap, ◌∙◌, List, [], ◌∷◌, ◌++◌, map, get_or, arith}
use Rattle.std.specs.List.{zip}
use Rattle.std.proofs.lemmas.List.{map-append, take_all}
use Rattle.std.proofs.lemmas.Slice.Zip.{length-zip}
use Rattle.gl_task.specs.declared.task.Entrant.{Entrant}
use Rattle.gl_sheet.specs.declared.row.Row.{Row}
use Rattle.gl_sheet.specs.declared.row.Outcome.TheVariants.{Finished}
use Rattle.gl_sheet.specs.declared.row.Listed.TheVariants.{Unasked}
use Rattle.gl_sheet.specs.Code.Line.{line_of}
use Rattle.gl_sheet.proofs.Standing.{gathered_more}
use Rattle.gl_sheet.proofs.line.gathered.Goals as goal

pub loop-i-preserved : goal.loop-i-preserved
loop-i-preserved c =
    let entrants = c.args.entrants.now in
    let rows = c.args.rows.now in
    let i = c.loop-i.i in
    let nobody : Row = record { outcome = Finished; metres = 0; seconds = 0; penalty = 0; points = 0; free = Unasked; triangle = Unasked } in
    let pair : Entrant × Row = (c.index-entrants-i.result, get_or rows i nobody) in
    ap (map line_of) c.in_ok-push.ensures.items
    ∙ map-append line_of c.loop-i.lines.items (_ ∷ [])
    ∙ ap (λ (front : List (Entrant × Row)). front ++ (pair ∷ [])) c.loop-i.invariant
    ∙ sym (gathered_more entrants rows i c.index-entrants-i.result nobody c.loop-i-test.true c.requires c.index-entrants-i.is)

pub returns : goal.returns
returns c =
    let entrants = c.args.entrants.now in
    let rows = c.args.rows.now in
    c.loop-i.invariant ∙ take_all c.loop-i.i (zip entrants rows) (omega (arith, length-zip entrants rows))
