use Rattle.std.proofs.Common.{sym, ap, ◌∙◌, ℕ, List, ◌++◌}
use Rattle.csv.specs.Writing.{default_writer, row_text}
use Rattle.gl_series.specs.StandingText.{pilot_fields, pilot_heading}
use Rattle.gl_series.proofs.Texts.{text_more}
use Rattle.gl_series.proofs.text.pilots_text.Goals as goal

pub loop-pilot-preserved : goal.loop-pilot-preserved
loop-pilot-preserved c =
    let pilot = c.pilot-item.result in
    let piece = row_text default_writer (pilot_fields pilot) in
    c.in_ok-push_record.ensures
    ∙ ap (λ (fields : List (List ℕ)). c.loop-pilot.text.items ++ row_text default_writer fields) c.in_ok-pilot_record.ensures
    ∙ ap (λ (bytes : List ℕ). bytes ++ piece) c.loop-pilot.invariant
    ∙ sym (text_more pilot_heading pilot_fields c.args.pilots.now c.loop-pilot.pilot-index pilot c.loop-pilot-test.true c.pilot-item.is)
