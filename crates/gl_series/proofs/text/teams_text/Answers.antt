use Rattle.std.proofs.Common.{sym, ap, ◌∙◌, ℕ, List, ◌++◌}
use Rattle.csv.specs.Writing.{default_writer, row_text}
use Rattle.gl_series.specs.StandingText.{team_fields, team_heading}
use Rattle.gl_series.proofs.Texts.{text_more}
use Rattle.gl_series.proofs.text.teams_text.Goals as goal

pub loop-team-preserved : goal.loop-team-preserved
loop-team-preserved c =
    let team = c.team-item.result in
    let piece = row_text default_writer (team_fields team) in
    c.in_ok-push_record.ensures
    ∙ ap (λ (fields : List (List ℕ)). c.loop-team.text.items ++ row_text default_writer fields) c.in_ok-team_record.ensures
    ∙ ap (λ (bytes : List ℕ). bytes ++ piece) c.loop-team.invariant
    ∙ sym (text_more team_heading team_fields c.args.teams.now c.loop-team.team-index team c.loop-team-test.true c.team-item.is)
