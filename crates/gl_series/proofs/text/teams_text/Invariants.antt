use Rattle.std.proofs.Common.{◌≡◌, ◌∷◌, map, take}
use Rattle.gl_series.specs.StandingText.{records_text, team_fields, team_heading}
use Rattle.gl_series.proofs.text.teams_text.Given as goal

abbrev pub invariant-loop-team : goal.invariant-loop-team
invariant-loop-team l =
    l.text.items ≡ records_text (team_heading ∷ map team_fields (take l.team-index l.teams))
