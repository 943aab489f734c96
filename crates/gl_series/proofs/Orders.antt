-- The orders of pilots and of teams.
use Rattle.std.proofs.Common.{ℕ, List}
use Rattle.std.specs.Cmp.{IsTotalOrder, then_total, back_total, on_total, nat_cmp_total}
use Rattle.std.specs.Cmp.Lexicographic.{on_texts}
use Rattle.gl_series.specs.declared.standing.TeamTotal.{TeamTotal}
use Rattle.gl_series.specs.declared.standing.Total.{Total}
use Rattle.gl_series.specs.Totals.{pilot_cmp, team_cmp}

pub pilot_cmp_total : IsTotalOrder pilot_cmp
pilot_cmp_total =
    let total : Total → ℕ = λ pilot. pilot.total in
    let number : Total → List ℕ = λ pilot. pilot.number in
    then_total (back_total (on_total total nat_cmp_total)) (on_texts number)

pub team_cmp_total : IsTotalOrder team_cmp
team_cmp_total =
    let total : TeamTotal → ℕ = λ team. team.total in
    let name : TeamTotal → List ℕ = λ team. team.team in
    then_total (back_total (on_total total nat_cmp_total)) (on_texts name)
