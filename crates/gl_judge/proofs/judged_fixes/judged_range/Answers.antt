use Rattle.std.proofs.Common.{◌≡◌, ◌∙◌, sym, ap, subst, ◌+◌, ◌-◌, max, List, take, drop, pos, ℤ, ◌≤ℤ◌, arith, length, map, FitsSigned, w32, rules}
use Rattle.std.specs.Prelude.{IsTrue, unwrap_or, position, int_lt}
use Rattle.std.proofs.lemmas.Int.{ints, to_z-of_z}
use Rattle.gl_airspace.specs.Inside.{fixes_before_airspace}
use Rattle.gl_igc.specs.declared.fix.Fix.{Fix}
use Rattle.gl_igc.specs.Seconds.{is_rising}
use Rattle.gl_judge.specs.JudgedFixes.{IsJudgedRange, first_of_day}
use Rattle.gl_judge.proofs.Ranges.{range-is}
use Rattle.gl_judge.proofs.judged_fixes.judged_range.Goals as goal

of_day : (second : ℤ) → pos 1 ≤ℤ second → pos 0 ≤ℤ second
of_day second first = omega (arith, ints)

pub returns-clause-range : goal.returns-clause-range
returns-clause-range c =
    let fits : FitsSigned w32 c.args.task.now.closes = search rules in
    let rising : IsTrue (is_rising (map (λ fix. fix.second) c.as_slice-fixes.result.now)) =
    subst (λ (list : List Fix). IsTrue (is_rising (map (λ fix. fix.second) list))) (sym c.as_slice-fixes.ensures) c.args.rec.now.rising in
    let to_is : c.unwrap_or-from.result + c.cut.result ≡ c.unwrap_or-from.result + fixes_before_airspace c.args.air.now.volumes
    (take (max c.unwrap_or-end.result c.unwrap_or-from.result - c.unwrap_or-from.result) (drop c.unwrap_or-from.result c.as_slice-fixes.result.now)) =
    ap (λ n. c.unwrap_or-from.result + n) (c.cut.ensures ∙ ap (λ m. fixes_before_airspace c.args.air.now.volumes
    (take (m - c.unwrap_or-from.result) (drop c.unwrap_or-from.result c.as_slice-fixes.result.now))) c.max.ensures) in
    subst (λ (list : List Fix). IsJudgedRange c.args.task.now.closes c.args.air.now.volumes list (record { from = c.unwrap_or-from.result; to = c.unwrap_or-from.result + c.cut.result }))
    c.as_slice-fixes.ensures
    (range-is c.args.task.now.closes c.args.air.now.volumes c.as_slice-fixes.result.now c.unwrap_or-from.result c.unwrap_or-end.result (c.unwrap_or-from.result + c.cut.result) rising
    (of_day c.args.task.now.closes c.args.task.now.closes_at_least)
    (c.unwrap_or-from.ensures ∙ ap (λ o. unwrap_or o (length c.as_slice-fixes.result.now)) c.first_of_day.ensures)
    (c.unwrap_or-end.ensures ∙ ap (λ o. unwrap_or o (length c.as_slice-fixes.result.now)) c.first_too_late.ensures
    ∙ ap (λ z. unwrap_or (position (λ (fix : Fix). int_lt z fix.second) c.as_slice-fixes.result.now) (length c.as_slice-fixes.result.now)) (to_z-of_z w32 c.args.task.now.closes fits))
    to_is)

pub returns-clause-first : goal.returns-clause-first
returns-clause-first c =
    c.unwrap_or-from.ensures
    ∙ ap (λ o. unwrap_or o (length c.as_slice-fixes.result.now)) c.first_of_day.ensures
    ∙ ap (λ (list : List Fix). first_of_day list) c.as_slice-fixes.ensures
