-- The days of the years 2000 to 2099 by their numbers.
use Rattle.std.proofs.Common.{◌≡◌, refl, ℕ, ◌≤◌, Bool, true, false, cond, Option, None, Some, ℤ, pos, arith, subst, sym}
use Rattle.std.specs.Prelude.{IfSome, ◌≤ℤ◌}
use Rattle.std.proofs.lemmas.Int.{ints}
use Rattle.jiff_core.specs.Calendar.{IsDate, IsCivilDate, days_from_civil, day_count, days_of_years, days_of_months}
use Rattle.jiff_core.proofs.CalendarLemmas.{days_from_civil-day_count, day_count-lt_year}
use Rattle.jiff_core.proofs.SignedLemmas.{signed_arith}
use Rattle.gl_igc.specs.Dates.{day_number, is_in_calendar}
use Rattle.gl_igc.proofs.Calendar.{calendar_decides}
use Rattle.gl_task.specs.Limits.{first_day, last_day}

-- the day before the first and the day behind the last
before_first : day_count (pos 1999) 12 31 ≡ 4_382_909
unfolding day_count days_of_years days_of_months
before_first = refl

behind_last : day_count (pos 2100) 1 1 ≡ 4_419_435
unfolding day_count days_of_years days_of_months
behind_last = refl

civil_range : (year month day : ℕ) → 2_000 ≤ year → year ≤ 2_099 → IsDate (pos year) (pos month) (pos day)
    → (pos first_day ≤ℤ days_from_civil (pos year) month day) × (days_from_civil (pos year) month day ≤ℤ pos last_day)
civil_range year month day from to date =
    let count = days_from_civil-day_count (pos year) month day in
    let civil : IsCivilDate (pos year) month day = (date.0, (omega (arith, ints, date.1.0), omega (arith, ints, date.1.1)), (omega (arith, ints, date.2.0), omega (arith, ints, date.2.1))) in
    let eve : IsCivilDate (pos 1999) 12 31 = ((omega (arith, ints), omega (arith, ints)), (omega arith, omega arith), (omega arith, omega arith)) in
    let below = day_count-lt_year (pos 1999) 12 31 (pos year) month day eve (omega (arith, ints, date.2.0)) (omega (arith, ints)) in
    let above = day_count-lt_year (pos year) month day (pos 2100) 1 1 civil (omega arith) (omega (arith, ints)) in
    (omega (arith, signed_arith, count, below, before_first), omega (arith, signed_arith, count, above, behind_last))

pub recent_range : (year month day : ℕ) (number : Option ℤ) → 2_000 ≤ year → year ≤ 2_099 → number ≡ day_number year month day → IfSome number (λ n. (pos first_day ≤ℤ n) × (n ≤ℤ pos last_day))
unfolding day_number
recent_range year month day number from to is =
    subst (λ (o : Option ℤ). IfSome o (λ n. (pos first_day ≤ℤ n) × (n ≤ℤ pos last_day))) (sym is) (by_test (is_in_calendar year month day) refl)
  where
    by_test : (b : Bool) → is_in_calendar year month day ≡ b → IfSome (cond b (Some (days_from_civil (pos year) month day)) None) (λ n. (pos first_day ≤ℤ n) × (n ≤ℤ pos last_day))
    by_test true there = civil_range year month day from to ((calendar_decides year month day (omega arith)).0 there)
    by_test false other = tt
