-- The calendar's test of a day against the library's.
use Rattle.std.proofs.Common.{◌≡◌, sym, ℕ, ◌<◌, ◌≤◌, Bool, true, false, cond, Option, None, Some, ℤ, pos, arith, refl, Decides, leb}
use Rattle.std.specs.Option.{IsNone}
use Rattle.std.proofs.lemmas.Int.{ints}
use Rattle.std.proofs.lemmas.Bool.{false≢true}
use Rattle.std.proofs.lemmas.Bool.Decides.{Decides-and, nat_tests, not_from_Decides}
use Rattle.jiff_core.specs.Calendar.{IsDate, days_in_month, days_from_civil}
use Rattle.gl_igc.specs.Dates.{is_in_calendar, day_number}

decides_le : (a b : ℕ) → Decides (leb a b) (a ≤ b)
decides_le a b = (λ yes. grind (arith, nat_tests), λ below. grind (arith, nat_tests))

-- the four tests say what the library's condition says
pub calendar_decides : (year month day : ℕ) → year < 2_100 → Decides (is_in_calendar year month day) (IsDate (pos year) (pos month) (pos day))
unfolding is_in_calendar
calendar_decides year month day recent =
    let tests = Decides-and _ _ (Decides-and _ _ (Decides-and _ _ (decides_le 1 month) (decides_le month 12)) (decides_le 1 day)) (decides_le day (days_in_month (pos year) month)) in (
      λ yes.
          let all = tests.0 yes in
          let a = all.0.0.0 in let b = all.0.0.1 in let d = all.0.1 in let e = all.1 in
          ((omega (arith, ints), omega (arith, ints)), (omega (arith, ints), omega (arith, ints)), (omega (arith, ints), omega (arith, ints))),
      λ date.
          let low = date.1.0 in let high = date.1.1 in let from = date.2.0 in let to = date.2.1 in
          tests.1 (((omega (arith, ints), omega (arith, ints)), omega (arith, ints)), omega (arith, ints)),
    )

none_is : {X : Type 0} (o : Option X) → IsNone o → o ≡ None
none_is None is = refl
none_is (Some x) is = absurd (false≢true (sym is))

-- an answer by the library's condition is the day's number
pub day_number_is : (year month day : ℕ) (answer : Option ℤ) → year < 2_100 → (IsDate (pos year) (pos month) (pos day) → answer ≡ Some (days_from_civil (pos year) month day))
    → ((IsDate (pos year) (pos month) (pos day) → ⊥) → IsNone answer) → answer ≡ day_number year month day
unfolding day_number
day_number_is year month day answer recent some none = by_test (is_in_calendar year month day) refl
  where
    by_test : (b : Bool) → is_in_calendar year month day ≡ b → answer ≡ cond b (Some (days_from_civil (pos year) month day)) None
    by_test true is = some ((calendar_decides year month day recent).0 is)
    by_test false is = none_is answer (none (not_from_Decides _ (calendar_decides year month day recent) is))
