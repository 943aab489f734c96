-- What lists, sheets and standings are like, beside their rules.
use Rattle.std.specs.Prelude.{◌≡◌, ◌≢◌, ℕ, List}
use Rattle.gl_series.specs.declared.day.DaySheet.{DaySheet}
use Rattle.gl_series.specs.declared.series.Series.{Series}
use Rattle.gl_series.specs.declared.standing.Standing.{Standing}
use Rattle.gl_series.specs.Totals.{AreDays, IsStanding}

-- A text is that of one value, or it is refused for one reason, and never both; want of memory
-- says nothing of the text.
pub record HasOneReading {Value Error : Type 0} (Is : List ℕ → Value → Type 0)
    (Refused : List ℕ → Error → Type 0) (memory : Error) : Type 0 where
  pub one : (text : List ℕ) (a b : Value) → Is text a → Is text b → a ≡ b
  pub never_both : (text : List ℕ) (value : Value) (error : Error) → error ≢ memory
      → Is text value → Refused text error → ⊥
  pub one_reason : (text : List ℕ) (a b : Error) → a ≢ memory → b ≢ memory
      → Refused text a → Refused text b → a ≡ b

-- A list and the sheets of its days have one standing: two that are both theirs are one.
abbrev pub HasOneStanding : Type 0
HasOneStanding =
    (series : Series) (days : List DaySheet) (drop : ℕ) (one other : Standing)
    → AreDays days → IsStanding series days drop one → IsStanding series days drop other
    → one ≡ other
