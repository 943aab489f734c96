-- What contracts see of a seat.
use Rattle.std.specs.Prelude.{◌≡◌, ℕ, zero, suc, ◌<◌, Option, None, Some}
use Rattle.gl_best.specs.declared.rule.View.{View}
use Rattle.gl_best.specs.declared.word.BestWord.{BestWord}
use Rattle.gl_best.specs.declared.word.Seat.{Seat}
use Rattle.gl_best.specs.Rule.{times}

-- what the seat knows
abbrev pub view_of : Seat → View
view_of seat = seat.seat.me.0

-- the seat is one of this word's
abbrev pub IsSeatOf : BestWord → Seat → Type 0
IsSeatOf word seat = seat.seat.table_id ≡ word.table.shared.table_id

-- the total that a word says: none for 0, else one less
abbrev pub total_of : ℕ → Option ℕ
total_of zero = None
total_of (suc total) = Some total

-- each number below 16 stands with the seat
abbrev pub HasAll : Seat → Type 0
HasAll seat = (number : ℕ) → number < 16 → 0 < times number (view_of seat).numbers
