-- What a seat has seen only grows, and what was closed stays closed.
use Rattle.std.proofs.Common.{◌≡◌, ◌∙◌, refl, ℕ, zero, suc, ◌+◌, ◌<◌, ◌≤◌, max, arith}
use Rattle.std.specs.Prelude.{List, Option, Some, None}
use Rattle.std.proofs.lemmas.List.Elements.{All-weaker}
use Rattle.gl_box.specs.declared.closed.Why.{Why}
use Rattle.gl_box.specs.declared.closed.Why.TheVariants.{Disordered, Shut, Bound}
use Rattle.gl_box.specs.Tuple.{places_of}
use Rattle.gl_goal.specs.Goal.{Goal, IsReached}
use Rattle.gl_goal.specs.Certificate.{IsClosedFor}
use Rattle.gl_goal.specs.declared.best.Best.{Best}
use Rattle.gl_best.specs.declared.rule.View.{View}
use Rattle.gl_best.specs.declared.word.BestWord.{BestWord}
use Rattle.gl_best.specs.declared.word.Seat.{Seat}
use Rattle.gl_best.specs.Seats.{IsSeatOf, total_of, view_of}
use Rattle.gl_pool.specs.Kept.{AreClosedFor, IsKept, KeepsSeat, seen_by}

-- what is closed for what a word says is closed for one that is no less
pub closed_longer : (rule : Goal) (old new : ℕ) (cell : List (ℕ × ℕ)) (why : Why) → old ≤ new → IsClosedFor rule (total_of old) cell why → IsClosedFor rule (total_of new) cell why
closed_longer rule old new cell Disordered more closed = closed
closed_longer rule old new cell Shut more closed = closed
closed_longer rule zero new cell Bound more closed = absurd closed
closed_longer rule (suc old) zero cell Bound more closed = absurd (omega arith)
closed_longer rule (suc old) (suc new) cell Bound more closed = omega arith

pub all_closed_longer : (rule : Goal) (before after : Seat) (closed : List (List (ℕ × ℕ) × Why)) → (view_of before).seen ≤ (view_of after).seen → AreClosedFor rule before closed
    → AreClosedFor rule after closed
all_closed_longer rule before after closed more all =
    All-weaker (λ (b : List (ℕ × ℕ) × Why). IsClosedFor rule (seen_by before) b.0 b.1) (λ (b : List (ℕ × ℕ) × Why). IsClosedFor rule (seen_by after) b.0 b.1)
    (λ b. closed_longer rule (view_of before).seen (view_of after).seen b.0 b.1 more) closed all

-- what is above all that a word says is above what one says that is no greater
pub above_before : (old new limit : ℕ) → old ≤ new → ((total : ℕ) → total_of new ≡ Some total → total < limit) → (total : ℕ) → total_of old ≡ Some total → total < limit
above_before zero new limit more above total is = absurd (cc)
above_before (suc old) zero limit more above total is = absurd (omega arith)
above_before (suc old) (suc new) limit more above total is =
    let same : old ≡ total = cc in
    omega (arith, above new refl)

-- the word itself is no greater than what is above it
pub word_below : (word limit : ℕ) → ((total : ℕ) → total_of word ≡ Some total → total < limit) → word ≤ limit
word_below zero limit above = omega arith
word_below (suc word) limit above = omega (arith, above word refl)

pub keeps_on : (word : BestWord) (one two three : Seat) → KeepsSeat word one two → IsSeatOf word three → (view_of three).numbers ≡ (view_of two).numbers → (view_of two).seen ≤ (view_of three).seen
    → KeepsSeat word one three
keeps_on word one two three first is numbers more = record { is_seat = is; numbers = numbers ∙ first.numbers; no_less = omega (arith, first.no_less) }

-- what was kept stays so where no more is raised
pub kept_on : (rule : Goal) (one two three : View) (best : Option Best) → three.raised ≡ two.raised → IsKept rule one two best → IsKept rule one three best
kept_on rule one two three None same kept = same ∙ kept
kept_on rule one two three (Some best) same kept = (kept.0, same ∙ kept.1, omega (arith, kept.2, same))

-- a total above what was seen is kept and raised
pub kept_new : (rule : Goal) (one two three : View) (best : Best) → IsReached rule best.total (places_of best.tuple) → one.seen ≤ two.seen → two.raised ≤ two.seen → two.seen ≤ best.total
    → three.raised ≡ max two.raised (best.total + 1) → IsKept rule one three (Some best)
kept_new rule one two three best reached more raised above is = (reached, omega arith, omega arith)

-- a cell is closed by its bound for a word that was raised to it
pub closed_by_word : (rule : Goal) (word : ℕ) (cell : List (ℕ × ℕ)) (bound : ℕ) → bound + 1 ≤ word → rule.bound cell ≡ bound → IsClosedFor rule (total_of word) cell Bound
closed_by_word rule zero cell bound raised is = absurd (omega arith)
closed_by_word rule (suc word) cell bound raised is = omega arith
