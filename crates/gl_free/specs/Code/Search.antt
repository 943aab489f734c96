-- A search for a better choice of five fixes: from the middle fix two arms, to the first fix and to
-- the last one.
use Rattle.std.specs.Prelude.{◌≡◌, ℕ, ◌+◌, ◌-◌, ◌<◌, ◌≤◌, ◌^◌, ◌⊎◌, ℤ, ◌-ℤ◌, ◌<ℤ◌, List, length, take, Option, MatchOption, None, Some}
use Rattle.gl_igc.specs.declared.fix.Fix.{Fix}
use Rattle.gl_box.specs.Tuple.{places_of}
use Rattle.gl_goal.specs.Near.{IsPlaceOf}
use Rattle.gl_goal.specs.Goal.{Goal, IsReached}
use Rattle.gl_goal.specs.declared.best.Best.{Best}
use Rattle.gl_free.specs.Code.Arms.{IsArm, IsTop, arm_length}
use Rattle.gl_free.specs.Code.Candidates.{IsAmong, IsFlank, IsPart}
use Rattle.gl_free.specs.Code.Ends.{IsAllowed}
use Rattle.gl_free.specs.Code.Places.{altitude_at}
use Rattle.gl_free.specs.declared.arm.Arms.{Arms}
use Rattle.gl_free.specs.declared.arm.Part.{Part}
use Rattle.gl_free.specs.declared.candidate.Candidate.{Candidate}
use Rattle.gl_free.specs.declared.ends.Sides.{Sides}
use Rattle.gl_free.specs.declared.pair.Pair.{Pair}
use Rattle.gl_free.specs.declared.search.Search.{Search}
use Rattle.gl_free.specs.declared.side.Side.TheVariants.{Before, After}
use Rattle.gl_free.specs.declared.stop.Stop.{Stop}
use Rattle.gl_free.specs.declared.stop.Stop.TheVariants.{Done, GivenUp, Low}

-- the ends of one side come before the middle, and those of the other after it
pub record AreSides (sides : Sides) : Type 0 where
  pub before : sides.before.side ≡ Before
  pub after : sides.after.side ≡ After

-- what was found is a legal choice and its value
pub record IsValid (goal : Goal) (best : Best) : Type 0 where
  pub reached : IsReached goal best.total (places_of best.tuple)
  pub limited : best.total < 2 ^ 63

-- what is kept of both sides is true
pub record AreFlanks (fixes : List Fix) (search : Search) : Type 0 where
  pub before : IsFlank fixes search.before
  pub after : IsFlank fixes search.after

-- a choice with its middle fix in a span that is worth more than what was found, if its last fix
-- isn't too low
pub record IsBetter (fixes : List Fix) (sides : Sides) (middle : ℕ × ℕ) (found : ℕ) : Type 0 where
  pub first : ℕ
  pub second : ℕ
  pub third : ℕ
  pub fourth : ℕ
  pub last : ℕ
  pub third_in : IsPlaceOf middle third
  pub before : IsArm fixes sides.before third second first
  pub after : IsArm fixes sides.after third fourth last
  pub more : found < arm_length fixes third second first + arm_length fixes third fourth last

-- two arms are shorter than what is said of each
abbrev pub AreBelow : List Fix → Sides → ℕ × ℕ → ℕ → ℕ → ℕ → Type 0
AreBelow fixes sides middle found before after =
    (better : IsBetter fixes sides middle found)
    → (arm_length fixes better.third better.second better.first < before)
    × (arm_length fixes better.third better.fourth better.last < after)

-- the second and the fourth fix of each better choice are among the candidates
abbrev pub AreFound : List Fix → Sides → ℕ × ℕ → ℕ → List Candidate → ℕ → List Candidate → ℕ
    → Type 0
AreFound fixes sides middle found before from_before after from_after =
    (better : IsBetter fixes sides middle found)
    → IsAmong before from_before better.second × IsAmong after from_after better.fourth

-- the first candidates of a list stay
pub record Keeps (part : Part) (old new : List Candidate) : Type 0 where
  pub longer : part.to ≤ length new
  pub kept : take part.to new ≡ take part.to old

-- both sides were refined for a middle span
pub record IsNarrowed (fixes : List Fix) (sides : Sides) (middle : ℕ × ℕ) (search : Search)
    (before after : Part) (arms : Arms) : Type 0 where
  pub top_before : IsTop fixes sides.before middle arms.before
  pub top_after : IsTop fixes sides.after middle arms.after
  pub before_some : 0 < arms.before.most
  pub after_some : 0 < arms.after.most
  pub part_before : IsPart fixes sides.before middle search.before.candidates.items
      (record {
        from = before.to;
        to = length search.before.candidates.items;
        most = arms.before.most;
      })
  pub part_after : IsPart fixes sides.after middle search.after.candidates.items
      (record {
        from = after.to;
        to = length search.after.candidates.items;
        most = arms.after.most;
      })
  pub below : AreBelow fixes sides middle search.best.total arms.before.most arms.after.most
  pub found : middle.0 < middle.1
      → AreFound fixes sides middle search.best.total search.before.candidates.items before.to
      search.after.candidates.items after.to

-- the last of two ends is too low
pub record IsTooLow (fixes : List Fix) (sides : Sides) (loss : ℤ) (pair : Pair) : Type 0 where
  pub first : IsAllowed fixes sides.before pair.first
  pub last : IsAllowed fixes sides.after pair.last
  pub low : loss <ℤ (altitude_at fixes pair.first -ℤ altitude_at fixes pair.last)

-- a search of a middle span came to an end: no choice is better, or it stopped at two ends
abbrev pub IsOver : List Fix → Sides → ℕ × ℕ → ℤ → ℕ → Option Pair → Type 0
IsOver fixes sides middle loss found stop =
    MatchOption stop (¬ IsBetter fixes sides middle found) (IsTooLow fixes sides loss)

-- the same, or the search was given up
abbrev pub IsHalted : List Fix → Sides → ℕ × ℕ → ℤ → ℕ → Stop → Type 0
IsHalted fixes sides middle loss found Done = ¬ IsBetter fixes sides middle found
IsHalted fixes sides middle loss found (Low pair) = IsTooLow fixes sides loss pair
IsHalted fixes sides middle loss found GivenUp = Unit {0}

-- two spans are the halves of another, in either order
pub record AreHalvesOf (span one other : ℕ × ℕ) : Type 0 where
  pub inside : (place : ℕ) → IsPlaceOf one place ⊎ IsPlaceOf other place → IsPlaceOf span place
  pub parts : (place : ℕ) → IsPlaceOf span place → IsPlaceOf one place ⊎ IsPlaceOf other place
  pub one_less : one.1 - one.0 < span.1 - span.0
  pub other_less : other.1 - other.0 < span.1 - span.0
  pub one_in : one.1 ≤ span.1
  pub other_in : other.1 ≤ span.1

-- with nothing better left, or at a pair of which the last is too low
abbrev pub stop_after : Option Pair → Stop
stop_after None = Done
stop_after (Some pair) = Low pair
