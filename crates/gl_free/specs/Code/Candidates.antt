-- Candidates for the inner fix on one side of the middle.
use Rattle.std.specs.Prelude.{◌≡◌, ℕ, ◌+◌, ◌*◌, ◌<◌, ◌≤◌, ◌^◌, List, length, take, slice_index_or, All}
use Rattle.gl_box.specs.Cell.{ends}
use Rattle.gl_igc.specs.declared.fix.Fix.{Fix}
use Rattle.gl_goal.specs.Near.{IsPlaceOf}
use Rattle.gl_free.specs.declared.candidate.Candidate.{Candidate}
use Rattle.gl_free.specs.declared.ends.Ends.{Ends}
use Rattle.gl_free.specs.declared.flank.Flank.{Flank}
use Rattle.gl_free.specs.declared.known.Known.{Known}
use Rattle.gl_free.specs.declared.arm.Arm.{Arm}
use Rattle.gl_free.specs.declared.arm.Part.{Part}
use Rattle.gl_free.specs.Code.Arms.{IsArm, IsTop, arm_length}
use Rattle.gl_free.specs.Code.Farthest.{IsFarthest}
use Rattle.gl_free.specs.Code.Places.{leg}

-- what is known is true of its own span and its own ends
abbrev pub IsKnown : List Fix → Known → Type 0
IsKnown fixes known = IsFarthest fixes known.ends (ends known.span) known.far

-- a flank has two entries for each fix, and they are true
pub record IsFlank (fixes : List Fix) (flank : Flank) : Type 0 where
  pub few : length fixes ≤ 90_000
  pub sized : length flank.known.items ≡ 2 * length fixes
  pub known : All (IsKnown fixes) flank.known.items

-- the farthest end is that of the candidate's span, and no two legs by it to the middle span are
-- longer than it says
pub record IsCandidate (fixes : List Fix) (allowed_ends : Ends) (middle : ℕ × ℕ)
    (candidate : Candidate) : Type 0 where
  pub within : candidate.span.hi < length fixes
  pub some_end : 0 < candidate.far.value
  pub farthest : IsFarthest fixes allowed_ends (ends candidate.span) candidate.far
  pub at_most : (inner third : ℕ) → IsPlaceOf (ends candidate.span) inner
      → IsPlaceOf middle third → candidate.far.value + leg fixes inner third ≤ candidate.most
  pub limited : candidate.most ≤ 2 ^ 41

-- the candidates from a place of the list on are true
abbrev pub AreCandidates : List Fix → Ends → ℕ × ℕ → List Candidate → ℕ → Type 0
AreCandidates fixes allowed_ends middle list from =
    (k : ℕ) (d : Candidate) → from ≤ k → k < length list
    → IsCandidate fixes allowed_ends middle (slice_index_or list k d)

-- an inner place lies in one of the candidates from a place of the list on
pub record IsAmong (list : List Candidate) (from inner : ℕ) : Type 0 where
  pub at : ℕ
  pub candidate : Candidate
  pub low : from ≤ at
  pub high : at < length list
  pub there : slice_index_or list at candidate ≡ candidate
  pub inside : IsPlaceOf (ends candidate.span) inner

-- true candidates were added to a list
pub record Grows (fixes : List Fix) (allowed_ends : Ends) (middle : ℕ × ℕ)
    (old new : List Candidate) : Type 0 where
  pub longer : length old ≤ length new
  pub kept : take (length old) new ≡ old
  pub added : AreCandidates fixes allowed_ends middle new (length old)

-- a part of a list: the candidates from a place up to another are true
pub record IsPart (fixes : List Fix) (allowed_ends : Ends) (middle : ℕ × ℕ)
    (list : List Candidate) (part : Part) : Type 0 where
  pub ordered : part.from ≤ part.to
  pub within : part.to ≤ length list
  pub limited : part.most ≤ 2 ^ 41
  pub candidates : AreCandidates fixes allowed_ends middle (take part.to list) part.from

-- a part with which a search starts: each arm has its inner place among the candidates, and is
-- shorter than the part says
pub record Starts (fixes : List Fix) (allowed_ends : Ends) (middle : ℕ × ℕ)
    (list : List Candidate) (part : Part) : Type 0 where
  pub is_part : IsPart fixes allowed_ends middle list part
  pub among : (inner end third : ℕ) → IsArm fixes allowed_ends third inner end
      → IsAmong (take part.to list) part.from inner
  pub shorter : (inner end third : ℕ) → IsArm fixes allowed_ends third inner end
      → arm_length fixes third inner end < part.most

-- Some inner places were gone over: true candidates were added, and of the arms by these places
-- that are no shorter than the need each is shorter than the greatest one, with one more; and
-- where the middle has more places than one, their inner places are among what was added.
pub record Sifts (fixes : List Fix) (allowed_ends : Ends) (middle : ℕ × ℕ) (need : ℕ)
    (is_inner : ℕ → Type 0) (old new : List Candidate) (least : ℕ) (arm : Arm) : Type 0 where
  pub grows : Grows fixes allowed_ends middle old new
  pub top : IsTop fixes allowed_ends middle arm
  pub raised : least ≤ arm.most
  pub shorter : (inner end third : ℕ) → is_inner inner → IsPlaceOf middle third
      → IsArm fixes allowed_ends third inner end → need ≤ arm_length fixes third inner end
      → arm_length fixes third inner end < arm.most
  pub found : (inner end third : ℕ) → is_inner inner → IsPlaceOf middle third
      → IsArm fixes allowed_ends third inner end → need ≤ arm_length fixes third inner end
      → middle.0 < middle.1 → IsAmong new (length old) inner
