-- What is told of the crossings of the start line.
use Rattle.std.specs.Prelude.{◌≡◌, ℕ, List, [], ◌∷◌, slice_get, Some, ℤ, ◌<ℤ◌}
use Rattle.gl_igc.specs.declared.fix.Fix.{Fix}
use Rattle.gl_igc.specs.declared.recording.Recording.{Recording}
use Rattle.gl_judge.specs.Choices.{numbers_before}
use Rattle.gl_judge.specs.Crossings.{Crosses}
use Rattle.gl_judge.specs.Starts.{IsAnnounced, IsLegalStart}
use Rattle.gl_judge.specs.declared.stretch.Stretch.{Stretch}
use Rattle.gl_task.specs.declared.task.Start.{Start}
use Rattle.gl_why.specs.Facts.{AreFound}
use Rattle.gl_why.specs.declared.fact.Crossing.{Crossing}
use Rattle.gl_why.specs.declared.fact.Fact as code
use Rattle.gl_why.specs.declared.fact.Fact.TheVariants as fact
use Rattle.gl_why.specs.declared.fact.Legality as code_legality
use Rattle.gl_why.specs.declared.fact.Legality.TheVariants as legality
use Rattle.gl_why.specs.declared.spot.Spot.{Spot}

-- a fix of a recording stands under its number
abbrev pub IsSpot : List Fix → Spot → Type 0
IsSpot fixes at = slice_get fixes at.number ≡ Some at.fix

-- A crossing at a time, with the fix of a number, is a legal start, or isn't one since it comes
-- before the start opens, after it closes, or without an event that announces it.
abbrev pub IsLegality : Start → Recording → Stretch → ℕ → ℤ → code_legality.Legality → Type 0
IsLegality start recording judged b time legality.Legal =
    IsLegalStart start recording judged b time
IsLegality start recording judged b time legality.TooEarly = time <ℤ start.opens
IsLegality start recording judged b time legality.TooLate = start.close <ℤ time
IsLegality start recording judged b time legality.Unannounced =
    IsAnnounced start.pilot recording.events time → ⊥

-- the start line is crossed so, with the fix of a number
pub record IsCrossing (start : Start) (recording : Recording) (judged : Stretch) (b : ℕ)
    (crossing : Crossing) : Type 0 where
  pub number : crossing.at.number ≡ b
  pub spot : IsSpot recording.fixes crossing.at
  pub crossed : Crosses start.line recording.fixes judged b crossing.second
  pub judged_is : IsLegality start recording judged b crossing.second crossing.legality

-- what is told of a fix: that the line is crossed with it, or nothing
pub data IsCrossingTold (start : Start) (recording : Recording) (judged : Stretch) (b : ℕ)
    (facts : List code.Fact) : Type 0 where
  nowhere : ((time : ℤ) → Crosses start.line recording.fixes judged b time → ⊥) → facts ≡ []
      → IsCrossingTold start recording judged b facts
  crossed : (crossing : Crossing) → IsCrossing start recording judged b crossing
      → facts ≡ fact.Crossed crossing ∷ [] → IsCrossingTold start recording judged b facts

-- of each judged fix
abbrev pub AreCrossingsTold : Start → Recording → Stretch → List code.Fact → Type 0
AreCrossingsTold start recording judged facts =
    AreFound (IsCrossingTold start recording judged) (numbers_before judged.from judged.to) facts
