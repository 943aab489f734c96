-- How far an allowed end in a span reaches, by the squares of chords: what a search of the farthest
-- end goes by.
use Rattle.std.specs.Prelude.{◌≡◌, ℕ, ◌≤◌, List}
use Rattle.gl_igc.specs.declared.fix.Fix.{Fix}
use Rattle.gl_free.specs.declared.ends.Ends.{Ends}
use Rattle.gl_free.specs.declared.far.Far.{Far}
use Rattle.gl_free.specs.Code.Farthest.{IsAbove, IsReachedBy}
use Rattle.gl_free.specs.Code.Places.{chord}

-- the reach is above each chord from an end in a span to a node, and one above that of single
-- places
pub record IsReach (fixes : List Fix) (allowed : Ends) (span of_ : ℕ × ℕ) (value : ℕ) : Type 0 where
  pub above : IsAbove (chord fixes) fixes allowed span of_ value
  pub reached : span.0 ≡ span.1
      → IsReachedBy (chord fixes) fixes allowed of_ (record { value = value; place = span.0 })

-- what was found is raised to the reach of a span
pub record Raises (fixes : List Fix) (allowed : Ends) (span of_ : ℕ × ℕ)
    (old new : Far) : Type 0 where
  pub longer : old.value ≤ new.value
  pub above : IsAbove (chord fixes) fixes allowed span of_ new.value
  pub reached : IsReachedBy (chord fixes) fixes allowed of_ new
