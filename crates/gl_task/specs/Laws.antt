-- What the two stewards owe for a flight, in words that speak of no list.
use Rattle.std.specs.Prelude.{◌≡◌, ◌+◌, ◌≤◌, ◌⊎◌, ℕ, List, All, MatchOption, nat_le, if◌then◌else◌}
use Rattle.std.specs.List.{Any, count_by}
use Rattle.gl_igc.specs.declared.fix.Fix.{Fix}
use Rattle.gl_task.specs.declared.task.LocalRules.{LocalRules}
use Rattle.gl_task.specs.Ceiling.{ceiling_fed, ceiling_opening, ceiling_owed, height}
use Rattle.gl_task.specs.EngineNoise.{is_noisy, noise_fed, noise_opening, noise_owed}
use Rattle.gl_task.specs.Penalty.{held_after}

-- So many metres are the greatest height of a fix above a ceiling: no fix is higher, and one is as
-- high, or none is above the ceiling and they are 0.
pub record IsGreatestAbove (ceiling : ℕ) (fixes : List Fix) (metres : ℕ) : Type 0 where
  pub none_higher : All (λ fix. height fix.alt ≤ ceiling + metres) fixes
  pub reached : (metres ≡ 0) ⊎ Any (λ fix. height fix.alt ≡ ceiling + metres) fixes

-- The steward of the ceiling owes the greatest height above it, and nothing without a ceiling.
abbrev pub CeilingOwesTheGreatest : Type 0
CeilingOwesTheGreatest =
    (rules : LocalRules) (fixes : List Fix) →
    let owed = ceiling_owed (held_after (ceiling_opening rules) ceiling_fed fixes) in
    MatchOption rules.ceiling (owed ≡ 0)
    (λ ceiling. IsGreatestAbove (height ceiling) fixes owed)

-- The steward of the engine owes the engine points exactly from three noisy fixes on, and nothing
-- without an engine level.
abbrev pub EngineNoiseOwesFromThreeOn : Type 0
EngineNoiseOwesFromThreeOn =
    (rules : LocalRules) (fixes : List Fix) →
    let owed = noise_owed (held_after (noise_opening rules) noise_fed fixes) in
    MatchOption rules.engine_level (owed ≡ 0) (λ level. owed
    ≡ if nat_le 3 (count_by (λ fix. is_noisy level fix.enl) fixes)
    then rules.engine_points else 0)
