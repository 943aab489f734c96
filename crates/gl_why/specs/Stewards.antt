-- The stewards by which a day is scored.
use Rattle.std.specs.Prelude.{List, [], ◌∷◌}
use Rattle.gl_day.specs.Flight.{StewardRules, steward_rules}
use Rattle.gl_task.specs.Ceiling.{ceiling_fed, ceiling_opening, ceiling_owed}
use Rattle.gl_task.specs.EngineNoise.{noise_fed, noise_opening, noise_owed}

-- that of the ceiling, and that of the engine
abbrev pub ceiling_rules : StewardRules
ceiling_rules = steward_rules ceiling_opening ceiling_fed ceiling_owed

abbrev pub engine_rules : StewardRules
engine_rules = steward_rules noise_opening noise_fed noise_owed

abbrev pub the_stewards : List StewardRules
the_stewards = ceiling_rules ∷ engine_rules ∷ []
