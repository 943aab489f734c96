use Rattle.std.proofs.Common.{◌≡◌, map, take}
use Rattle.gl_day.specs.Flight.{steward_rules}
use Rattle.gl_day_claims.specs.Code.Scoring.{AreEntrantsScored}
use Rattle.gl_day_claims.proofs.scoring.score_entrants.Given as goal

abbrev pub invariant-loop-entrant : goal.invariant-loop-entrant
invariant-loop-entrant g l = record {
  kept : map (λ s. steward_rules ((goal.Steward-dyn g (s.vtable, s.value)).opening s.value) ((goal.Steward-dyn g (s.vtable, s.value)).fed s.value)
      ((goal.Steward-dyn g (s.vtable, s.value)).owed s.value)) l.stewards.items
      ≡ map (λ s. steward_rules ((goal.Steward-dyn g (s.vtable, s.value)).opening s.value) ((goal.Steward-dyn g (s.vtable, s.value)).fed s.value)
      ((goal.Steward-dyn g (s.vtable, s.value)).owed s.value)) l.fn.stewards.items;
  scored : AreEntrantsScored l.files (map (λ s. steward_rules ((goal.Steward-dyn g (s.vtable, s.value)).opening s.value) ((goal.Steward-dyn g (s.vtable, s.value)).fed s.value)
      ((goal.Steward-dyn g (s.vtable, s.value)).owed s.value)) l.fn.stewards.items) (take l.entrant-index l.files.task.entrants) l.proof (g.D.Desk.told l.fn.desk)
      (g.D.Desk.told l.desk) l.flights.items;
}
