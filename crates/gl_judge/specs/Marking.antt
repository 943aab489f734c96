-- What counts of a flight once it is judged.
use Rattle.std.specs.Prelude.{◌≡◌, ℕ, ◌-◌, ◌/◌, max, min, Bool, true, false, List, [], ◌∷◌, ◌++◌, map, Option, unwrap_or}
use Rattle.gl_sphere.specs.declared.place.Vec3.{Vec3}
use Rattle.gl_goal.specs.Chain.{legs}
use Rattle.gl_points.specs.declared.performance.Performance.{Performance}
use Rattle.gl_task.specs.declared.day_type.Finish.{Finish}
use Rattle.gl_task.specs.declared.day_type.Finish.TheVariants.{Ring, Gate}
use Rattle.gl_task.specs.declared.day_type.Kind.{Kind}
use Rattle.gl_task.specs.declared.day_type.Kind.TheVariants.{Racing, Area}
use Rattle.gl_task.specs.declared.task.Task.{Task}
use Rattle.gl_judge.specs.declared.outcome.Judged.{Judged}
use Rattle.gl_judge.specs.declared.outcome.Judged.TheVariants.{Finished, Outlanded, NoStart}

-- the finish point: the ring's place, or the centre of the line
abbrev pub finish_point : Finish → Vec3
finish_point (Ring at radius) = at
finish_point (Gate line) = line.centre

-- the radius of the ring in centimetres; 0 for a gate
abbrev pub ring_radius : Finish → ℕ
ring_radius (Ring at radius) = radius
ring_radius (Gate line) = 0

-- the points of a task in their order: the centre of the start line, those of the zones, the finish
-- point
abbrev pub course_of : Task → List Vec3
course_of task =
    task.start.line.centre ∷ (map (λ zone. zone.centre) task.zones ++ finish_point task.finish ∷ [])

-- the distance of a racing task in centimetres: its legs, less the radius of the ring, not below 0
abbrev pub racing_distance : Task → ℕ
racing_distance task = legs (course_of task) - ring_radius task.finish

-- The distance of a flight is the best of its choices of fixes, where it landed out or finished a
-- task of areas.
abbrev pub is_chosen : Kind → Judged → Bool
is_chosen Racing (Finished window seconds) = false
is_chosen (Area minimum) (Finished window seconds) = true
is_chosen kind (Outlanded window zones) = true
is_chosen kind NoStart = false

-- the distance of a finisher in centimetres, the best of its choices in a task of areas
abbrev pub finished_distance : Kind → Task → ℕ → ℕ
finished_distance Racing task best = racing_distance task
finished_distance (Area minimum) task best = best

-- the distance of a flight in centimetres
abbrev pub distance_of : Task → Judged → ℕ → ℕ
distance_of task (Finished window seconds) best = finished_distance task.kind task best
distance_of task (Outlanded window zones) best = best
distance_of task NoStart best = 0

-- the marking distance in whole metres, at most 2,000,000
abbrev pub metres_of : ℕ → ℕ
metres_of distance = min (distance / 100) 2_000_000

-- the marking time: the flown time, at least 1 s and in a task of areas at least the minimum
abbrev pub marking_time : Kind → ℕ → ℕ
marking_time Racing flown = max 1 flown
marking_time (Area minimum) flown = max minimum (max 1 flown)

-- whether a flight finished
abbrev pub is_finished : Judged → Bool
is_finished (Finished window seconds) = true
is_finished (Outlanded window zones) = false
is_finished NoStart = false

-- the marking time of a flight; 0 where it didn't finish
abbrev pub seconds_of : Kind → Judged → ℕ
seconds_of kind (Finished window seconds) = marking_time kind seconds
seconds_of kind (Outlanded window zones) = 0
seconds_of kind NoStart = 0

-- what counts of a flight with a recording
pub record IsMarked (task : Task) (handicap : ℕ) (judged : Judged) (best : Option ℕ)
    (performance : Performance) : Type 0 where
  pub launched : performance.launched ≡ true
  pub finished : performance.finished ≡ is_finished judged
  pub metres : performance.metres ≡ metres_of (distance_of task judged (unwrap_or best 0))
  pub seconds : performance.seconds ≡ seconds_of task.kind judged
  pub handicap_is : performance.handicap ≡ handicap
