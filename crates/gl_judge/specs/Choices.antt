-- Where the rules leave a choice of fixes, and which fixes there are to choose from.
use Rattle.std.specs.Prelude.{◌≡◌, ℕ, ◌+◌, ◌-◌, Bool, false, List, [], ◌∷◌, ◌++◌, map, take, slice_get, slice_index_or, Option, None, Some}
use Rattle.std.specs.List.{filter}
use Rattle.gl_sphere.specs.declared.place.Vec3.{Vec3}
use Rattle.gl_igc.specs.declared.fix.Fix.{Fix}
use Rattle.gl_goal.specs.Area.{area_goal}
use Rattle.gl_goal.specs.Chain.{legs}
use Rattle.gl_goal.specs.Free.{numbers_from}
use Rattle.gl_goal.specs.Out.{out_goal}
use Rattle.gl_goal.specs.Goal.{Goal}
use Rattle.gl_task.specs.declared.day_type.Kind.{Kind}
use Rattle.gl_task.specs.declared.day_type.Kind.TheVariants.{Racing, Area}
use Rattle.gl_task.specs.declared.task.Task.{Task}
use Rattle.gl_zone.specs.declared.zone.Zone.{Zone}
use Rattle.gl_zone.specs.Zones.{is_in_zone}
use Rattle.gl_judge.specs.declared.outcome.Window.{Window}
use Rattle.gl_judge.specs.declared.stretch.Stretch.{Stretch}
use Rattle.gl_judge.specs.Finishes.{lead_of}
use Rattle.gl_judge.specs.Greatest.{IsLeast}
use Rattle.gl_judge.specs.Marking.{course_of, finish_point, ring_radius}
use Rattle.gl_judge.specs.Visits.{HasVisit}

-- a fix, if there is one, lies in a zone
abbrev pub lies_in : Zone → Option Fix → Bool
lies_in zone None = false
lies_in zone (Some fix) = is_in_zone zone fix.at

-- the numbers from the first up to but without `behind`
abbrev pub numbers_before : ℕ → ℕ → List ℕ
numbers_before first behind = numbers_from first (behind - first)

-- the numbers of the fixes in a zone, from the first up to but without `behind`
abbrev pub numbers_in_zone : List Fix → ℕ → ℕ → Zone → List ℕ
numbers_in_zone fixes first behind zone =
    filter (λ i. lies_in zone (slice_get fixes i)) (numbers_before first behind)

-- a list for each of some zones
abbrev pub zone_lists : List Fix → List Zone → ℕ → ℕ → List (List ℕ)
zone_lists fixes zones first behind = map (numbers_in_zone fixes first behind) zones

-- the start point of a task
abbrev pub start_point : Task → Vec3
start_point task = task.start.line.centre

-- The choice of one who finished a task of areas: a fix in each zone, from the start up to the
-- finish, or up to the fix before the one that crossed a finish line. The radius of a finish ring
-- is off.
abbrev pub area_choice : Task → List Fix → Window → Goal
area_choice task fixes window =
    area_goal fixes
    (zone_lists fixes task.zones window.first (window.last + 1 - lead_of task.finish))
    (start_point task) (finish_point task.finish) (ring_radius task.finish)

-- a point of the course of a task, by how many zones stand before it
abbrev pub course_point : Task → ℕ → Vec3
course_point task count = slice_index_or (course_of task) count (start_point task)

-- The choice of an outlanding in a racing task with so many visited zones: the fix that comes
-- nearest to the next point of the course, from some fix on. The legs to the last visited zone are
-- fixed.
abbrev pub racing_choice : Task → List Fix → Window → ℕ → ℕ → Goal
racing_choice task fixes window count from =
    out_goal fixes (numbers_before from (window.last + 1) ∷ []) (course_point task count)
    (legs (take (count + 1) (course_of task))) (course_point task (count + 1))

-- The choice of an outlanding in a task of areas with so many visited zones: a fix in each of them,
-- and the one that comes nearest to the next point of the course.
abbrev pub areas_choice : Task → List Fix → Window → ℕ → Goal
areas_choice task fixes window count =
    out_goal fixes
    (zone_lists fixes (take count task.zones) window.first (window.last + 1)
    ++ numbers_before window.first (window.last + 1) ∷ [])
    (start_point task) 0 (course_point task (count + 1))

-- The choice of an outlanding. In a racing task it begins where the last visited zone can be
-- reached first.
abbrev pub IsOutChoice : Kind → Task → List Fix → Stretch → Window → ℕ → Goal → Type 0
IsOutChoice Racing task fixes judged window count goal =
    (from : ℕ) × IsLeast (HasVisit fixes judged (take count task.zones) window.first) from
    × (goal ≡ racing_choice task fixes window count from)
IsOutChoice (Area minimum) task fixes judged window count goal =
    goal ≡ areas_choice task fixes window count
