-- The boxes of a worker's runs, all together.
use Rattle.std.specs.Prelude.{ℕ, List, ◌++◌}
use Rattle.gl_box.specs.declared.closed.Why.{Why}
use Rattle.gl_pool.specs.declared.trail.Trail.{Trail}
use Rattle.gl_order.specs.Runs.{boxes_by, boxes_in_runs}

-- all boxes, one run after the other
abbrev pub boxes_in : Trail → List (List (ℕ × ℕ) × Why)
boxes_in trail = boxes_in_runs trail.runs.items ++ boxes_by trail.last
