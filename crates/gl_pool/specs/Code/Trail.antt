-- The boxes that a worker closes, run by run, while it works.
use Rattle.std.specs.Prelude.{◌≡◌, List, ◌++◌, map}
use Rattle.gl_box.specs.declared.cell.Cell.{Cell}
use Rattle.gl_pool.specs.declared.bench.Bench.{Bench}
use Rattle.gl_pool.specs.declared.trail.Trail.{Trail}
use Rattle.gl_box.specs.Turns.{left_open, reason_of}
use Rattle.gl_box.specs.Walk.{open_cells}
use Rattle.gl_order.specs.Runs.{ArePassed}

-- The runs that are done lead as is said. The last one leads to the cells that the worker has
-- before it, and those that are open behind them.
pub record IsTrail (trail : Trail) (cells : List Cell) : Type 0 where
  pub passed : ArePassed trail.runs.items
  pub leads : left_open (open_cells trail.last.before.items) (map reason_of trail.last.turns.items)
      ≡ open_cells (trail.last.after.items ++ cells)

abbrev pub IsOnTrail : Bench → Type 0
IsOnTrail bench = IsTrail bench.share.closed bench.cells.items
