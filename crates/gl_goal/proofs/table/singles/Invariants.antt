use Rattle.std.proofs.Common.{◌≡◌, ◌*◌, length}
use Rattle.std.specs.Prelude.{All}
use Rattle.gl_goal.specs.Table.{IsEntry}
use Rattle.gl_goal.proofs.table.singles.Given as goal

abbrev pub invariant-loop-place : goal.invariant-loop-place
invariant-loop-place l = record { sized : length l.table.items ≡ 2 * l.place; entries : All (IsEntry l.fixes) l.table.items }
