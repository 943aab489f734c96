use Rattle.std.proofs.Common.{◌≤◌, ℕ, List, length}
use Rattle.gl_cup.specs.declared.point.CupTask.{CupTask}
use Rattle.gl_draft.specs.Made.{IsSourceOf}
use Rattle.gl_draft.specs.declared.command.Source.TheVariants as source
use Rattle.gl_draft.specs.declared.words.Asks as code
use Rattle.gl_draft.specs.declared.words.Asks.TheVariants as asks
use Rattle.gl_draft.proofs.command.make_text.Goals as goal

-- the task of a SeeYou file has three points or more
three_points : (bytes : List ℕ) (what : code.Asks) (task : CupTask) → IsSourceOf bytes what (source.Cup task) → 3 ≤ length task.points
three_points bytes (asks.Task number) task is = is.1
three_points bytes asks.Late task is = absurd is

pub task_text-requires : goal.task_text-requires
task_text-requires c = three_points c.requires.0 c.args.words.asks _ (rw c.in-Cup.is at c.requires.1)
