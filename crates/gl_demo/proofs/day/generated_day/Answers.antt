use Rattle.std.proofs.Common.{arith}
use Rattle.gl_demo.proofs.DrawLemmas.{after-join}
use Rattle.gl_demo.proofs.RecordingLemmas.{draws_before-next, draws_before-none}
use Rattle.gl_demo.proofs.DayLemmas.{day-begun, day-differs, day-more, day-whole}
use Rattle.gl_demo.proofs.day.generated_day.Goals as goal

pub loop-entrant-init : goal.loop-entrant-init
loop-entrant-init c = (
  day-begun _ _ _ _ c.new-files.ensures.items c.in_ok-push.ensures.items c.in_ok-task_name.ensures c.in_ok-task_file.ensures,
  draws_before-none c.args.number,
)

pub loop-entrant-preserved : goal.loop-entrant-preserved
loop-entrant-preserved c = (
  day-more c.args.number c.loop-entrant.entrant c.loop-entrant.draws.value _ _ _ _ c.loop-entrant.invariant.0
      c.loop-entrant.invariant.1 c.in_ok-push-2.ensures.items c.in_ok-name.ensures c.in_ok-recording.ensures.text,
  after-join _ _ _ _ _ _ c.loop-entrant.invariant.1 c.in_ok-recording.ensures.after
      (draws_before-next c.loop-entrant.entrant),
)

pub returns-clause-files : goal.returns-clause-files
returns-clause-files c =
    day-whole c.args.number c.loop-entrant.entrant c.loop-entrant.files.items c.loop-entrant.invariant.0 (omega arith)

pub returns-clause-differ : goal.returns-clause-differ
returns-clause-differ c =
    day-differs c.args.number c.loop-entrant.files.items
    (day-whole c.args.number c.loop-entrant.entrant c.loop-entrant.files.items c.loop-entrant.invariant.0 (omega arith))
