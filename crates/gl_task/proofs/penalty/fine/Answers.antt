use Rattle.std.proofs.Common.{◌<◌, length, arith, rules}
use Rattle.gl_task.proofs.Charged.{charged_more, rest_more, total_more}
use Rattle.gl_task.proofs.penalty.fine.Goals as goal

pub loop-steward-preserved : goal.loop-steward-preserved
loop-steward-preserved g c =
    let so_far = c.loop-steward.invariant in
    let before = c.args.stewards.now.items in
    let now = c.loop-steward.steward-items in
    let i = c.loop-steward.steward-index in
    let steward = c.steward-item.result in
    let within : i < length now = omega arith in
    record {
      total = rw c.min-total.ensures (total_more _ before now i steward c.loop-steward.total c.charge.result within c.steward-item.is so_far.rest (search rules) so_far.total);
      held = charged_more _ before now i steward c.charge.new.steward within c.steward-item.is so_far.rest so_far.held (search rules);
      rules = charged_more _ before now i steward c.charge.new.steward within c.steward-item.is so_far.rest so_far.rules (search rules);
      rest = rest_more before now i c.charge.new.steward so_far.rest;
    }
