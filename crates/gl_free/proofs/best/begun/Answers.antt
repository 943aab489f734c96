use Rattle.std.proofs.Common.{sym}
use Rattle.gl_free.proofs.best.begun.Goals as goal

pub returns-clause-valid : goal.returns-clause-valid
returns-clause-valid c = c.in_ok-warm_start.ensures

pub returns-clause-flanks : goal.returns-clause-flanks
returns-clause-flanks c = record {
  before = c.in_ok-new.ensures c.args.hulls.now (sym c.len.ensures);
  after = c.in_ok-new-2.ensures c.args.hulls.now (sym c.len-2.ensures);
}
