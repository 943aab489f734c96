use Rattle.std.proofs.Common.{rules}
use Rattle.gl_day.proofs.day.day_rows.Goals as goal

pub returns-clause-are : goal.returns-clause-are
returns-clause-are c = record {
  day = c.day-figures.result;
  figures = search rules;
  each = c.in_ok-rows.ensures;
}
