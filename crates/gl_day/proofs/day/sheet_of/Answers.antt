use Rattle.std.proofs.Common.{rules}
use Rattle.gl_day.proofs.day.sheet_of.Goals as goal

pub returns : goal.returns
returns c = record {
  rows = c.in_ok-rows.rows.items;
  are = c.in_ok-rows.ensures.are;
  sheet = search rules;
}
