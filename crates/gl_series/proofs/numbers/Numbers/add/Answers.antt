use Rattle.gl_series.proofs.Kept.{kept_more}
use Rattle.gl_series.proofs.numbers.Numbers.add.Goals as goal

pub returns : goal.returns
returns c = λ numbers has. kept_more c.args.self.now.seen c.insert.new.self numbers c.args.number.now (rw (c.in_ok-from_text.ensures, c.as_str.ensures) at c.in_ok-insert.ensures.updates) has
