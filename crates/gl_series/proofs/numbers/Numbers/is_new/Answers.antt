use Rattle.gl_series.proofs.Kept.{new_number}
use Rattle.gl_series.proofs.numbers.Numbers.is_new.Goals as goal

pub returns : goal.returns
returns c = λ numbers has. new_number c.args.self.now.seen numbers c.args.number.now c.contains.result c.contains.ensures has
