use Rattle.std.proofs.Common.{arith}
use Rattle.gl_triangle.proofs.Fair.{at_most_by_either}
use Rattle.gl_triangle.proofs.legs.Legs.promise.Goals as goal

pub returns-then-bound-known : goal.returns-then-bound-known
returns-then-bound-known c =
    at_most_by_either c.args.self.now _ _ c.args.known c.most_by_28_percent-by_28_percent.ensures.at_most c.most_by_25_to_45_percent.ensures.at_most (omega arith) (omega arith)

pub returns : goal.returns
returns c =
    (omega arith, at_most_by_either c.args.self.now _ _ _ c.most_by_28_percent-by_28_percent.ensures.at_most c.most_by_25_to_45_percent.ensures.at_most (omega arith) (omega arith))
