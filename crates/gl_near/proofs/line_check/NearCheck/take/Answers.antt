use Rattle.std.proofs.Common.{◌∙◌, refl, ap}
use Rattle.gl_near.specs.LineCheck.{best_with, known_of}
use Rattle.gl_near.specs.Pairs.{pairing_of}
use Rattle.gl_near.specs.declared.line_check.NearCheck.{NearCheck}
use Rattle.gl_near.specs.declared.near_line.NearLine.TheVariants.{Box, Least, Pair}
use Rattle.gl_near.proofs.LineChecks.{taken_more, taken_same}
use Rattle.gl_near.proofs.line_check.NearCheck.take.Goals as goal

pub returns-in-Heading : goal.returns-in-Heading
returns-in-Heading c = λ pairing lines has. taken_same pairing lines c.args.line c.args.self.now c.in-Heading.is has

pub returns-in-Least : goal.returns-in-Least
returns-in-Least c = λ pairing lines has.
    let check : NearCheck = record { total = c.in-Least.total; boxes = c.args.self.now.boxes } in
    taken_more pairing lines c.args.line (Least c.in-Least.total) check c.in-Least.is (record { pairs = has.pairs; total = refl; best = has.best; boxes = has.boxes })

pub returns-in_ok-self-in-Pair : goal.returns-in_ok-self-in-Pair
returns-in_ok-self-in-Pair c = λ pairing lines has.
    let check : NearCheck = record { total = c.args.self.now.total; boxes = c.in_ok-self-in-Pair.field-0 } in
    let test = c.in_ok-self-in-Pair.ensures.test in
    taken_more pairing lines c.args.line (Pair c.in-Pair.first c.in-Pair.second) check c.in-Pair.is (record {
      pairs = ap pairing_of test.0 ∙ has.pairs;
      total = has.total;
      best = test.1 ∙ c.best_with-best.ensures ∙ ap (λ total. best_with total c.in-Pair.first c.in-Pair.second) has.total;
      boxes = c.in_ok-self-in-Pair.ensures.begins;
    })

pub returns-in_ok-take-in-Box : goal.returns-in_ok-take-in-Box
returns-in_ok-take-in-Box c = λ pairing lines has.
    let check : NearCheck = record { total = c.args.self.now.total; boxes = c.take.new.self } in
    taken_more pairing lines c.args.line (Box c.in-Box.closed) check c.in-Box.is (record {
      pairs = ap (λ test. pairing_of test.pairs.now) c.take.ensures.test ∙ has.pairs;
      total = has.total;
      best = ap (λ test. test.best) c.take.ensures.test ∙ has.best;
      boxes = c.in_ok-take-in-Box.ensures.takes (known_of lines).boxes has.boxes;
    })
