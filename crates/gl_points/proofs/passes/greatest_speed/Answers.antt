use Rattle.std.proofs.Common.{◌≡◌, ap, ◌∙◌, ◌*◌}
use Rattle.gl_points.specs.declared.performance.Performance.{Performance}
use Rattle.gl_points.specs.Limits.{distance_limit, handicap_limit, time_limit}
use Rattle.gl_points.specs.Figures.{handicapped_speed}
use Rattle.gl_points.specs.Fraction.{◌÷◌}
use Rattle.gl_points.specs.Code.Fractions.{greater}
use Rattle.gl_points.proofs.Greatest.{greatest_kept, greatest_passed}
use Rattle.gl_points.proofs.passes.greatest_speed.Goals as goal
use Rattle.gl_points.proofs.passes.greatest_speed.Goals.{then-p, else-p}

pub loop-p-preserved : goal.loop-p-preserved
loop-p-preserved c =
    let figure = handicapped_speed c.args.least in
    let keep = λ (p : Performance). p.finished in
    let best = c.loop-p.greatest.0 ÷ c.loop-p.greatest.1.0 in
    let so_far = c.loop-p.invariant in
    elim c.if-p.branch [
      | then-p w ↦
          let next : (c.if-p.greatest.0 ÷ c.if-p.greatest.1.0) ≡ greater best (figure c.p-item.result) =
          rw w.greatest-is (w.greater-greatest.ensures.worth ∙ ap (greater best) w.speed.ensures.worth) in
          record {
            greatest = rw next (greatest_kept figure keep c.args.list.now c.loop-p.p-index c.p-item.result best c.loop-p-test.true c.p-item.is w.if-p.true so_far.divides so_far.greatest);
            divides = rw w.greatest-is w.greater-greatest.result.divides;
            num = rw w.greatest-is (w.greater-greatest.ensures.num (distance_limit * handicap_limit) so_far.num w.speed.ensures.num);
            den = rw w.greatest-is (w.greater-greatest.ensures.den (handicap_limit * time_limit) so_far.den w.speed.ensures.den);
          }
      | else-p w ↦ rw w.greatest-is (record {
        greatest = greatest_passed figure keep c.args.list.now c.loop-p.p-index c.p-item.result best c.loop-p-test.true c.p-item.is w.if-p.false so_far.greatest;
        divides = so_far.divides;
        num = so_far.num;
        den = so_far.den;
      })
    ]
