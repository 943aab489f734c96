use Rattle.std.proofs.Common.{◌∙◌, ◌-◌, ap, sym, subst, length, Option, arith}
use Rattle.gl_free.specs.declared.pair.Pair.{Pair}
use Rattle.gl_free.specs.Code.Search.{IsOver}
use Rattle.gl_free.proofs.HalfLemmas.{done-all, done-next}
use Rattle.gl_free.proofs.halves.Halves.middles.Goals as goal

pub loop-middle-preserved : goal.loop-middle-preserved
loop-middle-preserved c =
    let goal = c.args.goal.now in
    let middle = c.loop-middle.middle in
    let is = c.choose_at-low.ensures in
    let none = subst (λ (low : Option Pair). IsOver goal.hulls c.args.sides.now (middle, middle) goal.loss c.choose_at-low.new.best.total low) c.in_default.is is.over in
    record {
      valid = is.valid;
      raised = omega (arith, is.raised, c.loop-middle.invariant.raised);
      guess = is.guess;
      done = done-next goal.hulls c.args.sides.now (0, length goal.hulls - 1) c.loop-middle.best.total c.choose_at-low.new.best.total middle is.raised c.loop-middle.invariant.done none;
    }

pub returns-clause-over : goal.returns-clause-over
returns-clause-over c =
    let goal = c.args.goal.now in
    done-all goal.hulls c.args.sides.now c.loop-middle.best.total c.loop-middle.middle c.requires.some
    (omega (arith, c.loop-middle-test.false, c.loop-middle.auto.middle-end, c.len-middle-end.ensures, ap length (c.hulls.ensures ∙ sym goal.hulled))) c.loop-middle.invariant.done
