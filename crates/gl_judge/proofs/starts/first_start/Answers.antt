use Rattle.std.proofs.Common.{ℕ, ◌<◌, arith}
use Rattle.gl_judge.specs.Starts.{IsStart}
use Rattle.gl_judge.proofs.Bounds.{at_least, up}
use Rattle.gl_judge.proofs.starts.first_start.Goals as goal

pub returns-in-Some-clause-least : goal.returns-in-Some-clause-least
returns-in-Some-clause-least c =
    let Kind : ℕ → Type 0 = IsStart c.args.start.now c.args.rec.now c.args.judged in
    record {
      is = record { time = c.in-Some.second; legal = c.in-Some.ensures.some };
      least = λ b h. at_least Kind c.loop-b.b 0 (λ i _ lt s. c.loop-b.invariant i lt s) b (omega arith) h;
    }

pub loop-b-preserved : goal.loop-b-preserved
loop-b-preserved c =
    let Kind : ℕ → Type 0 = IsStart c.args.start.now c.args.rec.now c.args.judged in
    λ b lt h. up Kind c.loop-b.b 0 (λ i _ lt s. c.loop-b.invariant i lt s) (λ s. c.in_default.ensures.none s.time s.legal) b (omega arith) lt h

pub returns-clause-none : goal.returns-clause-none
returns-clause-none c =
    λ b h. let within : b < c.args.judged.to = h.legal.crossed.behind_judged.1 in c.loop-b.invariant b (omega arith) h
