use Rattle.std.proofs.Common.{ℕ, ◌-◌, ◌≤◌, arith}
use Rattle.gl_judge.specs.Starts.{IsStart}
use Rattle.gl_judge.proofs.Bounds.{at_most, down}
use Rattle.gl_judge.proofs.starts.last_start.Goals as goal

pub returns-in-Some-clause-last : goal.returns-in-Some-clause-last
returns-in-Some-clause-last c =
    let Kind : ℕ → Type 0 = IsStart c.args.start.now c.args.rec.now c.args.judged in
    λ b h le. at_most Kind (c.loop-b.b - 1) c.args.limit (λ i lt w s. c.loop-b.invariant i (omega arith) w s) b le h

pub loop-b-preserved : goal.loop-b-preserved
loop-b-preserved c =
    let Kind : ℕ → Type 0 = IsStart c.args.start.now c.args.rec.now c.args.judged in
    λ b from le h. down Kind c.loop-b.b (c.loop-b.b - 1) c.args.limit (omega arith) (λ i f w s. c.loop-b.invariant i f w s) (λ s. c.in_default.ensures.none s.time s.legal) b from le h

pub returns-clause-none : goal.returns-clause-none
returns-clause-none c =
    λ b h le. let from : c.args.judged.from ≤ b = h.legal.crossed.behind_judged.0 in c.loop-b.invariant b (omega arith) le h
