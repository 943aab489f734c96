use Rattle.std.proofs.Common.{refl, ap, ◌<◌, ◌≤◌, ℕ, arith}
use Rattle.gl_box.specs.Cell.{spans_of}
use Rattle.gl_box.specs.Halves.{span_at}
use Rattle.gl_goal.specs.Free.{free_goal}
use Rattle.gl_goal.proofs.Fives.{five-item, five-lo_within, five-span_within, length-five}
use Rattle.gl_goal.proofs.Seen.{seen_more}
use Rattle.gl_goal.proofs.FreeSeen.{begins, closes, five_past, five_seen}
use Rattle.gl_goal.proofs.free_goal.FreeGoalGoal.disordered.Goals as goal

pub loop-span-preserved : goal.loop-span-preserved
unfolding free_goal
loop-span-preserved c =
    let g = c.args.self.now in
    let cell = c.args.cell.now in
    let at = five-item g.first g.last cell c.loop-span.span-index c.span-item.result c.requires (omega (arith, length-five cell)) c.span-item.is in
    seen_more (begins (spans_of cell)) (closes (spans_of cell)) c.loop-span.span-index c.loop-span.latest c.span-item.result.lo c.span-item.result.hi c.max-latest.result c.loop-span.invariant
    (ap (λ (s : ℕ × ℕ). s.0) at) (ap (λ (s : ℕ × ℕ). s.1) at) c.if-span-latest.false c.max-latest.ensures

pub returns-then-span-latest : goal.returns-then-span-latest
unfolding free_goal
returns-then-span-latest c =
    let g = c.args.self.now in
    let cell = c.args.cell.now in
    let below : c.loop-span.span-index < 5 = omega (arith, length-five cell) in
    let at = five-item g.first g.last cell c.loop-span.span-index c.span-item.result c.requires below c.span-item.is in
    let past : (span_at (spans_of cell) c.loop-span.span-index).1 < c.loop-span.latest = omega (arith, ap (λ (s : ℕ × ℕ). s.1) at) in (
      λ _. five_past g.first g.last (spans_of cell) c.loop-span.span-index c.loop-span.latest c.loop-span.invariant below past (λ k under. five-span_within g.first g.last cell k c.requires under)
          (λ k under. five-lo_within g.first g.last cell k c.requires under),
      λ _. refl,
    )

pub returns : goal.returns
unfolding free_goal
returns c =
    let g = c.args.self.now in
    let cell = c.args.cell.now in
    let all : 5 ≤ c.loop-span.span-index = omega (arith, length-five cell) in (
      λ none. absurd (cc),
      λ disordered. absurd (five_seen g.first g.last (spans_of cell) c.loop-span.span-index c.loop-span.latest c.loop-span.invariant all
          (λ k under. five-span_within g.first g.last cell k c.requires under) (λ k under. five-lo_within g.first g.last cell k c.requires under) disordered),
    )
