use Rattle.std.proofs.Common.{◌-◌, length}
use Rattle.std.specs.Prelude.{All}
use Rattle.gl_box.specs.Tuple.{places_of}
use Rattle.gl_goal.specs.Goal.{IsTuple}
use Rattle.gl_goal.specs.Best.{IsSound}
use Rattle.gl_plain.proofs.spaced.+extend.Given as goal

-- each level chooses a place on one more axis
abbrev pub decreases-extend : goal.decreases-extend
decreases-extend g l = length (g.G.Goal.rule l.goal.now).axes - l.axis

abbrev pub invariant-loop-index : goal.invariant-loop-index
invariant-loop-index g l =
    let rule = g.G.Goal.rule l.goal in
    record {
      fits : IsTuple rule.axes (places_of l.tuple);
      sound : All (λ best. IsSound rule best) l.kept;
    }
