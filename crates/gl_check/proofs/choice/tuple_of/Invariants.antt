use Rattle.std.proofs.Common.{◌≡◌, ℕ, ◌<◌, [], length, get_or}
use Rattle.gl_box.specs.Tuple.{places_of}
use Rattle.gl_goal.specs.Goal.{fix_at}
use Rattle.gl_check.proofs.choice.tuple_of.Given as goal

-- the axes so far have the places of their fixes
abbrev pub invariant-loop-axis : goal.invariant-loop-axis
invariant-loop-axis g l =
    let lists = (g.G.Goal.rule l.goal).axes in
    record {
      axes : l.tuple.axes ≡ length lists;
      within : (k : ℕ) → k < l.axis → get_or (places_of l.tuple) k 0 < length (get_or lists k []);
      there : (k : ℕ) → k < l.axis → fix_at lists k (get_or (places_of l.tuple) k 0) ≡ get_or l.fixes k 0;
    }
