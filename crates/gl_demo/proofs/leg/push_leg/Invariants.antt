use Rattle.std.proofs.Common.{◌≡◌, ◌*◌, ◌++◌, map}
use Rattle.std.specs.List.{concat, range_with_len}
use Rattle.gl_demo.specs.Draws.{after}
use Rattle.gl_demo.specs.Leg.{fix_line}
use Rattle.gl_demo.proofs.leg.push_leg.Given as goal

abbrev pub invariant-loop-fix : goal.invariant-loop-fix
invariant-loop-fix l =
    (l.text.items
    ≡ l.initial.text.items ++ concat (map (fix_line l.leg l.initial.draws.value) (range_with_len 0 l.fix)))
    × (l.draws.value ≡ after (2 * l.fix) l.initial.draws.value)
