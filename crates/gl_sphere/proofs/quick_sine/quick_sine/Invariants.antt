use Rattle.std.proofs.Common.{◌+◌, ◌*◌, ◌≤◌, pos, ◌-ℤ◌}
use Rattle.gl_sphere.specs.Code.Quick.{IsNearTerm}
use Rattle.gl_sphere.specs.Range.{IsWithin}
use Rattle.gl_sphere.specs.Sine.{radians, sine_term, sine_sum}
use Rattle.gl_sphere.proofs.quick_sine.quick_sine.Given as goal

abbrev pub invariant-loop-pair : goal.invariant-loop-pair
invariant-loop-pair l = record {
  in_range : l.pair ≤ 4;
  term_in_sum : l.term ≤ l.sum;
  sum_in_range : l.sum ≤ 20000000000000000;
  term_near : IsNearTerm (sine_term (radians l.n) (2 * l.pair)) l.term;
  sum_near : IsWithin (8 * (2 * l.pair + 1)) (pos l.sum -ℤ sine_sum (radians l.n) (2 * l.pair + 1));
}
