use Rattle.std.proofs.Common.{◌≡◌, ℕ, ◌+◌, ◌*◌, ◌/◌, ◌≤◌, pos, ◌-ℤ◌, sym, subst, arith}
use Rattle.std.proofs.lemmas.Int.{ints}
use Rattle.gl_sphere.specs.Code.Quick.{IsNearTerm}
use Rattle.gl_sphere.specs.Range.{IsWithin}
use Rattle.gl_sphere.specs.Sine.{radians, sine_term, sine_sum}
use Rattle.gl_sphere.specs.Lemmas.Series.{sine_term-first, sine_sum-first}
use Rattle.gl_sphere.specs.Lemmas.Bounds.{square-at_most}
use Rattle.gl_sphere.proofs.QuickSums.{sine_term-bound, near_next, near_pair, near_sine}
use Rattle.gl_sphere.proofs.quick_sine.quick_sine.Goals as goal

pub loop-pair-init : goal.loop-pair-init
loop-pair-init c =
    let first = sine_term-first (radians c.args.n) in
    let sum = sine_sum-first (radians c.args.n) in
    record {
      in_range = omega arith;
      term_in_sum = omega arith;
      sum_in_range = omega arith;
      term_near = record { most = omega (arith, first); least = omega (arith, first) };
      sum_near = (omega (arith, ints, sum), omega (arith, ints, sum));
    }

pub loop-pair-preserved : goal.loop-pair-preserved
loop-pair-preserved c =
    let n = c.args.n in
    let pair = c.loop-pair.pair in
    let x = radians n in
    let before = c.loop-pair.invariant in
    let square_in = square-at_most n c.requires in
    let first = c.next_term-odd.ensures.near (sine_term x (2 * pair)) (x * x / 10000000000000000)
    (sine_term-bound n (2 * pair) c.requires) square_in c.quick_square-square.ensures before.term_near in
    let odd : IsNearTerm (sine_term x (2 * pair + 1)) c.next_term-odd.result =
    near_next x (2 * pair) (2 * pair + 1) c.next_term-odd.result (omega arith) first in
    let second = c.next_term-term.ensures.near (sine_term x (2 * pair + 1)) (x * x / 10000000000000000)
    (sine_term-bound n (2 * pair + 1) c.requires) square_in c.quick_square-square.ensures odd in
    let even : IsNearTerm (sine_term x (2 * pair + 2)) c.next_term-term.result =
    near_next x (2 * pair + 1) (2 * pair + 2) c.next_term-term.result (omega arith) second in
    let double : 2 * (pair + 1) ≡ 2 * pair + 2 = omega arith in
    let odd_falls : c.next_term-odd.result ≤ c.loop-pair.sum =
    omega (arith, c.next_term-odd.ensures.bound, before.term_in_sum) in
    let even_falls = c.next_term-term.ensures.bound in
    record {
      in_range = omega arith;
      term_in_sum = omega arith;
      sum_in_range = omega (arith, before.sum_in_range);
      term_near = subst (λ (k : ℕ). IsNearTerm (sine_term x k) c.next_term-term.result) (sym double) even;
      sum_near = near_pair x pair c.loop-pair.sum c.next_term-odd.result c.next_term-term.result before.sum_near odd even odd_falls;
    }

pub returns-clause-near : goal.returns-clause-near
returns-clause-near c =
    let last : c.loop-pair.pair ≡ 4 = omega (arith, c.loop-pair.invariant.in_range) in
    let near = subst
    (λ (pair : ℕ). IsWithin (8 * (2 * pair + 1)) (pos c.loop-pair.sum -ℤ sine_sum (radians c.args.n) (2 * pair + 1)))
    last c.loop-pair.invariant.sum_near in
    near_sine c.args.n c.loop-pair.sum c.min.result c.requires near c.min.ensures
