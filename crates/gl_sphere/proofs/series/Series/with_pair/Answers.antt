use Rattle.std.proofs.Common.{◌≡◌, ◌+◌, ◌*◌, sym, ap, ◌∙◌, arith}
use Rattle.gl_sphere.specs.Sine.{radians, sine_term}
use Rattle.gl_sphere.specs.Lemmas.Series.{sine_term-after, sine_sum-pair}
use Rattle.gl_sphere.proofs.series.Series.with_pair.Goals as goal

pub returns : goal.returns
returns c n summed =
    let pair = c.args.pair in
    let x = radians summed.angle in
    let odd = c.next_term-odd.result in
    let even = c.next_term-even.result in
    let odd_is : odd ≡ sine_term x (2 * pair + 1) = sine_term-after x c.args.self.term c.args.self.square (2 * pair) (2 * pair + 1) odd
    (omega arith) summed.term_is summed.square_is c.next_term-odd.ensures.value in
    let even_is : even ≡ sine_term x (2 * pair + 2) = sine_term-after x odd c.args.self.square (2 * pair + 1) (2 * pair + 2) even
    (omega arith) odd_is summed.square_is c.next_term-even.ensures.value in
    let same : 2 * (pair + 1) ≡ 2 * pair + 2 = omega arith in
    record {
      angle = summed.angle;
      same = summed.same;
      square_is = summed.square_is;
      term_is = even_is ∙ ap (sine_term x) (sym same);
      sum_is = sine_sum-pair x (2 * pair) (2 * (pair + 1) + 1) c.args.self.sum odd even (omega arith) (omega arith) summed.sum_is odd_is even_is
          (omega (arith, c.next_term-odd.ensures.bound, c.args.self.term_in_sum));
    }
