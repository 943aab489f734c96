use Rattle.std.proofs.Common.{◌≡◌, ℕ, ◌*◌, ◌/◌, pos, sym, ap, ◌∙◌, arith}
use Rattle.std.specs.Prelude.{unsigned_abs}
use Rattle.std.proofs.lemmas.Int.{to_z-of_z}
use Rattle.gl_sphere.specs.Sine.{half_turn_sine, radians}
use Rattle.gl_sphere.specs.Lemmas.Series.{sine_term-first, sine_sum-first}
use Rattle.gl_sphere.proofs.series.Series.of.Goals as goal

radians-is : (n x : ℕ) → x ≡ n * 31415926535897932 / 1080000000 → x ≡ radians n
unfolding radians
radians-is n x h = h

pub returns : goal.returns
returns c =
    let size : c.unsigned_abs.result ≡ unsigned_abs c.args.n = grind (arith, to_z-of_z, c.unsigned_abs.ensures.value) in
    let angle : c.quotient-x.result ≡ radians c.quarter_angle-angle.result = radians-is _ _ c.quotient-x.ensures in
    record {
      angle = c.quarter_angle-angle.result;
      same = c.quarter_angle-angle.ensures.value ∙ ap half_turn_sine size;
      square_is = c.over_unit.ensures ∙ ap (λ (x : ℕ). x * x / 10000000000000000) angle;
      term_is = angle ∙ sym (sine_term-first (radians c.quarter_angle-angle.result));
      sum_is = ap pos angle ∙ sym (sine_sum-first (radians c.quarter_angle-angle.result));
    }
