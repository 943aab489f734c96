use Rattle.std.proofs.Common.{◌∙◌, ap, ℕ, ◌+◌, ◌*◌, ◌/◌, refl, arith}
use Rattle.gl_sphere.proofs.Estimates.{estimate_near, made_exact}
use Rattle.gl_sphere.proofs.quotient.quotient_by_inverse.Goals as goal

pub overflow_sub-rest : goal.overflow_sub-rest
overflow_sub-rest c =
    (estimate_near c.args.n c.args.by c.args.inverse c.requires.least c.requires.below c.requires.above c.requires.in_range).below

pub overflow_cast-rest-3 : goal.overflow_cast-rest-3
overflow_cast-rest-3 c =
    let near = estimate_near c.args.n c.args.by c.args.inverse c.requires.least c.requires.below c.requires.above c.requires.in_range in
    omega (arith, near.below, near.above, c.requires.most)

pub returns : goal.returns
returns c =
    let near = estimate_near c.args.n c.args.by c.args.inverse c.requires.least c.requires.below c.requires.above c.requires.in_range in
    ap (λ (more : ℕ). c.args.n / 9007199254740992 * c.args.inverse / 18446744073709551616 + more) c.from.ensures ∙ made_exact c.args.n c.args.by _ _ refl near
