use Rattle.std.proofs.Common.{sym, subst, ℕ, ◌*◌, ◌<◌, ◌≤◌, arith}
use Rattle.std.specs.Prelude.{All}
use Rattle.std.proofs.Math.Nat.{mul-le-mul}
use Rattle.std.proofs.lemmas.List.Elements.{All-push}
use Rattle.gl_triangle.proofs.warm.around.Goals as goal

-- the steps from the first of the places to another
forth : (index step len : ℕ) → index < 13 → step ≤ len → index * step ≤ 12 * len
forth index step len few within = mul-le-mul (omega arith) within

pub overflow_mul-index : goal.overflow_mul-index
overflow_mul-index c = omega (arith, forth c.loop-index.index c.args.step c.args.len (omega arith) c.requires.step)

pub overflow_add-place : goal.overflow_add-place
overflow_add-place c = omega (arith, forth c.loop-index.index c.args.step c.args.len (omega arith) c.requires.step)

pub overflow_mul-step : goal.overflow_mul-step
overflow_mul-step c = omega arith

pub loop-index-preserved : goal.loop-index-preserved
loop-index-preserved c =
    subst (All (λ (place : ℕ). place < c.args.len)) (sym c.in_ok-push.ensures.items)
    (All-push (λ (place : ℕ). place < c.args.len) c.loop-index.places.items c.min.result c.loop-index.invariant (omega (arith, c.min.ensures)))
