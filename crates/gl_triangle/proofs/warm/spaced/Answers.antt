use Rattle.std.proofs.Common.{sym, subst, ℕ, ◌<◌, arith}
use Rattle.std.specs.Prelude.{All}
use Rattle.std.proofs.lemmas.List.Elements.{All-push}
use Rattle.gl_triangle.proofs.warm.spaced.Goals as goal

pub spaced_place-requires-clause-within : goal.spaced_place-requires-clause-within
spaced_place-requires-clause-within c = omega (arith, c.min-count.ensures)

pub spaced_place-requires-clause-few : goal.spaced_place-requires-clause-few
spaced_place-requires-clause-few c = omega (arith, c.min-count.ensures)

pub loop-index-preserved : goal.loop-index-preserved
loop-index-preserved c =
    subst (All (λ (place : ℕ). place < c.args.len)) (sym c.in_ok-push.ensures.items)
    (All-push (λ (place : ℕ). place < c.args.len) c.loop-index.places.items c.spaced_place.result c.loop-index.invariant c.spaced_place.ensures)
