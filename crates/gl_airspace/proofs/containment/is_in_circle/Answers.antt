use Rattle.std.proofs.Common.{◌≡◌, ◌∙◌, sym, subst, ℕ, ◌+◌, ◌*◌, ◌≤◌, false, arith}
use Rattle.std.specs.Prelude.{nat_lt}
use Rattle.gl_sphere.specs.Distance.{squared_chord}
use Rattle.gl_airspace.proofs.Chords.{far_is_outside}
use Rattle.gl_airspace.proofs.containment.is_in_circle.Goals as goal

pub returns-else-q-square_beyond : goal.returns-else-q-square_beyond
returns-else-q-square_beyond c =
    let radius : ℕ = c.args.circle.now.radius in
    let far : (radius + 1) * (radius + 1) ≤ c.sq-q.result = c.square_beyond.ensures c.sq-q.result c.sq-q.ensures.bound c.if-q-square_beyond.false in
    let beyond : (radius + 1) * (radius + 1) ≤ squared_chord c.args.at c.args.circle.now.centre = subst (λ (q : ℕ). (radius + 1) * (radius + 1) ≤ q) c.sq-q.ensures.value far in
    let test : nat_lt c.sq-q.result c.square_beyond.result ≡ false = grind arith in
    test ∙ sym (far_is_outside (squared_chord c.args.at c.args.circle.now.centre) radius beyond)
