use Rattle.std.proofs.Common.{◌≡◌, ◌∙◌, sym, ap, refl, subst, ℕ, ◌+◌, length, arith}
use Rattle.gl_sphere.specs.Distance.{squared_chord, written_distance}
use Rattle.gl_igc.specs.declared.fix.Fix.{Fix}
use Rattle.gl_near.proofs.Squares.{HasSquare, NoneLess, none_first, none_more, slice_get_of, square_least}
use Rattle.gl_near.proofs.nearest.nearest_fix.Goals as goal
use Rattle.gl_near.proofs.nearest.nearest_fix.Goals.{then-square-least, else-square-least}

pub loop-number-init : goal.loop-number-init
loop-number-init c =
    let has : HasSquare c.args.flight.now c.args.point c.sq-least.result 0 =
    record {
      fix = c.index-flight-0.result;
      there = slice_get_of c.args.flight.now 0 c.index-flight-0.result c.requires.some c.index-flight-0.is;
      is =
          ap (λ (fix : Fix). squared_chord fix.at c.args.point) c.index-flight-0.is ∙ sym c.sq-least.ensures.value;
    } in
    record { has = has; none = none_first c.args.flight.now c.args.point c.sq-least.result has; small = c.sq-least.ensures.bound }

pub loop-number-preserved : goal.loop-number-preserved
loop-number-preserved c =
    let l = c.loop-number in
    let flight = c.args.flight.now in
    let square = c.sq-square.result in
    let here : HasSquare flight c.args.point square l.number = record {
      fix = c.index-flight-number.result;
      there =
          slice_get_of flight l.number c.index-flight-number.result c.loop-number-test.true c.index-flight-number.is;
      is = ap (λ (fix : Fix). squared_chord fix.at c.args.point) c.index-flight-number.is
          ∙ sym c.sq-square.ensures.value;
    } in
    elim c.if-square-least.branch [
      | then-square-least w ↦
          record {
            has = subst (HasSquare flight c.args.point c.if-square-least.least) (sym w.first-is) (subst (λ (s : ℕ). HasSquare flight c.args.point s l.number) (sym w.least-is) here);
            none = subst (λ (s : ℕ). NoneLess flight c.args.point s (l.number + 1)) (sym w.least-is)
                (none_more flight c.args.point l.least square square l.number l.invariant.none here (omega (arith, w.if-square-least.true)) (omega arith));
            small = omega (arith, w.least-is, c.sq-square.ensures.bound);
          }
      | else-square-least w ↦
          record {
            has = subst (HasSquare flight c.args.point c.if-square-least.least) (sym w.first-is) (subst (λ (s : ℕ). HasSquare flight c.args.point s l.first) (sym w.least-is) l.invariant.has);
            none = subst (λ (s : ℕ). NoneLess flight c.args.point s (l.number + 1)) (sym w.least-is)
                (none_more flight c.args.point l.least square l.least l.number l.invariant.none here (omega arith) (omega (arith, w.if-square-least.false)));
            small = omega (arith, w.least-is, l.invariant.small);
          }
    ]

pub dist-requires : goal.dist-requires
dist-requires c = c.loop-number.invariant.small

pub returns-clause-reached : goal.returns-clause-reached
returns-clause-reached c =
    let has = c.loop-number.invariant.has in
    record { fix = has.fix; there = has.there; only = refl; is = ap written_distance has.is ∙ sym c.dist.ensures.value }

pub returns-clause-least : goal.returns-clause-least
returns-clause-least c =
    let l = c.loop-number in
    let all : l.number ≡ length c.args.flight.now = omega (arith, c.loop-number-test.false, l.auto, c.requires.some) in
    square_least c.args.flight.now c.args.point l.least l.first c.dist.result l.invariant.has
    (subst (NoneLess c.args.flight.now c.args.point l.least) all l.invariant.none) c.dist.ensures.value c.dist.ensures.to_above
