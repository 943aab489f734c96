use Rattle.std.proofs.Common.{◌∙◌, ap, refl, sym, ℕ, List, [], ◌<◌, ◌∷◌, length, get_or, map, Vec, Global, arith}
use Rattle.std.proofs.lemmas.Bool.{eqb-false, eqb-true}
use Rattle.std.proofs.lemmas.List.{length-map, map-append}
use Rattle.gl_sphere.specs.declared.place.Vec3.{Vec3}
use Rattle.gl_badge.proofs.Nearby.{all-reached, empty_list, few-counted, few-lists, fits-few, fits-one_more, one-missed, one-reached}
use Rattle.gl_badge.proofs.declared.course_through.Goals as goal

pub returns-then-is_empty : goal.returns-then-is_empty
returns-then-is_empty c =
    let points = c.args.points.items in
    let within : c.loop-point.point-index < length points = omega (arith, c.loop-point-test.true, ap length c.as_slice-point-items.ensures.value) in
    one-missed c.args.fixes.now points c.loop-point.point-index _ c.point-item.result _ within (c.point-item.is
    ∙ ap (λ (ps : List Vec3). get_or ps c.loop-point.point-index c.point-item.result) c.as_slice-point-items.ensures.value)
    (omega (arith, length-map c.loop-point.lists.items (λ (list : Vec ℕ Global). list.items), c.len-then-is_empty.ensures, c.loop-point.lists.ok.0))
    (sym c.in_ok-numbers.ensures ∙ empty_list _ (omega (arith, eqb-true _ _ (sym c.is_empty.ensures ∙ c.if-is_empty.true), c.in_ok-numbers.numbers.ok.0))) c.loop-point.invariant

pub loop-point-preserved : goal.loop-point-preserved
loop-point-preserved c =
    let points = c.args.points.items in
    let within : c.loop-point.point-index < length points = omega (arith, c.loop-point-test.true, ap length c.as_slice-point-items.ensures.value) in
    let pushed = ap (map (λ (list : Vec ℕ Global). list.items)) c.in_ok-push.ensures.items ∙ map-append (λ (list : Vec ℕ Global). list.items) c.loop-point.lists.items (c.in_ok-numbers.numbers ∷ []) in
    one-reached c.args.fixes.now points c.loop-point.point-index c.point-item.result c.in_ok-numbers.numbers.items _ _ within (c.point-item.is
    ∙ ap (λ (ps : List Vec3). get_or ps c.loop-point.point-index c.point-item.result) c.as_slice-point-items.ensures.value) c.in_ok-numbers.ensures
    (omega (arith, eqb-false _ _ (sym c.is_empty.ensures ∙ c.if-is_empty.false), c.in_ok-numbers.numbers.ok.0)) pushed c.loop-point.invariant

pub overflow_cast-result : goal.overflow_cast-result
overflow_cast-result c =
    fits-few c.len-then-is_empty.result (
    few-counted c.len-then-is_empty.result c.loop-point.lists.len c.loop-point.lists.items c.len-then-is_empty.ensures c.loop-point.lists.ok.0
    (few-lists c.args.fixes.now c.args.points.items c.loop-point.point-index (map (λ (list : Vec ℕ Global). list.items) c.loop-point.lists.items) c.requires.points c.loop-point.invariant)
    )

pub overflow_add-result : goal.overflow_add-result
overflow_add-result c =
    fits-one_more c.len-then-is_empty.result (
    few-counted c.len-then-is_empty.result c.loop-point.lists.len c.loop-point.lists.items c.len-then-is_empty.ensures c.loop-point.lists.ok.0
    (few-lists c.args.fixes.now c.args.points.items c.loop-point.point-index (map (λ (list : Vec ℕ Global). list.items) c.loop-point.lists.items) c.requires.points c.loop-point.invariant)
    )

pub returns : goal.returns
returns c =
    let lists = map (λ (list : Vec ℕ Global). list.items) c.loop-point.lists.items in
    (all-reached c.args.fixes.now c.args.points.items c.as_slice-point-items.result.now c.loop-point.point-index lists c.as_slice-point-items.ensures.value c.loop-point-test.false c.loop-point.invariant, refl)
