use Rattle.std.proofs.Common.{◌≡◌, ◌∙◌, suc, ◌+◌, ap, sym, take, length, [], ◌∷◌, ◌++◌, List, arith}
use Rattle.std.proofs.Math.Seq.{take-length}
use Rattle.gl_igc.specs.declared.fix.Fix.{Fix}
use Rattle.gl_places.proofs.Orders.{take_more}
use Rattle.gl_places.proofs.by_place.fixes_in_time.Goals as goal

pub loop-number-preserved : goal.loop-number-preserved
loop-number-preserved c =
    let next : suc c.loop-number.number ≡ c.loop-number.number + 1 = omega arith in
    c.in_ok-push.ensures.items
    ∙ ap (λ (fixes : List Fix). fixes ++ c.fix.result.now ∷ []) c.loop-number.invariant
    ∙ sym (take_more c.args.hulls.now c.loop-number.number c.fix.result.now c.fix.ensures)
    ∙ ap (λ count. take count c.args.hulls.now) next

pub returns : goal.returns
returns c =
    let all : c.loop-number.number ≡ length c.args.hulls.now = omega (arith, c.len-number-end.ensures) in
    c.loop-number.invariant ∙ ap (λ count. take count c.args.hulls.now) all ∙ take-length c.args.hulls.now
