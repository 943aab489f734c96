use Rattle.std.proofs.Common.{◌≡◌, ◌+◌, ◌<◌, ◌≤ℤ◌, ◌<ℤ◌, ◌-ℤ◌, w32, sym, arith, ◌∙◌}
use Rattle.std.specs.Prelude.{unsigned_abs}
use Rattle.std.proofs.lemmas.Int.{ints, to_z-of_z}
use Rattle.gl_zone.proofs.Ways.{on_the_way-none, on_the_way-rising, on_the_way-falling}
use Rattle.gl_zone.proofs.way.on_the_way.Goals as goal

pub returns-then-share-eq0-clause-value : goal.returns-then-share-eq0-clause-value
returns-then-share-eq0-clause-value c =
    to_z-of_z w32 c.args.to c.ranges.to ∙ sym (on_the_way-none c.args.share.before c.args.share.behind c.args.from c.args.to c.if-share-eq0.true)

pub returns-then-from-to-clause-value : goal.returns-then-from-to-clause-value
returns-then-from-to-clause-value c =
    let gap : c.abs_diff.result ≡ unsigned_abs (c.args.from -ℤ c.args.to) = grind (arith, to_z-of_z, c.abs_diff.ensures) in
    let some : 0 < c.args.share.before + c.args.share.behind = omega arith in
    let le : c.args.from ≤ℤ c.args.to = omega (arith, ints) in
    let e = on_the_way-rising c.args.share.before c.args.share.behind c.abs_diff.result c.share_of_gap-step.result c.args.from c.args.to some le gap c.share_of_gap-step.ensures.value in
    omega (arith, ints)

pub returns-else-from-to-clause-value : goal.returns-else-from-to-clause-value
returns-else-from-to-clause-value c =
    let gap : c.abs_diff.result ≡ unsigned_abs (c.args.from -ℤ c.args.to) = grind (arith, to_z-of_z, c.abs_diff.ensures) in
    let some : 0 < c.args.share.before + c.args.share.behind = omega arith in
    let lt : c.args.to <ℤ c.args.from = omega (arith, ints) in
    let e = on_the_way-falling c.args.share.before c.args.share.behind c.abs_diff.result c.share_of_gap-step.result c.args.from c.args.to some lt gap c.share_of_gap-step.ensures.value in
    omega (arith, ints)
