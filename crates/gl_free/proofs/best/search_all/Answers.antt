use Rattle.std.proofs.Common.{◌≡◌, subst, length, List, arith}
use Rattle.gl_free.specs.declared.altitudes.Altitudes.{Altitudes}
use Rattle.gl_free.specs.Code.Ranges.{AreLeft}
use Rattle.gl_free.proofs.RangeLemmas.{left-none, left-whole}
use Rattle.gl_free.proofs.best.search_all.Goals as goal

pub loop-range-init : goal.loop-range-init
loop-range-init c = record {
  valid = c.requires.valid;
  flanks = c.requires.flanks;
  left = left-whole c.args.hulls.now c.args.goal.now.loss _ c.in_ok-ranges.ranges.items c.push.new.self.items c.all_altitudes.result c.in_ok-push.ensures.items c.all_altitudes.ensures;
}

pub advance-requires-clause-some : goal.advance-requires-clause-some
advance-requires-clause-some c = c.requires.some

pub advance-requires-clause-valid : goal.advance-requires-clause-valid
advance-requires-clause-valid c = c.loop-range.invariant.valid

pub advance-requires-clause-flanks : goal.advance-requires-clause-flanks
advance-requires-clause-flanks c = c.loop-range.invariant.flanks

pub advance-requires-clause-left : goal.advance-requires-clause-left
advance-requires-clause-left c =
    let P : List Altitudes → Type 0 = AreLeft c.args.hulls.now c.args.goal.now.loss c.loop-range.search.best.total in
    subst P c.in-Some.ensures.items c.loop-range.invariant.left

pub loop-range-preserved : goal.loop-range-preserved
loop-range-preserved c = record { valid = c.in_ok-advance.ensures.valid; flanks = c.in_ok-advance.ensures.flanks; left = c.in_ok-advance.ensures.left }

pub returns-clause-valid : goal.returns-clause-valid
returns-clause-valid c = c.loop-range.invariant.valid

pub returns-clause-best : goal.returns-clause-best
returns-clause-best c =
    let empty : length c.loop-range.ranges.items ≡ 0 = omega (arith, c.in_default.ensures.cases.0, c.loop-range.ranges.ok.0) in
    left-none c.args.hulls.now c.args.goal.now.loss c.loop-range.search.best.total c.loop-range.ranges.items empty c.loop-range.invariant.left
