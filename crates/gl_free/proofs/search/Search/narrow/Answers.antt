use Rattle.std.proofs.Common.{refl, arith}
use Rattle.gl_box.specs.Cell.{ends}
use Rattle.gl_free.proofs.SearchLemmas.{after-short, before-short, keeps-all, keeps-grown, narrowed, none-below, none-short}
use Rattle.gl_free.proofs.search.Search.narrow.Goals as goal

pub returns-clause-narrowed : goal.returns-clause-narrowed
returns-clause-narrowed c =
    let search = c.args.self.now in
    narrowed c.args.hulls.now c.args.sides.now (ends c.args.middle.now.span) search.best.total _ c.args.before c.args.after _ search.before.candidates.items search.after.candidates.items _ _ refl
    c.requires.part_before.within c.requires.part_after.within c.requires.below c.requires.found
    c.saturating_sub-need.ensures c.saturating_sub-need-2.ensures (omega arith) (omega arith) c.in_ok-before.ensures.sifts c.in_ok-after.ensures.sifts

pub returns-then-before-after-clause-best : goal.returns-then-before-after-clause-best
returns-then-before-after-clause-best c = refl

pub returns-then-before-after-clause-flanks : goal.returns-then-before-after-clause-flanks
returns-then-before-after-clause-flanks c =
    record { before = c.requires.flanks.before; after = c.requires.flanks.after }

pub returns-then-before-after-clause-kept_before : goal.returns-then-before-after-clause-kept_before
returns-then-before-after-clause-kept_before c =
    keeps-all c.args.before c.args.self.now.before.candidates.items c.requires.part_before.within

pub returns-then-before-after-clause-kept_after : goal.returns-then-before-after-clause-kept_after
returns-then-before-after-clause-kept_after c =
    keeps-all c.args.after c.args.self.now.after.candidates.items c.requires.part_after.within

pub returns-then-before-after-clause-narrowed : goal.returns-then-before-after-clause-narrowed
returns-then-before-after-clause-narrowed c =
    none-below c.args.hulls.now c.args.sides.now (ends c.args.middle.now.span) c.args.self.now.best.total c.args.before.most c.args.after.most c.requires.below c.if-before-after.true

pub refine-requires-clause-flank : goal.refine-requires-clause-flank
refine-requires-clause-flank c = c.requires.flanks.before

pub refine-requires-clause-middle : goal.refine-requires-clause-middle
refine-requires-clause-middle c = c.requires.middle

pub refine-requires-clause-part : goal.refine-requires-clause-part
refine-requires-clause-part c = c.requires.part_before

pub returns-then-before-eq0-clause-best : goal.returns-then-before-eq0-clause-best
returns-then-before-eq0-clause-best c = refl

pub returns-then-before-eq0-clause-flanks : goal.returns-then-before-eq0-clause-flanks
returns-then-before-eq0-clause-flanks c =
    record { before = c.in_ok-before.ensures.flank; after = c.requires.flanks.after }

pub returns-then-before-eq0-clause-kept_before : goal.returns-then-before-eq0-clause-kept_before
returns-then-before-eq0-clause-kept_before c =
    keeps-grown c.args.hulls.now c.args.sides.now.before (ends c.args.middle.now.span) c.args.before c.args.self.now.before.candidates.items c.refine.new.self.candidates.items c.requires.part_before.within
    c.in_ok-before.ensures.sifts.grows

pub returns-then-before-eq0-clause-kept_after : goal.returns-then-before-eq0-clause-kept_after
returns-then-before-eq0-clause-kept_after c =
    keeps-all c.args.after c.args.self.now.after.candidates.items c.requires.part_after.within

pub returns-then-before-eq0-clause-narrowed : goal.returns-then-before-eq0-clause-narrowed
returns-then-before-eq0-clause-narrowed c =
    let search = c.args.self.now in
    let short = before-short c.args.hulls.now c.args.sides.now (ends c.args.middle.now.span) search.best.total c.saturating_sub-need.result c.args.before c.args.after search.before.candidates.items
    search.after.candidates.items c.refine.new.self.candidates.items c.in_ok-before.before c.requires.below c.requires.found c.saturating_sub-need.ensures c.in_ok-before.ensures.sifts in
    λ better. none-short _ c.in_ok-before.before.most (short better) c.if-before-eq0.true

pub refine-requires-2-clause-flank : goal.refine-requires-2-clause-flank
refine-requires-2-clause-flank c = c.requires.flanks.after

pub refine-requires-2-clause-middle : goal.refine-requires-2-clause-middle
refine-requires-2-clause-middle c = c.requires.middle

pub refine-requires-2-clause-part : goal.refine-requires-2-clause-part
refine-requires-2-clause-part c = c.requires.part_after

pub returns-then-after-eq0-clause-best : goal.returns-then-after-eq0-clause-best
returns-then-after-eq0-clause-best c = refl

pub returns-then-after-eq0-clause-flanks : goal.returns-then-after-eq0-clause-flanks
returns-then-after-eq0-clause-flanks c =
    record { before = c.in_ok-before.ensures.flank; after = c.in_ok-after.ensures.flank }

pub returns-then-after-eq0-clause-kept_before : goal.returns-then-after-eq0-clause-kept_before
returns-then-after-eq0-clause-kept_before c =
    keeps-grown c.args.hulls.now c.args.sides.now.before (ends c.args.middle.now.span) c.args.before c.args.self.now.before.candidates.items c.refine.new.self.candidates.items c.requires.part_before.within
    c.in_ok-before.ensures.sifts.grows

pub returns-then-after-eq0-clause-kept_after : goal.returns-then-after-eq0-clause-kept_after
returns-then-after-eq0-clause-kept_after c =
    keeps-grown c.args.hulls.now c.args.sides.now.after (ends c.args.middle.now.span) c.args.after c.args.self.now.after.candidates.items c.refine-2.new.self.candidates.items c.requires.part_after.within
    c.in_ok-after.ensures.sifts.grows

pub returns-then-after-eq0-clause-narrowed : goal.returns-then-after-eq0-clause-narrowed
returns-then-after-eq0-clause-narrowed c =
    let search = c.args.self.now in
    let short = before-short c.args.hulls.now c.args.sides.now (ends c.args.middle.now.span) search.best.total c.saturating_sub-need.result c.args.before c.args.after search.before.candidates.items
    search.after.candidates.items c.refine.new.self.candidates.items c.in_ok-before.before c.requires.below c.requires.found c.saturating_sub-need.ensures c.in_ok-before.ensures.sifts in
    let short_after = after-short c.args.hulls.now c.args.sides.now (ends c.args.middle.now.span) search.best.total c.saturating_sub-need-2.result c.in_ok-before.before.most c.args.before c.args.after
    search.before.candidates.items search.after.candidates.items c.refine-2.new.self.candidates.items c.in_ok-after.after short c.requires.found c.saturating_sub-need-2.ensures c.in_ok-after.ensures.sifts in
    λ better. none-short _ c.in_ok-after.after.most (short_after better) c.if-after-eq0.true

pub returns-clause-best : goal.returns-clause-best
returns-clause-best c = refl

pub returns-clause-flanks : goal.returns-clause-flanks
returns-clause-flanks c =
    record { before = c.in_ok-before.ensures.flank; after = c.in_ok-after.ensures.flank }

pub returns-clause-kept_before : goal.returns-clause-kept_before
returns-clause-kept_before c =
    keeps-grown c.args.hulls.now c.args.sides.now.before (ends c.args.middle.now.span) c.args.before c.args.self.now.before.candidates.items c.refine.new.self.candidates.items c.requires.part_before.within
    c.in_ok-before.ensures.sifts.grows

pub returns-clause-kept_after : goal.returns-clause-kept_after
returns-clause-kept_after c =
    keeps-grown c.args.hulls.now c.args.sides.now.after (ends c.args.middle.now.span) c.args.after c.args.self.now.after.candidates.items c.refine-2.new.self.candidates.items c.requires.part_after.within
    c.in_ok-after.ensures.sifts.grows
