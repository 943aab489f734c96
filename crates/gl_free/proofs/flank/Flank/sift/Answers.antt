use Rattle.std.proofs.Common.{refl, inr, ◌+◌, arith}
use Rattle.gl_box.specs.Cell.{ends}
use Rattle.gl_goal.specs.Near.{IsPlaceOf}
use Rattle.gl_free.specs.declared.candidate.Candidate.{Candidate}
use Rattle.gl_free.specs.Code.Candidates.{Sifts}
use Rattle.gl_free.proofs.SiftLemmas.{candidate-made, exact-made, flank-kept, halves-parts, sifts-kept, sifts-less, sifts-low, sifts-parts, sifts-past}
use Rattle.gl_free.proofs.flank.Flank.sift.Goals as goal
use Rattle.gl_free.proofs.flank.Flank.sift.Goals.{then-most-need-via-then-most-need, then-most-need-via-else-most-need+then-is_out}

pub returns-then-width-clause-sifts : goal.returns-then-width-clause-sifts
returns-then-width-clause-sifts c =
    let fixes = c.args.hulls.now in
    let allowed = c.args.allowed.now in
    let middle = ends c.args.middle.now.span in
    let span = c.args.candidate.span in
    let lower = c.halves.result.0 in
    let upper = c.halves.result.1 in
    sifts-parts fixes allowed middle c.args.need (IsPlaceOf (ends span)) (IsPlaceOf (ends lower))
    (IsPlaceOf (ends upper)) c.args.self.now.candidates.items c.put.new.self.candidates.items c.put-then-width.new.self.candidates.items c.args.arm.now.most c.put.new.arm c.put-then-width.new.arm
    (λ inner inside. halves-parts lower.lo lower.hi upper.lo upper.hi inner c.halves.ensures.next (omega (arith, inside.0, c.halves.ensures.first), omega (arith, inside.1, c.halves.ensures.last)))
    c.in_ok-put.ensures.sifts c.in_ok-put-2.ensures.sifts

pub returns-clause-sifts : goal.returns-clause-sifts
returns-clause-sifts c =
    let fixes = c.args.hulls.now in
    let allowed = c.args.allowed.now in
    let middle = ends c.args.middle.now.span in
    let old = c.args.candidate in
    let leg = c.leg_from.result in
    let candidate : Candidate = record { span = old.span; far = old.far; most = old.far.value + leg } in
    let is = candidate-made fixes allowed middle candidate leg c.requires.candidate.within c.requires.candidate.some_end c.requires.candidate.farthest c.leg_from.ensures.most
    (omega arith) c.leg_from.ensures.bound in
    sifts-kept fixes allowed middle c.args.need candidate c.args.self.now.candidates.items c.keep.new.self.candidates.items c.args.arm.now c.keep.new.arm c.args.middle.now.span.ordered c.requires.top
    is
    (exact-made fixes allowed middle candidate leg (λ past. grind (arith, c.is_out.ensures.1 past)) (omega arith) c.leg_from.ensures.most (omega arith))
    c.in_ok-keep.ensures.single c.in_ok-keep.ensures.wide c.keep.ensures.greater c.keep.ensures.not_greater

pub returns-then-most-need-clause-flank : goal.returns-then-most-need-clause-flank
returns-then-most-need-clause-flank c = c.requires.flank

pub put-requires-clause-flank : goal.put-requires-clause-flank
put-requires-clause-flank c = c.requires.flank

pub put-requires-clause-middle : goal.put-requires-clause-middle
put-requires-clause-middle c = c.requires.middle

pub put-requires-clause-beyond : goal.put-requires-clause-beyond
put-requires-clause-beyond c =
    let far = c.requires.candidate.farthest in
    let halves = c.halves.ensures in
    λ end inner at is_end. far.above end inner (omega (arith, at.0, halves.first), omega (arith, at.1, halves.next, halves.last, c.halves.result.1.ordered)) is_end

pub put-requires-clause-limited : goal.put-requires-clause-limited
put-requires-clause-limited c = c.requires.candidate.farthest.limited

pub put-requires-clause-top : goal.put-requires-clause-top
put-requires-clause-top c = c.requires.top

pub put-requires-then-width-clause-flank : goal.put-requires-then-width-clause-flank
put-requires-then-width-clause-flank c = c.in_ok-put.ensures.flank

pub put-requires-then-width-clause-middle : goal.put-requires-then-width-clause-middle
put-requires-then-width-clause-middle c = c.requires.middle

pub put-requires-then-width-clause-beyond : goal.put-requires-then-width-clause-beyond
put-requires-then-width-clause-beyond c =
    let far = c.requires.candidate.farthest in
    let halves = c.halves.ensures in
    λ end inner at is_end. far.above end inner (omega (arith, at.0, halves.first, halves.next, c.halves.result.0.ordered), omega (arith, at.1, halves.last)) is_end

pub put-requires-then-width-clause-limited : goal.put-requires-then-width-clause-limited
put-requires-then-width-clause-limited c = c.requires.candidate.farthest.limited

pub put-requires-then-width-clause-top : goal.put-requires-then-width-clause-top
put-requires-then-width-clause-top c = c.in_ok-put.ensures.sifts.top

pub returns-then-width-clause-flank : goal.returns-then-width-clause-flank
returns-then-width-clause-flank c = c.in_ok-put-2.ensures.flank

pub leg_from-requires-clause-node : goal.leg_from-requires-clause-node
leg_from-requires-clause-node c = c.requires.middle

pub leg_from-requires-clause-inside : goal.leg_from-requires-clause-inside
leg_from-requires-clause-inside c = c.requires.candidate.within

pub returns-then-most-need-2-clause-flank : goal.returns-then-most-need-2-clause-flank
returns-then-most-need-2-clause-flank c = c.requires.flank

pub returns-then-most-need-clause-sifts : goal.returns-then-most-need-clause-sifts
returns-then-most-need-clause-sifts c =
    let fixes = c.args.hulls.now in
    let allowed = c.args.allowed.now in
    let middle = ends c.args.middle.now.span in
    let span = ends c.args.candidate.span in
    let list = c.args.self.now.candidates.items in
    let none : Sifts fixes allowed middle c.args.need (IsPlaceOf span) list list c.args.arm.now.most c.args.arm.now = elim c.then-most-need.branch [
      | then-most-need-via-then-most-need w ↦ sifts-less fixes allowed middle c.args.need c.args.candidate list c.args.arm.now c.requires.top c.requires.candidate w.if-most-need.true
      | then-most-need-via-else-most-need+then-is_out w ↦ sifts-past fixes allowed middle span c.args.need list c.args.arm.now c.requires.top (w.is_out.ensures.0 w.if-is_out.true)
    ] in
    none

pub returns-then-most-need-2-clause-sifts : goal.returns-then-most-need-2-clause-sifts
returns-then-most-need-2-clause-sifts c =
    sifts-low c.args.hulls.now c.args.allowed.now (ends c.args.middle.now.span) (ends c.args.candidate.span) c.args.need c.args.need c.args.candidate.far.value c.leg_from.result
    c.args.self.now.candidates.items c.args.arm.now c.requires.top c.requires.candidate.farthest.above c.leg_from.ensures.most (inr c.if-most-need-2.true) (omega arith)
    (λ wide. refl)

pub returns-clause-flank : goal.returns-clause-flank
returns-clause-flank c = flank-kept c.args.hulls.now c.args.self.now c.keep.new.self c.keep.ensures.known c.requires.flank
