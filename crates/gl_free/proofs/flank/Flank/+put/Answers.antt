use Rattle.std.proofs.Common.{◌≡◌, subst, inl, inr, ◌⊎◌, ◌+◌, ◌<◌, ◌≤◌, List, length, arith}
use Rattle.gl_box.specs.Cell.{ends}
use Rattle.gl_goal.specs.Near.{IsPlaceOf}
use Rattle.gl_free.specs.declared.candidate.Candidate.{Candidate}
use Rattle.gl_free.specs.declared.flank.Flank.{Flank}
use Rattle.gl_free.specs.Code.Candidates.{Sifts}
use Rattle.gl_free.proofs.SiftLemmas.{candidate-made, exact-made, flank-kept, halves-parts, sifts-kept, sifts-low, sifts-parts, sifts-past}
use Rattle.gl_free.proofs.flank.Flank.+put.Goals as goal
use Rattle.gl_free.proofs.flank.Flank.+put.Goals.{then-far-eq0-via-then-far-eq0, then-far-eq0-via-else-far-eq0+then-most-need_now}

pub returns-then-width-clause-sifts : goal.returns-then-width-clause-sifts
returns-then-width-clause-sifts t c =
    let fixes = c.args.hulls.now in
    let allowed = c.args.allowed.now in
    let middle = ends c.args.middle.now.span in
    let far = c.farthest-far.result in
    let leg = c.leg_from-leg.result in
    let candidate : Candidate = record { span = c.args.inner.span; far = far; most = far.value + leg } in
    let is = candidate-made fixes allowed middle candidate leg c.requires.inside (omega arith) c.farthest-far.ensures.farthest c.leg_from-leg.ensures.most (omega arith) c.leg_from-leg.ensures.bound in
    let P : Flank → Type 0 = λ flank. Sifts fixes allowed middle c.args.need
    (IsPlaceOf (ends c.args.inner.span)) flank.candidates.items c.keep.new.self.candidates.items c.args.arm.now.most c.keep.new.arm in
    let Q : List Candidate → Type 0 = λ old. Sifts fixes allowed middle c.args.need (IsPlaceOf (ends c.args.inner.span)) old c.keep.new.self.candidates.items c.args.arm.now.most c.keep.new.arm in
    subst Q (λ i. (c.farthest-far.ensures.candidates i).items)
    (sifts-kept fixes allowed middle c.args.need candidate c.farthest-far.new.self.candidates.items c.keep.new.self.candidates.items c.args.arm.now c.keep.new.arm c.args.middle.now.span.ordered
    c.requires.top is
    (exact-made fixes allowed middle candidate leg (λ past. grind (arith, c.is_out.ensures.1 past)) (omega arith) c.leg_from-leg.ensures.most (omega arith))
    c.in_ok-keep.ensures.single c.in_ok-keep.ensures.wide c.keep.ensures.greater c.keep.ensures.not_greater)

pub returns-clause-sifts : goal.returns-clause-sifts
returns-clause-sifts t c =
    let fixes = c.args.hulls.now in
    let allowed = c.args.allowed.now in
    let middle = ends c.args.middle.now.span in
    let lower = c.halves.result.0 in
    let upper = c.halves.result.1 in
    let Q : List Candidate → Type 0 = λ old. Sifts fixes allowed middle c.args.need (IsPlaceOf (ends c.args.inner.span)) old c.put-2.new.self.candidates.items c.args.arm.now.most c.put-2.new.arm in
    subst Q (λ i. (c.farthest-far.ensures.candidates i).items)
    (sifts-parts fixes allowed middle c.args.need (IsPlaceOf (ends c.args.inner.span)) (IsPlaceOf (ends lower))
    (IsPlaceOf (ends upper)) c.farthest-far.new.self.candidates.items c.put.new.self.candidates.items c.put-2.new.self.candidates.items c.args.arm.now.most c.put.new.arm c.put-2.new.arm
    (λ inner inside. halves-parts lower.lo lower.hi upper.lo upper.hi inner c.halves.ensures.next (omega (arith, inside.0, c.halves.ensures.first), omega (arith, inside.1, c.halves.ensures.last)))
    c.in_ok-put.ensures.sifts c.in_ok-put-2.ensures.sifts)

pub returns-then-is_out-clause-flank : goal.returns-then-is_out-clause-flank
returns-then-is_out-clause-flank t c = c.requires.flank

pub leg_from-leg-requires-clause-node : goal.leg_from-leg-requires-clause-node
leg_from-leg-requires-clause-node t c = c.requires.middle

pub leg_from-leg-requires-clause-inside : goal.leg_from-leg-requires-clause-inside
leg_from-leg-requires-clause-inside t c = c.requires.inside

pub returns-then-above-leg-clause-flank : goal.returns-then-above-leg-clause-flank
returns-then-above-leg-clause-flank t c = c.requires.flank

pub farthest-far-requires-clause-flank : goal.farthest-far-requires-clause-flank
farthest-far-requires-clause-flank t c = c.requires.flank

pub farthest-far-requires-clause-inside : goal.farthest-far-requires-clause-inside
farthest-far-requires-clause-inside t c = c.requires.inside

pub returns-then-far-eq0-clause-flank : goal.returns-then-far-eq0-clause-flank
returns-then-far-eq0-clause-flank t c = c.farthest-far.ensures.flank

pub put-requires : goal.put-requires
put-requires t c =
    let far = c.farthest-far.ensures.farthest in
    let halves = c.halves.ensures in
    let inside : c.halves.result.0.hi < length c.args.hulls.now = omega (arith, c.requires.inside, halves.next, halves.last, c.halves.result.1.ordered) in (
      omega (arith, halves.first, halves.next, halves.last, c.halves.result.1.ordered, c.if-width.false),
      (c.farthest-far.ensures.flank, (c.requires.middle, (inside, (λ end inner at is_end. far.above end inner (omega (arith, at.0, halves.first), omega (arith, at.1, halves.next, halves.last, c.halves.result.1.ordered)) is_end, (far.limited, c.requires.top))))),
    )

pub put-requires-2 : goal.put-requires-2
put-requires-2 t c =
    let far = c.farthest-far.ensures.farthest in
    let halves = c.halves.ensures in
    let inside : c.halves.result.1.hi < length c.args.hulls.now = omega (arith, c.requires.inside, halves.last) in (
      omega (arith, halves.first, halves.next, halves.last, c.halves.result.0.ordered, c.if-width.false),
      (c.in_ok-put.ensures.flank, (c.requires.middle, (inside, (λ end inner at is_end. far.above end inner (omega (arith, at.0, halves.first, halves.next, c.halves.result.0.ordered), omega (arith, at.1, halves.last)) is_end, (far.limited, c.in_ok-put.ensures.sifts.top))))),
    )

pub returns-clause-flank : goal.returns-clause-flank
returns-clause-flank t c = c.in_ok-put-2.ensures.flank

pub returns-then-is_out-clause-sifts : goal.returns-then-is_out-clause-sifts
returns-then-is_out-clause-sifts t c =
    sifts-past c.args.hulls.now c.args.allowed.now (ends c.args.middle.now.span) (ends c.args.inner.span) c.args.need c.args.self.now.candidates.items c.args.arm.now c.requires.top
    (c.is_out.ensures.0 c.if-is_out.true)

pub returns-then-above-leg-clause-sifts : goal.returns-then-above-leg-clause-sifts
returns-then-above-leg-clause-sifts t c =
    let floor = c.floor-need_now.ensures in
    sifts-low c.args.hulls.now c.args.allowed.now (ends c.args.middle.now.span) (ends c.args.inner.span) c.args.need c.floor-need_now.result c.args.inner.far.value c.leg_from-leg.result
    c.args.self.now.candidates.items c.args.arm.now c.requires.top c.requires.beyond c.leg_from-leg.ensures.most (inr c.if-above-leg.true) floor.at_most floor.wide

pub returns-then-far-eq0-clause-sifts : goal.returns-then-far-eq0-clause-sifts
returns-then-far-eq0-clause-sifts t c =
    let middle = ends c.args.middle.now.span in
    let span = ends c.args.inner.span in
    let floor = c.floor-need_now.ensures in
    let new = c.farthest-far.new.self.candidates.items in
    let low : (c.farthest-far.result.value ≡ 0) ⊎ (c.farthest-far.result.value + c.leg_from-leg.result ≤ c.floor-need_now.result) = elim c.then-far-eq0.branch [
      | then-far-eq0-via-then-far-eq0 w ↦ inl w.if-far-eq0.true
      | then-far-eq0-via-else-far-eq0+then-most-need_now w ↦ inr w.if-most-need_now.true
    ] in
    let Q : List Candidate → Type 0 = λ old. Sifts c.args.hulls.now c.args.allowed.now middle c.args.need (IsPlaceOf span) old new c.args.arm.now.most c.args.arm.now in
    subst Q (λ i. (c.farthest-far.ensures.candidates i).items)
    (sifts-low c.args.hulls.now c.args.allowed.now middle span c.args.need c.floor-need_now.result c.farthest-far.result.value c.leg_from-leg.result new c.args.arm.now c.requires.top
    c.farthest-far.ensures.farthest.above c.leg_from-leg.ensures.most low floor.at_most floor.wide)

pub returns-then-width-clause-flank : goal.returns-then-width-clause-flank
returns-then-width-clause-flank t c = flank-kept c.args.hulls.now c.farthest-far.new.self c.keep.new.self c.keep.ensures.known c.farthest-far.ensures.flank
