use Rattle.std.proofs.Common.{◌≡◌, ◌∙◌, sym, subst, ℕ, ◌<◌, ◌&&◌, eqb, true, List, length, get_or}
use Rattle.std.specs.Prelude.{All}
use Rattle.std.proofs.lemmas.Bool.{and_parts, eqb-true}
use Rattle.std.proofs.lemmas.List.Elements.{All-set}
use Rattle.gl_box.specs.Cell.{ends}
use Rattle.gl_box.specs.declared.span.Span.{Span}
use Rattle.gl_goal.specs.declared.free.FreeGoal.{FreeGoal}
use Rattle.gl_goal.specs.declared.leg.Leg.{Leg}
use Rattle.gl_goal.specs.FreeLegs.{IsLeg, most_between}
use Rattle.gl_goal.proofs.free.FreeGoal.most_by.Goals as goal

same_ends : (a b : Span) → (eqb a.lo b.lo && eqb a.hi b.hi) ≡ true → ends a ≡ ends b
same_ends a b same =
    let both = and_parts (eqb a.lo b.lo) (eqb a.hi b.hi) same in
    λ i. (eqb-true a.lo b.lo both.0 i, eqb-true a.hi b.hi both.1 i)

-- a leg that was measured has the greatest distance between its spans
known : (goal : FreeGoal) (legs : List Leg) (slot : ℕ) (leg : Leg) (from to : Span) → All (IsLeg goal) legs → slot < length legs → leg ≡ get_or legs slot leg → ends leg.from ≡ ends from
    → ends leg.to ≡ ends to → leg.most ≡ most_between goal.hulls (ends from) (ends to)
known goal legs slot leg from to are below is same_from same_to =
    let measured : IsLeg goal leg = subst (IsLeg goal) (sym is) (are slot leg below) in
    measured ∙ (λ i. most_between goal.hulls (same_from i) (same_to i))

pub returns-then-eq-2-clause-value : goal.returns-then-eq-2-clause-value
returns-then-eq-2-clause-value c =
    let leg = c.index-legs-slot.result in
    known c.args.self.now c.args.legs.now c.slot_of-slot.result leg c.args.from c.args.to c.requires.legs c.slot_of-slot.ensures c.index-legs-slot.is
    (same_ends leg.from c.args.from (sym c.eq.ensures ∙ c.if-eq.true)) (same_ends leg.to c.args.to (sym c.eq-then-eq.ensures ∙ c.if-eq-2.true))

pub returns-then-eq-2-clause-bound : goal.returns-then-eq-2-clause-bound
returns-then-eq-2-clause-bound c = c.index-legs-slot.result.below

pub returns-then-eq-2-clause-legs : goal.returns-then-eq-2-clause-legs
returns-then-eq-2-clause-legs c = c.requires.legs

pub measured-leg-requires-clause-from : goal.measured-leg-requires-clause-from
measured-leg-requires-clause-from c = c.requires.from

pub measured-leg-requires-clause-to : goal.measured-leg-requires-clause-to
measured-leg-requires-clause-to c = c.requires.to

pub returns-clause-value : goal.returns-clause-value
returns-clause-value c = c.measured-leg.ensures.value

pub returns-clause-bound : goal.returns-clause-bound
returns-clause-bound c = c.measured-leg.result.below

pub returns-clause-legs : goal.returns-clause-legs
returns-clause-legs c =
    All-set (IsLeg c.args.self.now) c.args.legs.now c.slot_of-slot.result c.measured-leg.result c.measured-leg.ensures.leg c.requires.legs
