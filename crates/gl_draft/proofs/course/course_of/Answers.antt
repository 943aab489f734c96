use Rattle.std.proofs.Common.{◌≡◌, ◌+◌, arith, refl, rules, subst, ℕ, List, length, false}
use Rattle.gl_cup.specs.declared.point.CupPoint.{CupPoint}
use Rattle.gl_draft.specs.Taken.{AreZonesFrom, HasNoFinish, IsStartIn, IsStartOf, finishless, is_start_line, startless, zoneless}
use Rattle.gl_draft.specs.Turn.{ArePair}
use Rattle.gl_draft.specs.declared.draft.Gate.{Gate}
use Rattle.gl_draft.proofs.course.course_of.Goals as goal

begins : (points : List CupPoint) (first next : CupPoint) (start : Gate) → ArePair points 0 first next → IsStartOf first next start → IsStartIn points start
begins points first next start pair is = record { first = first; next = next; pair = pair; start_is = is }

-- the leg to the finish begins at the last zone
at_last : (points : List CupPoint) (n m : ℕ) (from to : CupPoint) → n ≡ m → ArePair points n from to → ArePair points m from to
at_last points n m from to same pair = subst (λ (k : ℕ). ArePair points k from to) same pair

pub returns-in_default : goal.returns-in_default
returns-in_default c =
    let shape : is_start_line c.leg_at-first.result.from.now.zone ≡ false = search rules in
    startless c.leg_at-first.result.from.now c.leg_at-first.ensures.one_is shape refl refl

pub returns-in-Err : goal.returns-in-Err
returns-in-Err c = zoneless c.in-Some.start (begins _ _ _ _ c.leg_at-first.ensures c.in-Some.ensures.some) (rw c.in-Err.is at c.in_ok-zones.ensures.refused)

pub returns-in_default-finish_of : goal.returns-in_default-finish_of
returns-in_default-finish_of c =
    let are : AreZonesFrom c.args.points.now 1 c.in-Ok.zones.items = rw c.in-Ok.is at c.in_ok-zones.ensures.zones in
    let count : length c.args.points.now ≡ length c.in-Ok.zones.items + 2 = rw c.in-Ok.is at c.in_ok-zones.ensures.count in
    let pair : ArePair c.args.points.now (length c.in-Ok.zones.items) c.leg_at-last.result.from.now c.leg_at-last.result.to.now = at_last _ _ _ _ _ (omega (arith, count)) c.leg_at-last.ensures in
    let none : HasNoFinish c.leg_at-last.result.from.now c.leg_at-last.result.to.now = search rules in
    finishless c.in-Some.start (begins _ _ _ _ c.leg_at-first.ensures c.in-Some.ensures.some) c.in-Ok.zones.items are count _ _ pair none refl (omega (arith, count))

pub returns : goal.returns
returns c =
    let count : length c.args.points.now ≡ length c.in-Ok.zones.items + 2 = rw c.in-Ok.is at c.in_ok-zones.ensures.count in
    record {
      start_is = begins _ _ _ _ c.leg_at-first.ensures c.in-Some.ensures.some;
      zones_are = rw c.in-Ok.is at c.in_ok-zones.ensures.zones;
      count = count;
      last_turn = c.leg_at-last.result.from.now;
      last = c.leg_at-last.result.to.now;
      pair = at_last _ _ _ _ _ (omega (arith, count)) c.leg_at-last.ensures;
      finish_is = c.in-Some-finish_of.ensures.some;
    }
