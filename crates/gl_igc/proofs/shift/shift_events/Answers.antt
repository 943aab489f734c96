use Rattle.std.proofs.Common.{sym, subst, ℤ, pos, ◌+ℤ◌, to_z, of_z, w32, arith, get_or}
use Rattle.std.specs.Prelude.{◌≤ℤ◌, ◌<ℤ◌}
use Rattle.std.proofs.lemmas.Int.{ints}
use Rattle.gl_igc.proofs.ShiftLemmas.{plain, second-below, moved-more, moved-is, left-more}
use Rattle.gl_igc.proofs.shift.shift_events.Goals as goal

pub moved-requires-clause-least : goal.moved-requires-clause-least
moved-requires-clause-least c =
    let l = c.loop-second in
    let range = second-below 500_000 l.second-items c.args.seconds.now.items l.second-index (pos 0) c.requires.below l.invariant.left (omega arith) in
    let same = plain (get_or l.second-items l.second-index (pos 0)) (grind (arith, ints)) (grind (arith, ints)) in
    subst (λ (x : ℤ). pos 0 ≤ℤ x) (sym same) range.0

pub moved-requires-clause-most : goal.moved-requires-clause-most
moved-requires-clause-most c =
    let l = c.loop-second in
    let range = second-below 500_000 l.second-items c.args.seconds.now.items l.second-index (pos 0) c.requires.below l.invariant.left (omega arith) in
    let same = plain (get_or l.second-items l.second-index (pos 0)) (grind (arith, ints)) (grind (arith, ints)) in
    subst (λ (x : ℤ). x <ℤ pos 500_000) (sym same) range.1

pub loop-second-preserved : goal.loop-second-preserved
loop-second-preserved c =
    let l = c.loop-second in
    let shift : ℤ = to_z w32 (of_z w32 c.args.shift) in
    let range = second-below 500_000 l.second-items c.args.seconds.now.items l.second-index (pos 0) c.requires.below l.invariant.left (omega arith) in
    let result = moved-is c.moved.result (get_or l.second-items l.second-index (pos 0)) c.args.shift c.moved.ensures range c.requires.shift in
    record {
      moved = moved-more (λ second. second +ℤ shift) l.second-items c.args.seconds.now.items l.second-index (to_z w32 (of_z w32 c.moved.result)) (pos 0) l.invariant.moved l.invariant.left
          (omega arith) result;
      left = left-more l.second-items c.args.seconds.now.items l.second-index (to_z w32 (of_z w32 c.moved.result)) l.invariant.left;
    }
