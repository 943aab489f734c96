use Rattle.std.proofs.Common.{sym, ap, subst, ℤ, pos, to_z, of_z, w32, arith, get_or, Option, ℕ}
use Rattle.std.specs.Prelude.{◌≤ℤ◌, ◌<ℤ◌}
use Rattle.std.proofs.lemmas.Int.{ints}
use Rattle.gl_igc.specs.Reading.{Sighting}
use Rattle.gl_igc.specs.UsedFixes.{seconds_limit}
use Rattle.gl_igc.proofs.ShiftLemmas.{plain, fix-below, fix-more, moved-is, left-more}
use Rattle.gl_igc.proofs.shift.shift_fixes.Goals as goal

abbrev sighting : ℤ → ℤ → ℤ → ℤ → Option ℕ → Sighting
sighting second lat lon alt enl = record { second = second; lat = lat; lon = lon; alt = alt; enl = enl }

pub moved-fix-requires-clause-least : goal.moved-fix-requires-clause-least
moved-fix-requires-clause-least c =
    let l = c.loop-fix in
    let range = fix-below seconds_limit l.fix-items c.args.fixes.now.items l.fix-index c.fix-item.result c.requires.below l.invariant.left (omega arith) in
    let same = plain (get_or l.fix-items l.fix-index c.fix-item.result).second (grind (arith, ints)) (grind (arith, ints)) in
    subst (λ (x : ℤ). pos 0 ≤ℤ x) (sym same) range.0

pub moved-fix-requires-clause-most : goal.moved-fix-requires-clause-most
moved-fix-requires-clause-most c =
    let l = c.loop-fix in
    let range = fix-below seconds_limit l.fix-items c.args.fixes.now.items l.fix-index c.fix-item.result c.requires.below l.invariant.left (omega arith) in
    let same = plain (get_or l.fix-items l.fix-index c.fix-item.result).second (grind (arith, ints)) (grind (arith, ints)) in
    subst (λ (x : ℤ). x <ℤ pos 500_000) (sym same) (grind (arith, ints))

pub loop-fix-preserved : goal.loop-fix-preserved
loop-fix-preserved c =
    let l = c.loop-fix in
    let item = get_or l.fix-items l.fix-index c.fix-item.result in
    let shift : ℤ = to_z w32 (of_z w32 c.args.shift) in
    let range = fix-below seconds_limit l.fix-items c.args.fixes.now.items l.fix-index c.fix-item.result c.requires.below l.invariant.left (omega arith) in
    let result = moved-is c.moved-fix.result item.second c.args.shift c.moved-fix.ensures (range.0, grind (arith, ints)) c.requires.shift in
    record {
      moved = fix-more shift l.fix-items c.args.fixes.now.items l.fix-index _ c.fix-item.result l.invariant.moved l.invariant.left (omega arith)
          (ap (λ (second : ℤ). sighting second item.grid.lat item.grid.lon item.alt item.enl) result);
      left = left-more l.fix-items c.args.fixes.now.items l.fix-index _ l.invariant.left;
    }
