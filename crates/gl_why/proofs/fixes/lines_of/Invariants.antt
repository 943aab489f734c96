use Rattle.std.proofs.Common.{◌≡◌, map, take}
use Rattle.gl_why.specs.declared.fact.Fact.TheVariants.{Fix}
use Rattle.gl_why.proofs.fixes.lines_of.Given as goal

-- of the fixes so far
abbrev pub invariant-spots : goal.invariant-spots
invariant-spots l = l.lines ≡ map Fix (take l.spot-index l.spots)
