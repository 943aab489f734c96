use Rattle.std.proofs.Common.{◌≡◌, ◌++◌, map, take}
use Rattle.std.specs.Fmt.{decimal}
use Rattle.gl_proof.specs.Words.{spaced}
use Rattle.gl_proof.proofs.write.push_fixes.Given as goal

-- the fixes so far are written
abbrev pub invariant-loop-fix : goal.invariant-loop-fix
invariant-loop-fix l = l.out.items ≡ l.fn.out.items ++ spaced (map decimal (take l.fix-index l.fixes))
