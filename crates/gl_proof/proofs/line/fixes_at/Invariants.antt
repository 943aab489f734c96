use Rattle.std.proofs.Common.{◌≡◌, ◌-◌, ◌^◌, ◌<◌, ◌≤◌, ◌++◌, length, map}
use Rattle.std.specs.Char.{is_ascii_digit}
use Rattle.std.specs.Fmt.{decimal}
use Rattle.std.specs.Prelude.{All}
use Rattle.gl_proof.specs.Fronts.{Stops}
use Rattle.gl_proof.specs.Words.{spaced}
use Rattle.gl_proof.proofs.line.fixes_at.Given as goal

-- the fixes so far are read
abbrev pub invariant-fixes : goal.invariant-fixes
invariant-fixes l = record {
  few : length l.fixes.items ≤ 10;
  is : l.text ≡ spaced (map decimal l.fixes.items) ++ l.rest;
  each : All (λ fix. fix < 2 ^ 32) l.fixes.items;
  stops : 0 < length l.fixes.items → Stops is_ascii_digit l.rest;
}

abbrev pub decreases-fixes : goal.decreases-fixes
decreases-fixes l = 10 - length l.fixes.items
