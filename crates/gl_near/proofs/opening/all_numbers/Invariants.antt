use Rattle.std.proofs.Common.{◌≡◌, ◌<◌, length, map, take, Some, slice_get}
use Rattle.std.specs.Prelude.{All}
use Rattle.gl_near.proofs.opening.all_numbers.Given as goal

-- the numbers so far name the fixes so far
abbrev pub invariant-loop-number : goal.invariant-loop-number
invariant-loop-number l = record {
  count : length l.numbers.items ≡ l.number;
  within : All (λ number. number < length l.fixes) l.numbers.items;
  named : map (slice_get l.fixes) l.numbers.items ≡ map Some (take l.number l.fixes);
}
