use Rattle.std.proofs.Common.{◌≡◌, ◌+◌, ◌-◌, ◌≤◌, length, drop}
use Rattle.std.specs.Prelude.{option_map, position, not}
use Rattle.gl_airspace.specs.Volumes.{is_passed, parted, readings_of}
use Rattle.gl_airspace.proofs.openair.read_start.Given as goal

-- the lines so far are all passed over
abbrev pub invariant-lines : goal.invariant-lines
invariant-lines l = record {
  within : l.start.next ≤ length l.text;
  counted : l.start.lines ≤ l.start.next;
  count : length (parted (readings_of l.text)).0 ≡ l.start.lines + length (parted (readings_of (drop l.start.next l.text))).0;
  passed :
      position (λ line. not (is_passed line)) (parted (readings_of l.text)).0
      ≡ option_map (λ k. l.start.lines + k) (position (λ line. not (is_passed line)) (parted (readings_of (drop l.start.next l.text))).0);
  others : (parted (readings_of l.text)).1 ≡ (parted (readings_of (drop l.start.next l.text))).1;
}

abbrev pub decreases-lines : goal.decreases-lines
decreases-lines l = length l.text - l.start.next
