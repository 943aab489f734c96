use Rattle.std.proofs.Common.{◌≡◌, ◌+◌, ◌-◌, ◌≤◌, [], vec_len, length, drop}
use Rattle.gl_airspace.specs.Code.Volumes.{IsGathered}
use Rattle.gl_airspace.specs.Volumes.{first_trouble, parted, readings_of, refusal_of}
use Rattle.gl_airspace.proofs.openair.read_openair.Given as goal

-- the volumes so far are read, and nothing was in their way
abbrev pub invariant-volumes : goal.invariant-volumes
invariant-volumes l = record {
  within : l.at ≤ length l.text;
  counted : l.first ≤ l.at + 1;
  corners : l.corners ≤ 4_096;
  few : vec_len l.volumes ≤ 256;
  ahead : (parted (readings_of (drop l.at l.text))).0 ≡ [];
  refusal :
      refusal_of (readings_of l.text)
      ≡ first_trouble l.first (vec_len l.volumes) l.corners (parted (readings_of (drop l.at l.text))).1;
  gathered :
      IsGathered (parted (readings_of l.text)).1 (parted (readings_of (drop l.at l.text))).1 l.volumes.items;
}

abbrev pub decreases-volumes : goal.decreases-volumes
decreases-volumes l = length l.text - l.at
