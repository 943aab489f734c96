use Rattle.gl_near.specs.declared.pairs.Pairs.{Pairs}
use Rattle.gl_near.specs.declared.pairs.Pairs.TheVariants.{Two, One}
use Rattle.gl_near.specs.Pairing.{Pairing, IsPairing, flights, place}

-- what the fields of `Pairs` stand for
abbrev pub pairing_of : Pairs → Pairing
pairing_of (Two two) = flights two.one two.other two.apart
pairing_of (One one) = place one.flight one.point

-- it is well formed
pub pairs_are : (pairs : Pairs) → IsPairing (pairing_of pairs)
pairs_are (Two two) = record {
  some_fix = two.some_fix;
  some_other = two.some_other;
  rising = two.rising;
  others_rising = two.others_rising;
}
pairs_are (One one) = one.some_fix
