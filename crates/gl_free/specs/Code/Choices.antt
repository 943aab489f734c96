-- Choices of five places.
use Rattle.std.specs.Prelude.{◌≡◌, ℕ, ◌<◌, ◌≤◌, ℤ, ◌-ℤ◌, ◌<ℤ◌, List}
use Rattle.gl_igc.specs.declared.fix.Fix.{Fix}
use Rattle.gl_free.specs.declared.pair.Pair.{Pair}
use Rattle.gl_free.specs.Code.Places.{altitude_at}

-- five of so many places stand in time order
pub record AreInOrder (count first second third fourth last : ℕ) : Type 0 where
  pub second_later : first ≤ second
  pub third_later : second ≤ third
  pub fourth_later : third ≤ fourth
  pub last_later : fourth ≤ last
  pub within : last < count

-- the pair has these two places, and loses more than the limit between them
pub record IsLow (fixes : List Fix) (loss : ℤ) (first last : ℕ) (pair : Pair) : Type 0 where
  pub first_is : pair.first ≡ first
  pub last_is : pair.last ≡ last
  pub low : loss <ℤ (altitude_at fixes first -ℤ altitude_at fixes last)
