-- Claims that are one but for their choices.
use Rattle.std.specs.Prelude.{◌≡◌}
use Rattle.gl_proof.specs.Claim.{Statement}

-- two claims are one but for the fixes that they choose and the boxes that show that none are
-- better
pub record AreAlike (one other : Statement) : Type 0 where
  pub number : one.number ≡ other.number
  pub kind : one.kind ≡ other.kind
  pub total : one.total ≡ other.total
