-- The optimum of the gain of height is the greatest gain between two fixes.
use Rattle.std.proofs.Common.{◌≡◌, ◌∙◌, sym, ℕ, List, [], ◌∷◌, length, Some, arith}
use Rattle.std.proofs.lemmas.Option.{slice_get_within}
use Rattle.gl_igc.specs.declared.fix.Fix.{Fix}
use Rattle.gl_goal.specs.Goal.{IsLegal, IsOptimum, IsTuple, value}
use Rattle.gl_goal.specs.Lemmas.Chain.{named}
use Rattle.gl_goal.specs.Lemmas.Free.{length-numbers_from}
use Rattle.gl_badge.specs.Gain.{IsGain, IsGreatestGain, gain_goal, two_axes}
use Rattle.gl_badge.proofs.Pairs.{two-legal, two-worth, two_places}

-- a legal tuple is worth a gain
legal-gain : (fixes : List Fix) (tuple : List ℕ) (total : ℕ) → IsLegal (gain_goal fixes) tuple → value (gain_goal fixes) tuple ≡ total → IsGain fixes total
unfolding gain_goal
legal-gain fixes tuple total legal worth =
    let two = two_places (length fixes) tuple legal.is_tuple in
    let a = named fixes _ two.from_in in
    let b = named fixes _ two.to_in in
    record {
      from = _;
      to = _;
      in_order = (two-legal fixes tuple _ _ legal.is_tuple two).1 legal;
      low = a.0;
      high = b.0;
      from_is = a.1;
      to_is = b.1;
      gained = sym worth ∙ two-worth fixes tuple _ _ a.0 b.0 two a.1 b.1;
    }

-- a gain is what a legal tuple is worth
gain-legal : (fixes : List Fix) (metres : ℕ) → IsGain fixes metres → (tuple : List ℕ) × IsLegal (gain_goal fixes) tuple × (value (gain_goal fixes) tuple ≡ metres)
unfolding gain_goal
gain-legal fixes metres gain =
    let tuple = gain.from ∷ gain.to ∷ [] in
    let from_in = slice_get_within fixes gain.from gain.low gain.from_is in
    let to_in = slice_get_within fixes gain.to gain.high gain.to_is in
    let fits : IsTuple (two_axes (length fixes)) tuple = (omega (arith, from_in, length-numbers_from 0 (length fixes)), (omega (arith, to_in, length-numbers_from 0 (length fixes)), tt)) in
    let two = two_places (length fixes) tuple fits in
    (tuple, (two-legal fixes tuple _ _ fits two).0 gain.in_order, two-worth fixes tuple _ _ gain.low gain.high two gain.from_is gain.to_is ∙ sym gain.gained)

pub greatest-gain : (fixes : List Fix) (total : ℕ) → IsOptimum (gain_goal fixes) (Some total) → IsGreatestGain fixes total
greatest-gain fixes total optimum =
    record {
      reached = legal-gain fixes optimum.0.0 total optimum.0.1.legal optimum.0.1.worth;
      greatest = λ other gain.
          let legal = gain-legal fixes other gain in
          omega (arith, optimum.1 legal.0 legal.1, legal.2);
    }
