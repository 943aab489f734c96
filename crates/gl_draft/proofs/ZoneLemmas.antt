-- The zones of turn points, one by one.
use Rattle.std.proofs.Common.{◌≡◌, ℕ, suc, ◌+◌, subst, sym, arith, List, [], ◌∷◌, ◌++◌, length}
use Rattle.gl_cup.specs.declared.point.CupPoint.{CupPoint}
use Rattle.gl_draft.specs.declared.draft.Zone.{Zone}
use Rattle.gl_draft.specs.Taken.{AreZonesFrom, IsZoneAt}

-- one more at the end
zones-snoc : (points : List CupPoint) (from : ℕ) (zones : List Zone) (zone : Zone) → AreZonesFrom points from zones → IsZoneAt points (from + length zones) zone
    → AreZonesFrom points from (zones ++ zone ∷ [])
zones-snoc points from [] zone are is =
    let same : from + 0 ≡ from = omega arith in
    (subst (λ (n : ℕ). IsZoneAt points n zone) same is, tt)
zones-snoc points from (z ∷ zs) zone are is =
    let same : from + suc (length zs) ≡ from + 1 + length zs = omega arith in
    (are.0, zones-snoc points (from + 1) zs zone are.1 (subst (λ (n : ℕ). IsZoneAt points n zone) same is))

-- the zone of one more point
pub next_zones : (points : List CupPoint) (number : ℕ) (zones now : List Zone) (zone : Zone) → number ≡ length zones + 1 → AreZonesFrom points 1 zones → IsZoneAt points number zone
    → now ≡ zones ++ zone ∷ [] → AreZonesFrom points 1 now
next_zones points number zones now zone count are this pushed =
    let same : number ≡ 1 + length zones = omega arith in
    subst (AreZonesFrom points 1) (sym pushed) (zones-snoc points 1 zones zone are (subst (λ (n : ℕ). IsZoneAt points n zone) same this))
