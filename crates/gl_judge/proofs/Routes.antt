-- Visits that begin earlier, that go one zone further, and that leave zones out.
use Rattle.std.proofs.Common.{◌≡◌, ℕ, zero, suc, ◌≤◌, List, [], ◌∷◌, ◌++◌, take, refl, sym, subst, ◌∙◌, arith}
use Rattle.gl_igc.specs.declared.fix.Fix.{Fix}
use Rattle.gl_zone.specs.declared.zone.Zone.{Zone}
use Rattle.gl_judge.specs.declared.stretch.Stretch.{Stretch}
use Rattle.gl_goal.specs.Chain.{last_of}
use Rattle.gl_judge.specs.Visits.{IsInZone, IsVisit, HasVisit}

-- a visit from a fix on is one from an earlier fix on, too
visit-earlier : (fixes : List Fix) (judged : Stretch) (zones : List Zone) (from earlier : ℕ) (visit : List ℕ) → earlier ≤ from → IsVisit fixes judged zones from visit
    → IsVisit fixes judged zones earlier visit
visit-earlier fixes judged [] from earlier [] le v = tt
visit-earlier fixes judged [] from earlier (z ∷ zs) le v = absurd v
visit-earlier fixes judged (zone ∷ zones) from earlier [] le v = absurd v
visit-earlier fixes judged (zone ∷ zones) from earlier (z ∷ zs) le v =
    let first : from ≤ z = v.0 in
    (omega arith, v.1, v.2)

last-earlier : (from earlier : ℕ) (visit : List ℕ) → earlier ≤ from → last_of earlier visit ≤ last_of from visit
last-earlier from earlier [] le = le
last-earlier from earlier (z ∷ zs) le = omega arith

pub last-after : (fixes : List Fix) (judged : Stretch) (zones : List Zone) (from : ℕ) (visit : List ℕ) → IsVisit fixes judged zones from visit → from ≤ last_of from visit
last-after fixes judged [] from [] v = omega arith
last-after fixes judged [] from (z ∷ zs) v = absurd v
last-after fixes judged (zone ∷ zones) from [] v = absurd v
last-after fixes judged (zone ∷ zones) from (z ∷ zs) v =
    let first : from ≤ z = v.0 in
    let rest : z ≤ last_of z zs = last-after fixes judged zones z zs v.2 in
    omega arith

-- a visit from an earlier fix on ends no later
pub record Earlier (fixes : List Fix) (judged : Stretch) (zones : List Zone) (earlier last : ℕ) : Type 0 where
  pub end : ℕ
  pub visited : HasVisit fixes judged zones earlier end
  pub not_later : end ≤ last

pub visited-earlier : (fixes : List Fix) (judged : Stretch) (zones : List Zone) (from earlier last : ℕ) → earlier ≤ from → HasVisit fixes judged zones from last
    → Earlier fixes judged zones earlier last
visited-earlier fixes judged zones from earlier last le h = record {
  end = last_of earlier h.visit;
  visited = record { visit = h.visit; is_visit = visit-earlier fixes judged zones from earlier h.visit le h.is_visit; ends = refl };
  not_later = subst (λ (n : ℕ). last_of earlier h.visit ≤ n) h.ends (last-earlier from earlier h.visit le);
}

pub visited-after : (fixes : List Fix) (judged : Stretch) (zones : List Zone) (from last : ℕ) → HasVisit fixes judged zones from last → from ≤ last
visited-after fixes judged zones from last h =
    subst (λ (n : ℕ). from ≤ n) h.ends (last-after fixes judged zones from h.visit h.is_visit)

-- no zone is visited
pub visited-none : (fixes : List Fix) (judged : Stretch) (from : ℕ) → HasVisit fixes judged [] from from
visited-none fixes judged from = record { visit = []; is_visit = tt; ends = refl }

none-is : (fixes : List Fix) (judged : Stretch) (from : ℕ) (visit : List ℕ) → IsVisit fixes judged [] from visit → last_of from visit ≡ from
none-is fixes judged from [] v = refl
none-is fixes judged from (z ∷ zs) v = absurd v

pub visited-none-is : (fixes : List Fix) (judged : Stretch) (from last : ℕ) → HasVisit fixes judged [] from last → last ≡ from
visited-none-is fixes judged from last h = sym h.ends ∙ none-is fixes judged from h.visit h.is_visit

-- one zone before the others
pub visited-cons : (fixes : List Fix) (judged : Stretch) (zone : Zone) (zones : List Zone) (from z last : ℕ) → from ≤ z → IsInZone fixes judged zone z → HasVisit fixes judged zones z last
    → HasVisit fixes judged (zone ∷ zones) from last
visited-cons fixes judged zone zones from z last le here h =
    record { visit = z ∷ h.visit; is_visit = (le, here, h.is_visit); ends = h.ends }

pub record Begins (fixes : List Fix) (judged : Stretch) (zone : Zone) (zones : List Zone) (from last : ℕ) : Type 0 where
  pub z : ℕ
  pub after : from ≤ z
  pub here : IsInZone fixes judged zone z
  pub rest : HasVisit fixes judged zones z last

begins : (fixes : List Fix) (judged : Stretch) (zone : Zone) (zones : List Zone) (from last : ℕ) (visit : List ℕ) → IsVisit fixes judged (zone ∷ zones) from visit → last_of from visit ≡ last
    → Begins fixes judged zone zones from last
begins fixes judged zone zones from last [] v ends = absurd v
begins fixes judged zone zones from last (z ∷ zs) v ends = record {
  z = z;
  after = v.0;
  here = v.1;
  rest = record { visit = zs; is_visit = v.2; ends = ends };
}

pub visited-begins : (fixes : List Fix) (judged : Stretch) (zone : Zone) (zones : List Zone) (from last : ℕ) → HasVisit fixes judged (zone ∷ zones) from last → Begins fixes judged zone zones from last
visited-begins fixes judged zone zones from last h = begins fixes judged zone zones from last h.visit h.is_visit h.ends

-- one zone behind the others
pub visited-push : (fixes : List Fix) (judged : Stretch) (zones : List Zone) (zone : Zone) (from last z : ℕ) → HasVisit fixes judged zones from last → last ≤ z → IsInZone fixes judged zone z
    → HasVisit fixes judged (zones ++ zone ∷ []) from z
visited-push fixes judged [] zone from last z h le here =
    let same : last ≡ from = visited-none-is fixes judged from last h in
    visited-cons fixes judged zone [] from z z (omega arith) here (visited-none fixes judged z)
visited-push fixes judged (first ∷ zones) zone from last z h le here =
    let u : Begins fixes judged first zones from last = visited-begins fixes judged first zones from last h in
    visited-cons fixes judged first (zones ++ zone ∷ []) from u.z z u.after u.here (visited-push fixes judged zones zone u.z last z u.rest le here)

pub record Ends (fixes : List Fix) (judged : Stretch) (zones : List Zone) (zone : Zone) (from last : ℕ) : Type 0 where
  pub before : ℕ
  pub visited : HasVisit fixes judged zones from before
  pub after : before ≤ last
  pub here : IsInZone fixes judged zone last

pub visited-ends : (fixes : List Fix) (judged : Stretch) (zones : List Zone) (zone : Zone) (from last : ℕ) → HasVisit fixes judged (zones ++ zone ∷ []) from last
    → Ends fixes judged zones zone from last
visited-ends fixes judged [] zone from last h =
    let u : Begins fixes judged zone [] from last = visited-begins fixes judged zone [] from last h in
    let same : last ≡ u.z = visited-none-is fixes judged u.z last u.rest in
    let after : from ≤ u.z = u.after in
    record {
      before = from;
      visited = visited-none fixes judged from;
      after = omega arith;
      here = subst (λ (n : ℕ). IsInZone fixes judged zone n) (sym same) u.here;
    }
visited-ends fixes judged (first ∷ zones) zone from last h =
    let u : Begins fixes judged first (zones ++ zone ∷ []) from last = visited-begins fixes judged first (zones ++ zone ∷ []) from last h in
    let e : Ends fixes judged zones zone u.z last = visited-ends fixes judged zones zone u.z last u.rest in
    record {
      before = e.before;
      visited = visited-cons fixes judged first zones from u.z e.before u.after u.here e.visited;
      after = e.after;
      here = e.here;
    }

-- the first of the zones are visited, too
pub record Begun (fixes : List Fix) (judged : Stretch) (zones : List Zone) (from : ℕ) : Type 0 where
  pub last : ℕ
  pub visited : HasVisit fixes judged zones from last

pub visited-take : (fixes : List Fix) (judged : Stretch) (zones : List Zone) (k n from last : ℕ) → k ≤ n → HasVisit fixes judged (take n zones) from last → Begun fixes judged (take k zones) from
visited-take fixes judged zones zero n from last le h = record { last = from; visited = visited-none fixes judged from }
visited-take fixes judged [] (suc k) n from last le h = record { last = from; visited = visited-none fixes judged from }
visited-take fixes judged (zone ∷ zones) (suc k) zero from last le h = absurd (omega arith)
visited-take fixes judged (zone ∷ zones) (suc k) (suc n) from last le h =
    let u : Begins fixes judged zone (take n zones) from last = visited-begins fixes judged zone (take n zones) from last h in
    let b : Begun fixes judged (take k zones) u.z = visited-take fixes judged zones k n u.z last (omega arith) u.rest in
    record { last = b.last; visited = visited-cons fixes judged zone (take k zones) from u.z b.last u.after u.here b.visited }
