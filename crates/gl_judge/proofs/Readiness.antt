-- From which fixes on the zones can be visited with a finish after them: one zone more at the front.
use Rattle.std.proofs.Common.{◌≡◌, ◌∙◌, ℕ, zero, suc, ◌+◌, ◌-◌, ◌<◌, ◌≤◌, List, [], ◌∷◌, drop, get_or, length, sym, subst, ap, arith, ℤ}
use Rattle.std.proofs.Math.Seq.{drop-cons}
use Rattle.gl_igc.specs.declared.fix.Fix.{Fix}
use Rattle.gl_task.specs.declared.day_type.Finish.{Finish}
use Rattle.gl_task.specs.declared.day_type.Finish.TheVariants.{Ring, Gate}
use Rattle.gl_zone.specs.declared.zone.Zone.{Zone}
use Rattle.gl_judge.specs.declared.stretch.Stretch.{Stretch}
use Rattle.gl_judge.specs.Finishes.{IsAtFinish, IsFinish, lead_of}
use Rattle.gl_judge.specs.Greatest.{IsGreatest}
use Rattle.gl_judge.specs.JudgedFixes.{IsInRange}
use Rattle.gl_judge.specs.Visits.{CanFinish, Finishes, IsInZone}
use Rattle.gl_judge.proofs.Routes.{Begins, Earlier, visited-begins, visited-cons, visited-earlier, visited-none, visited-none-is}

-- a finish after a fix is one after an earlier fix, too
pub finish-earlier : (finish : Finish) (fixes : List Fix) (judged : Stretch) (z earlier f : ℕ) (time : ℤ) → earlier ≤ z → IsFinish finish fixes judged z f time
    → IsFinish finish fixes judged earlier f time
finish-earlier finish fixes judged z earlier f time le h =
    let after : z + lead_of finish ≤ f = h.after in
    record { after = omega arith; at_finish = h.at_finish }

finishes-earlier : (finish : Finish) (fixes : List Fix) (judged : Stretch) (zones : List Zone) (from earlier f : ℕ) (time : ℤ) → earlier ≤ from → Finishes finish fixes judged zones from f time
    → Finishes finish fixes judged zones earlier f time
finishes-earlier finish fixes judged zones from earlier f time le h =
    let e : Earlier fixes judged zones earlier h.last = visited-earlier fixes judged zones from earlier h.last le h.visited in
    record { last = e.end; visited = e.visited; finished = finish-earlier finish fixes judged h.last e.end f time e.not_later h.finished }

pub can_finish-earlier : (finish : Finish) (fixes : List Fix) (judged : Stretch) (zones : List Zone) (from earlier : ℕ) → earlier ≤ from → CanFinish finish fixes judged zones from
    → CanFinish finish fixes judged zones earlier
can_finish-earlier finish fixes judged zones from earlier le h =
    record { f = h.f; time = h.time; finishes = finishes-earlier finish fixes judged zones from earlier h.f h.time le h.finishes }

can_finish-cons : (finish : Finish) (fixes : List Fix) (judged : Stretch) (zone : Zone) (zones : List Zone) (z : ℕ) → IsInZone fixes judged zone z → CanFinish finish fixes judged zones z
    → CanFinish finish fixes judged (zone ∷ zones) z
can_finish-cons finish fixes judged zone zones z here h = record {
  f = h.f;
  time = h.time;
  finishes = record {
    last = h.finishes.last;
    visited = visited-cons fixes judged zone zones z z h.finishes.last (omega arith) here h.finishes.visited;
    finished = h.finishes.finished;
  };
}

record Goes (finish : Finish) (fixes : List Fix) (judged : Stretch) (zone : Zone) (zones : List Zone) (from : ℕ) : Type 0 where
  z : ℕ
  after : from ≤ z
  here : IsInZone fixes judged zone z
  rest : CanFinish finish fixes judged zones z

can_finish-goes : (finish : Finish) (fixes : List Fix) (judged : Stretch) (zone : Zone) (zones : List Zone) (from : ℕ) → CanFinish finish fixes judged (zone ∷ zones) from
    → Goes finish fixes judged zone zones from
can_finish-goes finish fixes judged zone zones from h =
    let u : Begins fixes judged zone zones from h.finishes.last = visited-begins fixes judged zone zones from h.finishes.last h.finishes.visited in
    record {
      z = u.z;
      after = u.after;
      here = u.here;
      rest = record { f = h.f; time = h.time; finishes = record { last = h.finishes.last; visited = u.rest; finished = h.finishes.finished } };
    }

-- the last fix in the zone up to the last one from which the others can be finished
pub ready-cons : (finish : Finish) (fixes : List Fix) (judged : Stretch) (zone : Zone) (zones : List Zone) (n z : ℕ) → IsGreatest (CanFinish finish fixes judged zones) n → IsInZone fixes judged zone z
    → z ≤ n → ((i : ℕ) → i ≤ n → IsInZone fixes judged zone i → i ≤ z)
    → IsGreatest (CanFinish finish fixes judged (zone ∷ zones)) z
ready-cons finish fixes judged zone zones n z rest here le last = record {
  is = can_finish-cons finish fixes judged zone zones z here (can_finish-earlier finish fixes judged zones n z le rest.is);
  greatest = λ b h.
      let g : Goes finish fixes judged zone zones b = can_finish-goes finish fixes judged zone zones b h in
      let within : g.z ≤ n = rest.greatest g.z g.rest in
      let before : g.z ≤ z = last g.z within g.here in
      let after : b ≤ g.z = g.after in
      omega arith;
}

pub ready-none : (finish : Finish) (fixes : List Fix) (judged : Stretch) (zone : Zone) (zones : List Zone) (n : ℕ) → IsGreatest (CanFinish finish fixes judged zones) n
    → ((i : ℕ) → i ≤ n → IsInZone fixes judged zone i → ⊥) → (b : ℕ) → CanFinish finish fixes judged (zone ∷ zones) b → ⊥
ready-none finish fixes judged zone zones n rest none b h =
    let g : Goes finish fixes judged zone zones b = can_finish-goes finish fixes judged zone zones b h in
    none g.z (rest.greatest g.z g.rest) g.here

-- where the last of the zones can't be finished from anywhere, all of them can't
pub unready : (finish : Finish) (fixes : List Fix) (judged : Stretch) (zones : List Zone) (k : ℕ) → ((b : ℕ) → CanFinish finish fixes judged (drop k zones) b → ⊥) → (b : ℕ)
    → CanFinish finish fixes judged zones b → ⊥
unready finish fixes judged zones zero none b h = none b h
unready finish fixes judged [] (suc k) none b h = none b h
unready finish fixes judged (zone ∷ zones) (suc k) none b h =
    let g : Goes finish fixes judged zone zones b = can_finish-goes finish fixes judged zone zones b h in
    unready finish fixes judged zones k none g.z g.rest

-- a finish has room for its lead before it, and the fix there is judged
pub record HasLead (finish : Finish) (judged : Stretch) (f : ℕ) : Type 0 where
  pub room : lead_of finish ≤ f
  pub is_judged : IsInRange judged (f - lead_of finish)

pub finish-lead : (finish : Finish) (fixes : List Fix) (judged : Stretch) (f : ℕ) (time : ℤ) → IsAtFinish finish fixes judged f time → HasLead finish judged f
finish-lead (Ring at radius) fixes judged f time h =
    record { room = omega arith; is_judged = (omega (arith, h.is_judged.0), omega (arith, h.is_judged.1)) }
finish-lead (Gate line) fixes judged f time h =
    let next : h.before + 1 ≡ f = h.next in
    record { room = omega arith; is_judged = (omega (arith, h.before_judged.0), omega (arith, h.before_judged.1)) }

-- the last finish
pub ready-last : (finish : Finish) (fixes : List Fix) (judged : Stretch) (f : ℕ) (time : ℤ) → IsAtFinish finish fixes judged f time
    → ((g : ℕ) (time : ℤ) → IsAtFinish finish fixes judged g time → g ≤ f) → IsGreatest (CanFinish finish fixes judged []) (f - lead_of finish)
ready-last finish fixes judged f time h last =
    let lead : HasLead finish judged f = finish-lead finish fixes judged f time h in
    let room : lead_of finish ≤ f = lead.room in
    record {
      is = record {
        f = f;
        time = time;
        finishes = record {
          last = f - lead_of finish;
          visited = visited-none fixes judged (f - lead_of finish);
          finished = record { after = omega arith; at_finish = h };
        };
      };
      greatest = λ b c.
          let same : c.finishes.last ≡ b = visited-none-is fixes judged b c.finishes.last c.finishes.visited in
          let after : c.finishes.last + lead_of finish ≤ c.f = c.finishes.finished.after in
          let before : c.f ≤ f = last c.f c.time c.finishes.finished.at_finish in
          omega arith;
    }

-- where nothing finishes a flight, no visit can be finished
pub unfinishable : (finish : Finish) (fixes : List Fix) (judged : Stretch) (zones : List Zone) → ((b : ℕ) → CanFinish finish fixes judged [] b → ⊥) → (b : ℕ) → CanFinish finish fixes judged zones b
    → ⊥
unfinishable finish fixes judged zones none b h =
    none h.finishes.last (record { f = h.f; time = h.time; finishes = record { last = h.finishes.last; visited = visited-none fixes judged h.finishes.last; finished = h.finishes.finished } })

-- the zones from one on are that one and those behind it
zones-from : (zones : List Zone) (k : ℕ) (zone : Zone) → 0 < k → k - 1 < length zones → zone ≡ get_or zones (k - 1) zone → drop (k - 1) zones ≡ zone ∷ drop k zones
zones-from zones k zone some within at =
    let next : suc (k - 1) ≡ k = omega arith in
    drop-cons zones (k - 1) zone within ∙ ap (λ (z : Zone). z ∷ drop (suc (k - 1)) zones) (sym at) ∙ ap (λ (n : ℕ). zone ∷ drop n zones) next

pub ready-before : (finish : Finish) (fixes : List Fix) (judged : Stretch) (zones : List Zone) (k n z : ℕ) (zone : Zone) → 0 < k → k - 1 < length zones → zone ≡ get_or zones (k - 1) zone
    → IsGreatest (CanFinish finish fixes judged (drop k zones)) n → IsInZone fixes judged zone z → z ≤ n
    → ((i : ℕ) → i ≤ n → IsInZone fixes judged zone i → i ≤ z) → IsGreatest (CanFinish finish fixes judged (drop (k - 1) zones)) z
ready-before finish fixes judged zones k n z zone some within at rest here le last =
    subst (λ (list : List Zone). IsGreatest (CanFinish finish fixes judged list) z) (sym (zones-from zones k zone some within at))
    (ready-cons finish fixes judged zone (drop k zones) n z rest here le last)

pub unready-before : (finish : Finish) (fixes : List Fix) (judged : Stretch) (zones : List Zone) (k n : ℕ) (zone : Zone) → 0 < k → k - 1 < length zones → zone ≡ get_or zones (k - 1) zone
    → IsGreatest (CanFinish finish fixes judged (drop k zones)) n
    → ((i : ℕ) → i ≤ n → IsInZone fixes judged zone i → ⊥) → (b : ℕ) → CanFinish finish fixes judged zones b → ⊥
unready-before finish fixes judged zones k n zone some within at rest none b h =
    let stuck : (b : ℕ) → CanFinish finish fixes judged (drop (k - 1) zones) b → ⊥ =
    subst (λ (list : List Zone). (b : ℕ) → CanFinish finish fixes judged list b → ⊥) (sym (zones-from zones k zone some within at)) (ready-none finish fixes judged zone (drop k zones) n rest none) in
    unready finish fixes judged zones (k - 1) stuck b h
