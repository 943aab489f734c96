-- How far the zones are visited: one zone more, and none more.
use Rattle.std.proofs.Common.{◌≡◌, ◌∙◌, sym, subst, ap, ℕ, ◌+◌, ◌<◌, ◌≤◌, List, [], ◌∷◌, ◌++◌, take, length, get_or, arith, inl, inr}
use Rattle.std.proofs.lemmas.Bool.{cases_lt}
use Rattle.std.proofs.lemmas.List.{take_more}
use Rattle.gl_igc.specs.declared.fix.Fix.{Fix}
use Rattle.gl_zone.specs.declared.zone.Zone.{Zone}
use Rattle.gl_judge.specs.declared.stretch.Stretch.{Stretch}
use Rattle.gl_judge.specs.Greatest.{IsGreatest, IsLeast}
use Rattle.gl_judge.specs.Visits.{HasVisit, IsInZone, VisitsFirst}
use Rattle.gl_judge.proofs.Routes.{Begun, Ends, visited-ends, visited-push, visited-take}

more : (zones : List Zone) (k : ℕ) (zone : Zone) → k < length zones → zone ≡ get_or zones k zone → take (k + 1) zones ≡ take k zones ++ zone ∷ []
more zones k zone within at = take_more zones k zone within ∙ ap (λ (z : Zone). take k zones ++ z ∷ []) (sym at)

-- one zone more, at its first fix
pub least-push : (fixes : List Fix) (judged : Stretch) (zones : List Zone) (k from last z : ℕ) (zone : Zone) → k < length zones → zone ≡ get_or zones k zone
    → IsLeast (HasVisit fixes judged (take k zones) from) last → IsInZone fixes judged zone z → last ≤ z
    → ((i : ℕ) → last ≤ i → IsInZone fixes judged zone i → z ≤ i) → IsLeast (HasVisit fixes judged (take (k + 1) zones) from) z
least-push fixes judged zones k from last z zone within at least here after first =
    let longer : take (k + 1) zones ≡ take k zones ++ zone ∷ [] = more zones k zone within at in
    record {
      is = subst (λ (some : List Zone). HasVisit fixes judged some from z) (sym longer) (visited-push fixes judged (take k zones) zone from last z least.is after here);
      least = λ i h.
          let e : Ends fixes judged (take k zones) zone from i = visited-ends fixes judged (take k zones) zone from i (subst (λ (some : List Zone). HasVisit fixes judged some from i) longer h) in
          let not_before : last ≤ e.before = least.least e.before e.visited in
          let before : e.before ≤ i = e.after in
          first i (omega arith) e.here;
    }

-- no zone more
pub most-stop : (fixes : List Fix) (judged : Stretch) (zones : List Zone) (k from last : ℕ) (zone : Zone) → k < length zones → zone ≡ get_or zones k zone
    → IsLeast (HasVisit fixes judged (take k zones) from) last
    → ((i : ℕ) → last ≤ i → IsInZone fixes judged zone i → ⊥) → IsGreatest (VisitsFirst fixes judged zones from) k
most-stop fixes judged zones k from last zone within at least none = record {
  is = record { within = omega arith; last = last; visited = least.is };
  greatest = λ n h.
      elim (cases_lt k n) as (λ _. n ≤ k) [
        | inl lt ↦ (let b : Begun fixes judged (take (k + 1) zones) from = visited-take fixes judged zones (k + 1) n from h.last (omega arith) h.visited in
            let v : HasVisit fixes judged (take k zones ++ zone ∷ []) from b.last = subst (λ (some : List Zone). HasVisit fixes judged some from b.last) (more zones k zone within at) b.visited in
            let e : Ends fixes judged (take k zones) zone from b.last = visited-ends fixes judged (take k zones) zone from b.last v in
            let not_before : last ≤ e.before = least.least e.before e.visited in
            let before : e.before ≤ b.last = e.after in
            absurd (none b.last (omega arith) e.here))
        | inr le ↦ le
      ];
}
