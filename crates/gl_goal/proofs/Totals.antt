-- Totals that were found, one after another.
use Rattle.std.proofs.Common.{◌≡◌, sym, refl, subst, inl, inr, ℕ, ◌<◌, List, arith}
use Rattle.std.specs.Prelude.{◌⊎◌, ◌↔◌, IfSome, IsNone, Option, Some, None}
use Rattle.gl_goal.specs.Goal.{Goal, IsLegal, IsOptimum}
use Rattle.gl_goal.specs.declared.best.Best.{Best}
use Rattle.gl_goal.specs.Best.{IsNoLess, IsSound, total_of}

pub less_self : (total : Option ℕ) → IsNoLess total total
less_self None = tt
less_self (Some total) = omega arith

pub less_through : (a b c : Option ℕ) → IsNoLess a b → IsNoLess b c → IsNoLess a c
less_through None b c low high = tt
less_through (Some a) None c low high = absurd low
less_through (Some a) (Some b) None low high = absurd high
less_through (Some a) (Some b) (Some c) low high = omega arith

pub beaten_less : (known : Option Best) (total : ℕ) → IfSome known (λ best. best.total < total) → IsNoLess (total_of known) (Some total)
beaten_less None total beaten = tt
beaten_less (Some best) total beaten = omega arith

pub unbeaten_less : (known : Option Best) (total : ℕ) → (IfSome known (λ best. best.total < total) → ⊥) → IsNoLess (Some total) (total_of known)
unbeaten_less None total unbeaten = absurd (unbeaten tt)
unbeaten_less (Some best) total unbeaten = omega arith

pub either_sound : (rule : Goal) (one other best : Option Best) → (best ≡ one) ⊎ (best ≡ other) → IsSound rule one → IsSound rule other → IsSound rule best
either_sound rule one other best (inl is) sound sound_other = subst (IsSound rule) (sym is) sound
either_sound rule one other best (inr is) sound sound_other = subst (IsSound rule) (sym is) sound_other

-- nothing was found exactly where no tuple is legal
pub none_exactly : (rule : Goal) (best : Option Best) → IsOptimum rule (total_of best) → IsNone best ↔ ((tuple : List ℕ) → IsLegal rule tuple → ⊥)
none_exactly rule None optimum = (λ none. optimum, λ illegal. refl)
none_exactly rule (Some best) optimum = (λ none. absurd (cc), λ illegal. absurd (illegal optimum.0.0 optimum.0.1.legal))
