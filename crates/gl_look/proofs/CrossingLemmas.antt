-- Where a flight crosses a line, fix by fix.
use Rattle.std.proofs.Common.{◌≡◌, ◌∙◌, ap, append_assoc, arith, length, refl, subst, sym, List, [], ◌∷◌, ◌++◌, Option, ℤ}
use Rattle.gl_igc.specs.declared.fix.Fix.{Fix}
use Rattle.gl_zone.specs.declared.line.Line.{Line}
use Rattle.gl_look.specs.Crossings.{AreCrossedBehind, IsCrossed}

-- behind the last fix there is nothing
pub none_behind : (line : Line) (x : Fix) (rest : List Fix) → length rest ≡ 0 → AreCrossedBehind line x rest []
none_behind line x [] none = refl
none_behind line x (y ∷ ys) none = absurd (omega arith)

-- what holds of all, whatever holds of the rest, with one more fix
pub next_crossed : (line : Line) (first before fix : Fix) (all rest others : List Fix) (so_far now : List (Option ℤ)) (time : Option ℤ) → rest ≡ fix ∷ others → IsCrossed line before fix time → now ≡ so_far ++ time ∷ []
    → ((more : List (Option ℤ)) → AreCrossedBehind line before rest more → AreCrossedBehind line first all (so_far ++ more)) → (more : List (Option ℤ)) → AreCrossedBehind line fix others more
    → AreCrossedBehind line first all (now ++ more)
next_crossed line first before fix all rest others so_far now time whole is pushed invariant more are =
    let here : AreCrossedBehind line before (fix ∷ others) (time ∷ more) = (time, more, is, are, refl) in
    let far : AreCrossedBehind line first all (so_far ++ (time ∷ more)) = invariant (time ∷ more) (subst (λ (fs : List Fix). AreCrossedBehind line before fs (time ∷ more)) (sym whole) here) in
    let same : so_far ++ (time ∷ more) ≡ now ++ more = sym (append_assoc so_far (time ∷ []) more) ∙ ap (λ (t : List (Option ℤ)). t ++ more) (sym pushed) in
    subst (λ (cs : List (Option ℤ)). AreCrossedBehind line first all cs) same far
