-- All fixes of a flight, by their numbers.
use Rattle.std.proofs.Common.{◌≡◌, ◌∙◌, sym, ap, refl, ℕ, ◌<◌, ◌+◌, List, [], ◌∷◌, ◌++◌, length, map, take, get_or, Some, None, Option, slice_get}
use Rattle.std.proofs.lemmas.List.{map-append, take_more}
use Rattle.std.proofs.lemmas.Option.{get_or_from_slice_get}
use Rattle.gl_igc.specs.declared.fix.Fix.{Fix}
use Rattle.gl_goal.specs.Lemmas.Held.{named}

-- one number more names one fix more
pub one_more : (fixes : List Fix) (numbers pushed : List ℕ) (number : ℕ) → number < length fixes → pushed ≡ numbers ++ number ∷ [] → map (slice_get fixes) numbers ≡ map Some (take number fixes)
    → map (slice_get fixes) pushed ≡ map Some (take (number + 1) fixes)
one_more fixes numbers pushed number below is before =
    let fix = named fixes number below in
    let there : get_or fixes number fix.0 ≡ fix.0 = get_or_from_slice_get fixes number fix.0 fix.0 fix.1 in
    ap (map (slice_get fixes)) is
    ∙ map-append (slice_get fixes) numbers (number ∷ [])
    ∙ ap (λ (l : List (Option Fix)). l ++ slice_get fixes number ∷ []) before
    ∙ ap (λ (o : Option Fix). map Some (take number fixes) ++ o ∷ []) (fix.1 ∙ ap Some (sym there))
    ∙ sym (map-append Some (take number fixes) (get_or fixes number fix.0 ∷ []))
    ∙ ap (map Some) (sym (take_more fixes number fix.0 below))

somes : List (Option Fix) → List Fix
somes [] = []
somes (None ∷ values) = somes values
somes (Some value ∷ values) = value ∷ somes values

somes-map : (fixes : List Fix) → somes (map Some fixes) ≡ fixes
unfolding somes
somes-map [] = refl
somes-map (fix ∷ fixes) = ap (λ (l : List Fix). fix ∷ l) (somes-map fixes)

-- lists of the same values are the same
pub same_values : (xs ys : List Fix) → map Some xs ≡ map Some ys → xs ≡ ys
same_values xs ys same = sym (somes-map xs) ∙ ap somes same ∙ somes-map ys
