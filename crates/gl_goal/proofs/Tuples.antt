-- What a tuple chooses, axis by axis.
use Rattle.std.proofs.Common.{◌≡◌, ◌∙◌, sym, ℕ, zero, suc, ◌+◌, ◌<◌, List, [], ◌∷◌, ◌++◌, length, take, get_or, refl, ap, arith, add-one}
use Rattle.gl_goal.specs.Goal.{IsTuple, chosen}

pub chosen-nothing : (axes : List (List ℕ)) → chosen axes [] ≡ []
chosen-nothing [] = refl
chosen-nothing (axis ∷ axes) = refl

-- each place of a tuple lies on its axis
pub place_at : (axes : List (List ℕ)) (tuple : List ℕ) (axis : ℕ) → IsTuple axes tuple → axis < length tuple → (axis < length axes) × (get_or tuple axis 0 < length (get_or axes axis []))
place_at [] [] axis fits inside = absurd (omega arith)
place_at [] (place ∷ tuple) axis fits inside = absurd fits
place_at (first ∷ axes) [] axis fits inside = absurd fits
place_at (first ∷ axes) (place ∷ tuple) zero fits inside = (omega arith, fits.0)
place_at (first ∷ axes) (place ∷ tuple) (suc axis) fits inside =
    let rest = place_at axes tuple axis fits.1 (omega arith) in
    (omega (arith, rest.0), rest.1)

-- one more place names one more fix
pub chosen-take : (axes : List (List ℕ)) (tuple : List ℕ) (axis : ℕ) → IsTuple axes tuple → axis < length tuple
    → chosen axes (take (suc axis) tuple) ≡ chosen axes (take axis tuple) ++ get_or (get_or axes axis []) (get_or tuple axis 0) 0 ∷ []
chosen-take [] [] axis fits inside = absurd (omega arith)
chosen-take [] (place ∷ tuple) axis fits inside = absurd fits
chosen-take (first ∷ axes) [] axis fits inside = absurd fits
chosen-take (first ∷ axes) (place ∷ tuple) zero fits inside = ap (λ numbers. get_or first place 0 ∷ numbers) (chosen-nothing axes)
chosen-take (first ∷ axes) (place ∷ tuple) (suc axis) fits inside = ap (λ numbers. get_or first place 0 ∷ numbers) (chosen-take axes tuple axis fits.1 (omega arith))

-- the numbers so far and the next one
pub numbers_more : (axes : List (List ℕ)) (tuple numbers pushed : List ℕ) (axis fix : ℕ) → IsTuple axes tuple → axis < length tuple → numbers ≡ chosen axes (take axis tuple)
    → fix ≡ get_or (get_or axes axis []) (get_or tuple axis 0) 0 → pushed ≡ numbers ++ fix ∷ [] → pushed ≡ chosen axes (take (axis + 1) tuple)
numbers_more axes tuple numbers pushed axis fix fits inside so_far is_fix is_pushed =
    is_pushed ∙ ap (λ (front : List ℕ). front ++ fix ∷ []) so_far ∙ ap (λ (n : ℕ). chosen axes (take axis tuple) ++ n ∷ []) is_fix
    ∙ sym (chosen-take axes tuple axis fits inside) ∙ ap (λ (n : ℕ). chosen axes (take n tuple)) (sym (add-one axis))
