-- How many items stand before the first of a kind.
use Rattle.std.proofs.Common.{◌≡◌, ◌∙◌, sym, ap, ℕ, ◌<◌, ◌≤◌, Bool, true, false, List, length, Some, arith, get_or}
use Rattle.std.specs.Prelude.{position, unwrap_or, slice_get}
use Rattle.std.specs.List.{position_or_len, prefix_len}
use mathlib.Core.Bool.{not}
use Rattle.std.proofs.lemmas.Grind.{common_steps}
use Rattle.std.proofs.lemmas.Option.{get_or_from_slice_get, slice_get_within}
use Rattle.std.proofs.lemmas.List.Sums.{fails_before_first, passes_at_first, prefix_len-le-length}

-- how many items stand before the first of a kind, or all of them
abbrev pub front : {X : Type 0} → (X → Bool) → List X → ℕ
front p xs = unwrap_or (position p xs) (length xs)

front-is : {X : Type 0} (p : X → Bool) (xs : List X) → (front p xs ≡ position_or_len p xs) × (position_or_len p xs ≤ length xs)
front-is p xs =
    let within : prefix_len (λ x. not (p x)) xs ≤ length xs = prefix_len-le-length (λ x. not (p x)) xs in
    (grind (arith, common_steps), within)

pub front-within : {X : Type 0} (p : X → Bool) (xs : List X) → front p xs ≤ length xs
front-within p xs = omega (arith, (front-is p xs).0, (front-is p xs).1)

pub front-before : {X : Type 0} (p : X → Bool) (xs : List X) (k : ℕ) (x : X) → slice_get xs k ≡ Some x → k < front p xs → p x ≡ false
front-before p xs k x is before =
    let same : get_or xs k x ≡ x = get_or_from_slice_get xs k x x is in
    ap p (sym same) ∙ fails_before_first p xs k x (omega (arith, (front-is p xs).0))

pub front-at : {X : Type 0} (p : X → Bool) (xs : List X) (k : ℕ) (x : X) → slice_get xs k ≡ Some x → k ≡ front p xs → p x ≡ true
front-at p xs k x is at =
    let within : k < length xs = slice_get_within xs k x is in
    let here : position_or_len p xs ≡ k = sym (at ∙ (front-is p xs).0) in
    let same : get_or xs k x ≡ x = get_or_from_slice_get xs k x x is in
    let e : get_or xs (position_or_len p xs) x ≡ x = ap (λ (n : ℕ). get_or xs n x) here ∙ same in
    ap p (sym e) ∙ passes_at_first p xs x (omega arith)
