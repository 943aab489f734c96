-- What an order by place says of places and numbers.
use Rattle.std.proofs.Common.{◌≡◌, ◌∙◌, sym, ap, ℕ, zero, suc, ◌<◌, List, [], ◌∷◌, ◌++◌, length, get_or, take, Some, slice_get, arith}
use Rattle.std.specs.Prelude.{All, Contains, IsPermutation}
use Rattle.std.proofs.lemmas.List.{get_or-map, get_or_default, length-map}
use Rattle.std.proofs.lemmas.List.Sorted.{All-permutation, Contains-permutation, length_permutation}
use Rattle.std.proofs.lemmas.Option.{slice_get-get_or}
use Rattle.gl_igc.specs.declared.fix.Fix.{Fix}
use Rattle.gl_goal.specs.Free.{numbers_from}
use Rattle.gl_goal.specs.Lemmas.Free.{get_or-numbers_from, length-numbers_from}
use Rattle.gl_places.specs.declared.by_place.ByPlace.{ByPlace}
use Rattle.gl_places.specs.ByPlace.{IsByPlace}

-- the first so many numbers in another order are as many
pub permuted_long : (count : ℕ) (numbers : List ℕ) → IsPermutation (numbers_from 0 count) numbers → length numbers ≡ count
permuted_long count numbers is = length_permutation (numbers_from 0 count) numbers is ∙ length-numbers_from 0 count

-- and none of them is greater
pub permuted_below : (count : ℕ) (numbers : List ℕ) → IsPermutation (numbers_from 0 count) numbers → All (λ number. number < count) numbers
permuted_below count numbers is =
    All-permutation (λ number. number < count) (numbers_from 0 count) numbers is
    (λ k d below. omega (arith, below, length-numbers_from 0 count, get_or-numbers_from 0 count k d (omega (arith, below, length-numbers_from 0 count))))

-- there are as many numbers as fixes
pub numbers_long : (fixes : List Fix) (by_place : ByPlace) → IsByPlace fixes by_place → length by_place.numbers.items ≡ length fixes
numbers_long fixes by_place is = permuted_long (length fixes) by_place.numbers.items is.numbers

-- and as many fixes in the order
pub hulls_long : (fixes : List Fix) (by_place : ByPlace) → IsByPlace fixes by_place → length by_place.hulls ≡ length fixes
hulls_long fixes by_place is =
    omega (arith, length-map by_place.hulls Some, length-map by_place.numbers.items (slice_get fixes), ap length is.hulls, numbers_long fixes by_place is)

-- each number is that of a fix
pub numbers_below : (fixes : List Fix) (by_place : ByPlace) → IsByPlace fixes by_place → All (λ number. number < length fixes) by_place.numbers.items
numbers_below fixes by_place is = permuted_below (length fixes) by_place.numbers.items is.numbers

-- the fix at a place is the one with the number there
pub numbered_fix : (fixes : List Fix) (by_place : ByPlace) → IsByPlace fixes by_place → (place : ℕ) (fix : Fix) → place < length by_place.hulls
    → slice_get fixes (get_or by_place.numbers.items place 0) ≡ Some fix → slice_get by_place.hulls place ≡ Some fix
numbered_fix fixes by_place is place fix below named =
    let hulls = by_place.hulls in
    let numbers = by_place.numbers.items in
    let long : place < length numbers = omega (arith, below, hulls_long fixes by_place is, numbers_long fixes by_place is) in
    let there : Some (get_or hulls place fix) ≡ Some fix =
    sym (get_or-map Some hulls place fix (Some fix) below)
    ∙ ap (λ found. get_or found place (Some fix)) is.hulls
    ∙ get_or-map (slice_get fixes) numbers place 0 (Some fix) long
    ∙ named in
    slice_get-get_or hulls place fix below ∙ there

-- a place for each number
pub placed : (fixes : List Fix) (by_place : ByPlace) → IsByPlace fixes by_place → (number : ℕ) → number < length fixes
    → (place : ℕ) × (place < length fixes) × (get_or by_place.numbers.items place 0 ≡ number)
placed fixes by_place is number below =
    let all = numbers_from 0 (length fixes) in
    let long = length-numbers_from 0 (length fixes) in
    let at = get_or-numbers_from 0 (length fixes) number number below in
    let among : Contains all number = (number, omega (arith, below, long), omega (arith, at)) in
    let found = Contains-permutation all by_place.numbers.items number is.numbers among in
    (found.0, omega (arith, found.1, numbers_long fixes by_place is), get_or_default by_place.numbers.items found.0 0 number found.1 ∙ found.2)

some_is : {X : Type 0} → (one other : X) → Some one ≡ Some other → one ≡ other
some_is one other same = cc same

-- so many fixes of a list, and the next one
pub take_more : {X : Type 0} → (xs : List X) (k : ℕ) (x : X) → slice_get xs k ≡ Some x → take (suc k) xs ≡ take k xs ++ x ∷ []
take_more [] k x is = absurd (cc)
take_more (y ∷ ys) zero x is = ap (λ z. z ∷ []) (some_is y x is)
take_more (y ∷ ys) (suc k) x is = ap (λ zs. y ∷ zs) (take_more ys k x is)
