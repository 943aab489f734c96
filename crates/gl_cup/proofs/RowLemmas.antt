-- The rows of a text, line by line, and the fields of a record, one by one.
use Rattle.std.proofs.Common.{◌≡◌, ℕ, zero, suc, ◌+◌, refl, ap, add-one, List, [], ◌∷◌, ◌++◌, take, None, Some}
use Rattle.csv.specs.Records.{field_at}

-- one more field of a record
pub field-more : (fields : List (List ℕ)) (n : ℕ) (field : List ℕ) → field_at fields n ≡ Some field → take (n + 1) fields ≡ take n fields ++ field ∷ []
unfolding field_at
field-more [] n field is = absurd (cc)
field-more (f ∷ fs) zero field is = cc
field-more (f ∷ fs) (suc n) field is =
    rw add-one (ap (λ (rest : List (List ℕ)). f ∷ rest) (rw add-one at (field-more fs n field is)))

-- all fields of a record
pub field-end : (fields : List (List ℕ)) (n : ℕ) → field_at fields n ≡ None → take n fields ≡ fields
unfolding field_at
field-end [] zero is = refl
field-end [] (suc n) is = refl
field-end (f ∷ fs) zero is = absurd (cc)
field-end (f ∷ fs) (suc n) is = ap (λ (rest : List (List ℕ)). f ∷ rest) (field-end fs n is)
