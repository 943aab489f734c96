-- How often a cell stands in a list of cells.
use Rattle.std.specs.Prelude.{ℕ, Bool, true, false, ◌==◌, ◌&&◌, List, [], ◌∷◌}
use Rattle.std.specs.List.{count_by}

-- two cells are the same where they have as many axes, and on each axis the same span
abbrev pub is_same : List (ℕ × ℕ) → List (ℕ × ℕ) → Bool
is_same [] [] = true
is_same [] (span ∷ spans) = false
is_same (span ∷ spans) [] = false
is_same (span ∷ spans) (other ∷ others) =
    span.0 == other.0 && span.1 == other.1 && is_same spans others

abbrev pub copies : List (ℕ × ℕ) → List (List (ℕ × ℕ)) → ℕ
copies cell cells = count_by (λ other. is_same cell other) cells
