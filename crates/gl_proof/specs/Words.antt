-- The words of which the lines of proofs are made, and how they are spelled.
use Rattle.std.specs.Prelude.{ℕ, ◌^◌, ◌<◌, ◌≤◌, List, ◌∷◌, ◌++◌, Option, None, Some, codes}
use Rattle.std.specs.Fmt.{decimal}
use Rattle.std.specs.List.{flat_map}

abbrev pub total_word : Option ℕ → List ℕ
total_word None = codes "NONE"
total_word (Some total) = decimal total

-- the ends of a span with a hyphen, the byte 45, between them
abbrev pub span_word : ℕ × ℕ → List ℕ
span_word span = decimal span.0 ++ 45 ∷ decimal span.1

-- words, each behind a space, the byte 32
abbrev pub spaced : List (List ℕ) → List ℕ
spaced words = flat_map (λ word. 32 ∷ word) words

-- a span of places: from its low end to its high end, numbers of 32 bits
abbrev pub IsSpan : ℕ × ℕ → Type 0
IsSpan span = (span.0 ≤ span.1) × (span.1 < 2 ^ 32)
