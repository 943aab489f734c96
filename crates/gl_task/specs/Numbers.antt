-- The numbers of entrants.
use Rattle.std.specs.Prelude.{ℕ, ◌+◌, List, [], ◌∷◌, ◌++◌, Option, None, Some, is_none, if◌then◌else◌, Bool}
use Rattle.std.specs.List.{list_any}
use Rattle.gl_text.specs.Forms.{is_text}

-- the place, from a number on, of the first text that is one of those before it
abbrev pub repeated_after : List (List ℕ) → ℕ → List (List ℕ) → Option ℕ
repeated_after before n [] = None
repeated_after before n (text ∷ texts) =
    if list_any (is_text text) before then Some n
    else repeated_after (before ++ text ∷ []) (n + 1) texts

-- the place, from 1 on, of the first text that is that of an earlier place
abbrev pub first_repeated : List (List ℕ) → Option ℕ
first_repeated texts = repeated_after [] 1 texts

-- no text is that of an earlier place
abbrev pub none_repeats : List (List ℕ) → Bool
none_repeats texts = is_none (first_repeated texts)
