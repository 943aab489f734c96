-- What stands at the front of a text, and where it can't stand.
use Rattle.std.specs.Prelude.{◌≡◌, ℕ, List, ◌∷◌, ◌++◌, Option, codes}
use Rattle.gl_near.specs.declared.found.NearWhy.{NearWhy}
use Rattle.gl_near.specs.Line.{AreTwoSpans, IsLine, LeastLine, PairLine, box_line, ended, reason_word}

-- the word of a box, the letter of its reason and a space
abbrev pub IsReasonAt : List ℕ → NearWhy → List ℕ → Type 0
IsReasonAt text why rest = text ≡ codes "BOX" ++ 32 ∷ (reason_word why ++ 32 ∷ rest)

-- the line of a box
abbrev pub IsBoxAt : List ℕ → List (ℕ × ℕ) × NearWhy → List ℕ → Type 0
IsBoxAt text box rest = AreTwoSpans box.0 × (text ≡ ended (box_line box) ++ rest)

-- the line of the least distance
abbrev pub IsLeastAt : List ℕ → Option ℕ → List ℕ → Type 0
IsLeastAt text total rest = IsLine (LeastLine total) × (text ≡ ended (LeastLine total) ++ rest)

-- the line of the pair
abbrev pub IsPairAt : List ℕ → ℕ × ℕ → List ℕ → Type 0
IsPairAt text pair rest =
    IsLine (PairLine pair.0 pair.1) × (text ≡ ended (PairLine pair.0 pair.1) ++ rest)

-- no line of a pair or of a box begins a text
abbrev pub NoPair : List ℕ → Type 0
NoPair text = (pair : ℕ × ℕ) (rest : List ℕ) → IsPairAt text pair rest → ⊥

abbrev pub NoBox : List ℕ → Type 0
NoBox text = (box : List (ℕ × ℕ) × NearWhy) (rest : List ℕ) → IsBoxAt text box rest → ⊥
