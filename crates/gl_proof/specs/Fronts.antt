-- What stands at the front of a text, and what a reader says of it.
use Rattle.std.specs.Prelude.{◌≡◌, ℕ, ◌^◌, ◌<◌, Bool, false, List, [], ◌∷◌, ◌++◌, Option, None, Some}
use Rattle.std.specs.Char.{is_ascii_digit}
use Rattle.std.specs.Fmt.{decimal}
use Rattle.std.proofs.Common.{Bor}
use Rattle.gl_proof.specs.Words.{IsSpan, span_word, total_word}

-- A reader took something from the front of a text and left the rest, or nothing of the kind stands
-- there.
abbrev pub Reads : {X Y : Type 0} → (Y → X) → (X → List ℕ → Type 0) → Option (Y × Bor (List ℕ))
    → Type 0
Reads view StandsAt None = (x : _) (rest : List ℕ) → StandsAt x rest → ⊥
Reads view StandsAt (Some taken) = StandsAt (view taken.0) taken.1.now

-- a text doesn't begin with a byte that passes a test
abbrev pub Stops : (ℕ → Bool) → List ℕ → Type 0
Stops test [] = Unit {0}
Stops test (b ∷ bs) = test b ≡ false

-- the digits of a number below a limit, and no digit behind them
pub record IsNumberAt (limit : ℕ) (text : List ℕ) (number : ℕ) (rest : List ℕ) : Type 0 where
  pub below : number < limit
  pub is : text ≡ decimal number ++ rest
  pub stops : Stops is_ascii_digit rest

-- a span, and no digit behind it
pub record IsSpanAt (text : List ℕ) (span : ℕ × ℕ) (rest : List ℕ) : Type 0 where
  pub is_span : IsSpan span
  pub is : text ≡ span_word span ++ rest
  pub stops : Stops is_ascii_digit rest

-- a total, and LF
abbrev pub IsTotalAt : List ℕ → Option ℕ → List ℕ → Type 0
IsTotalAt text None rest = text ≡ total_word None ++ 10 ∷ rest
IsTotalAt text (Some total) rest = (total < 2 ^ 64) × (text ≡ total_word (Some total) ++ 10 ∷ rest)
