-- The texts that a run says.
use Rattle.std.specs.Prelude.{◌≡◌, ℕ, List, [], ◌∷◌, ◌++◌, Contains, codes}
use Rattle.std.specs.List.{flat_map}
use Rattle.std.specs.Fmt.{decimal}
use Rattle.gl_text.specs.Numbers.{fixed}

-- one line: an LF, the byte 10, ends it, and no other stands in it
pub record IsLine (text : List ℕ) : Type 0 where
  pub line : List ℕ
  pub unbroken : ¬ Contains line 10
  pub ended : text ≡ line ++ 10 ∷ []

-- the line for words that are of no form
abbrev pub usage_line : List ℕ
usage_line =
    codes "usage: free FILE | triangle FILE | score TASK PROOF WORKERS | check TASK PROOF | "
    ++ codes "replay FILE SCHEDULE WORKERS | demo NUMBER | series LIST DROP | "
    ++ codes "near FILE OTHER SECONDS PROOF | nearcheck FILE OTHER SECONDS PROOF | "
    ++ codes "point FILE PLACE | badge FILE PROOF | badgecheck FILE PROOF"
    ++ 10 ∷ []

-- numbers, each with a space before it
abbrev pub spaced : List ℕ → List ℕ
spaced numbers = flat_map (λ n. 32 ∷ decimal n) numbers

-- the two lines of a distance: behind a word the metres of a total in centimetres, and behind
-- another the numbers of fixes
unfoldable pub distance_text : List ℕ → ℕ → List ℕ → List ℕ → List ℕ
distance_text word total noun fixes =
    word ++ codes " " ++ fixed 2 total ++ codes " m" ++ 10 ∷ noun ++ spaced fixes ++ 10 ∷ []

-- the line where no choice of fixes is legal
abbrev pub no_flight : List ℕ
no_flight = codes "NO FLIGHT" ++ 10 ∷ []

-- the line where no pair of fixes fits
abbrev pub no_pair : List ℕ
no_pair = codes "NO PAIR" ++ 10 ∷ []

-- the line for a proof that isn't accepted: the number of the claim that is wrong, the word for
-- what is wrong with it, and the number of the box that it is about, or 0
unfoldable pub wrong_line : ℕ → List ℕ → ℕ → List ℕ
wrong_line claim word box =
    codes "NOT PROVED " ++ decimal claim ++ codes " " ++ word ++ codes " " ++ decimal box
    ++ 10 ∷ []

-- the line for a proof that is accepted, with the number of its claims
unfoldable pub accepted_line : ℕ → List ℕ
accepted_line claims = codes "ACCEPTED " ++ decimal claims ++ 10 ∷ []
