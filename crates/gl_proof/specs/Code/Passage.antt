-- How a text is gone over, claim by claim.
use Rattle.std.specs.Prelude.{◌≡◌, ℕ, ◌+◌, ◌<◌, min, List, [], ◌++◌, length, map, Option, IsSome, MatchOption, All, ◌⊎◌, ◌≤◌}
use Rattle.gl_box.specs.Closed.{box_of}
use Rattle.gl_box.specs.declared.closed.Closed.{Closed}
use Rattle.gl_box.specs.declared.closed.Why.{Why}
use Rattle.gl_proof.specs.Misfit.{IsMisfit}
use Rattle.gl_proof.specs.declared.error.ProofError.{ProofError}
use Rattle.gl_proof.specs.Claim.{IsStatement, Statement, box_line, claim_lines, claim_text, fix_lines, spelled}
use Rattle.gl_proof.specs.Code.Fronts.{IsBoxAt, IsClaimAt}
use Rattle.gl_proof.specs.Line.{AreFixes, AreSpans, FixLine, ended}
use Rattle.gl_proof.specs.declared.claim.ClaimKind.{ClaimKind}

-- no line of a box begins a text
abbrev pub NoBox : List ℕ → Type 0
NoBox text = (box : List (ℕ × ℕ) × Why) (more : List ℕ) → IsBoxAt text box more → ⊥

-- no line of a claim begins it
abbrev pub NoClaim : List ℕ → Type 0
NoClaim text = (said : List ℕ × ClaimKind × Option ℕ) (more : List ℕ) → IsClaimAt text said more → ⊥

-- no line of fixes begins it
abbrev pub NoFixes : List ℕ → Type 0
NoFixes text = (fixes more : List ℕ) → AreFixes fixes → text ≡ ended (FixLine fixes) ++ more → ⊥

-- the lines of boxes at the front of a text, all of them
pub record AreBoxesAt (text : List ℕ) (boxes : List (List (ℕ × ℕ) × Why)) (rest : List ℕ)
    : Type 0 where
  pub each : All (λ box. AreSpans box.0) boxes
  pub is : text ≡ spelled (map box_line boxes) ++ rest
  pub last : NoBox rest

-- the line of the fixes at the front of a text, where there is a total
pub record AreClaimedAt (total : Option ℕ) (text numbers rest : List ℕ) : Type 0 where
  pub fixes : MatchOption total (numbers ≡ []) (λ _. AreFixes numbers)
  pub is : text ≡ spelled (fix_lines total numbers) ++ rest

-- there is a total, and no line of fixes begins the text
pub record LacksFixes (total : Option ℕ) (text : List ℕ) (number : ℕ) (error : ProofError)
    : Type 0 where
  pub some : IsSome total
  pub none : NoFixes text
  pub misfit : IsMisfit text number error

-- the lines of a claim at the front of a text, the first of which has this number; the line behind
-- them has the next one
pub record IsClaimRead (text : List ℕ) (number : ℕ) (statement : Statement) (rest : List ℕ)
    (next : ℕ) : Type 0 where
  pub is_statement : IsStatement statement
  pub is : text ≡ claim_text statement ++ rest
  pub last : NoBox rest
  pub counted : next ≡ min (number + length (claim_lines statement)) 4_294_967_295
  pub shorter : length rest < length text

-- the line of a claim is there, but the line behind it lacks the fixes
pub record LacksFixesBehind (text : List ℕ) (number : ℕ) (error : ProofError) : Type 0 where
  pub said : List ℕ × ClaimKind × Option ℕ
  pub rest : List ℕ
  pub claim : IsClaimAt text said rest
  pub lacks : LacksFixes said.2 rest (min (number + 1) 4_294_967_295) error

-- no line of a claim begins the text, or its fixes are lacking
abbrev pub LacksClaim : List ℕ → ℕ → ProofError → Type 0
LacksClaim text number error =
    (NoClaim text × IsMisfit text number error) ⊎ LacksFixesBehind text number error

-- A reader added the boxes whose lines stand at the front of a text to some boxes, all of them, and
-- left the rest.
pub record AddsBoxes (text : List ℕ) (before after : List Closed) (rest : List ℕ) : Type 0 where
  pub each : All (λ box. AreSpans box.0) (map box_of before)
      → All (λ box. AreSpans box.0) (map box_of after)
  pub is : spelled (map box_line (map box_of before)) ++ text
      ≡ spelled (map box_line (map box_of after)) ++ rest
  pub grows : length before ≤ length after
  pub last : NoBox rest
