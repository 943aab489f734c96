-- A check of a text by its lines: what it knows with a line more, and what it says of a whole text.
use Rattle.std.proofs.Common.{◌≡◌, ◌⊎◌, sym, subst, inl, inr, ℕ, List, [], ◌∷◌, ◌++◌, Option}
use Rattle.gl_proof.specs.LineReading.{IsWhole}
use Rattle.gl_near.specs.Line.{Line}
use Rattle.gl_near.specs.LineCheck.{HasTakenLines, IsKnown, Known, known_of, known_with}
use Rattle.gl_near.specs.NearLines.{line_said, near_rules}
use Rattle.gl_near.specs.Pairing.{Pairing}
use Rattle.gl_near.specs.Pairs.{pairing_of}
use Rattle.gl_near.specs.Testing.{HasTaken}
use Rattle.gl_near.specs.Verdict.{IsTextChecked, IsVerdict}
use Rattle.gl_near.specs.declared.answer.NearVerdict.{NearVerdict}
use Rattle.gl_near.specs.declared.found.NearBest.{NearBest}
use Rattle.gl_near.specs.declared.found.NearWhy.{NearWhy}
use Rattle.gl_near.specs.declared.line_check.NearCheck.{NearCheck}
use Rattle.gl_near.specs.declared.near_line.NearLine.{NearLine}
use Rattle.gl_near.specs.declared.near_line.NearLine.TheVariants.{End, Heading}
use Rattle.gl_near.proofs.Known.{known_more}
use Rattle.gl_near.proofs.Parsed.{whole_known}

-- a line more was taken
pub taken_more : (pairing : Pairing) (lines : List Line) (line said : NearLine) (check : NearCheck) → line ≡ said → IsKnown pairing (known_with (known_of lines) (line_said said)) check
    → HasTakenLines pairing (lines ++ line_said line ∷ []) check
taken_more pairing lines line said check same is =
    subst (λ (l : NearLine). HasTakenLines pairing (lines ++ line_said l ∷ []) check) (sym same)
    (subst (λ (k : Known). IsKnown pairing k check) (sym (known_more (known_of []) lines (line_said said))) is)

-- one that says no more
pub taken_same : (pairing : Pairing) (lines : List Line) (line : NearLine) (check : NearCheck) → (line ≡ Heading) ⊎ (line ≡ End) → HasTakenLines pairing lines check
    → HasTakenLines pairing (lines ++ line_said line ∷ []) check
taken_same pairing lines line check (inl same) has = taken_more pairing lines line Heading check same has
taken_same pairing lines line check (inr same) has = taken_more pairing lines line End check same has

-- what is said of the lines of a whole text is said of its claim
pub verdict_text : (pairing : Pairing) (lines : List Line) (text : List ℕ) (check : NearCheck) (verdict : NearVerdict) → HasTakenLines pairing lines check → IsWhole near_rules text lines
    → ((boxes : List (List (ℕ × ℕ) × NearWhy)) → HasTaken boxes check.boxes → IsVerdict (pairing_of check.boxes.test.pairs.now) check.boxes.test.best boxes verdict)
    → IsTextChecked pairing text verdict
verdict_text pairing lines text check verdict has whole is =
    let known = known_of lines in (
      known.best,
      known.boxes,
      whole_known text lines whole,
      subst (λ (p : Pairing). IsVerdict p known.best known.boxes verdict) has.pairs
          (subst (λ (b : Option NearBest). IsVerdict (pairing_of check.boxes.test.pairs.now) b known.boxes verdict) has.best (is known.boxes has.boxes)),
    )
