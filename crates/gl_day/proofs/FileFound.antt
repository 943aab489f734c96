-- What is said of a proof's file whose claims were checked as its lines came.
use Rattle.std.proofs.Common.{ℕ, ◌^◌, ◌<◌, List, ◌++◌, Option, None, Some, Ok, Err, arith}
use Rattle.gl_answer.specs.FileTests.{ProofText}
use Rattle.gl_answer.specs.ReadFiles.{HasReadFile}
use Rattle.gl_answer.specs.declared.halt.Halt.{Halt}
use Rattle.gl_answer.specs.declared.halt.Halt.TheVariants.{Refused, Stopped}
use Rattle.gl_check.specs.File.{IsTextBehind}
use Rattle.gl_check.specs.declared.claims_file.ClaimsFile.{ClaimsFile}
use Rattle.gl_check.proofs.Counted.{statements_fit}
use Rattle.gl_desk.specs.Desk.{FilesByName}
use Rattle.gl_proof.specs.Claim.{Statement}
use Rattle.gl_day.specs.FileChecked.{HasFound, SaysOfText}
use Rattle.gl_day.specs.declared.fault.Checked.{Checked}

-- what refuses a file refuses it whatever was to be read
pub refused_too : {X Y : Type 0} (folder : Option FilesByName) (file : List ℕ) (most : ℕ) (IsOf : List ℕ → X → Type 0) (IsOther : List ℕ → Y → Type 0) (halt : Halt)
    → HasReadFile ProofText most folder file IsOf (Err halt) → HasReadFile ProofText most folder file IsOther (Err halt)
refused_too folder file most IsOf IsOther (Refused refusal) refused = refused
refused_too folder file most IsOf IsOther (Stopped stop) refused = tt

-- what was found of the claims is so of the text that they stand in
pub text_found : (folder : Option FilesByName) (file : List ℕ) (most : ℕ) (Says : List Statement → Checked → Type 0) (claims : ClaimsFile) (said : Checked) (result : Unit {0}) → most < 2 ^ 64
    → (found : HasFound folder file most (λ statements. Says statements said) claims) → HasReadFile ProofText most folder file (λ text _. IsTextBehind found.said claims text) (Ok result)
    → HasReadFile ProofText most folder file (SaysOfText Says) (Ok said)
text_found folder file most Says claims said result small found (None, seen, passes, behind) = absurd behind
text_found folder file most Says claims said result small found (Some text, seen, passes, behind) =
    let few = statements_fit behind.version text (found.said ++ behind.others) behind.is_text in
    (Some text, seen, passes, (behind.version, found.said ++ behind.others, behind.is_text, found.is behind.others behind.left (omega (arith, few, passes.0, small))))
