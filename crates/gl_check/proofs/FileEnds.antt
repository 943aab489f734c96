-- The end of a proof's file whose lines came one by one.
use Rattle.std.proofs.Common.{◌≡◌, ◌∙◌, refl, sym, ap, subst, inl, inr, ℕ, ◌<◌, ◌≤◌, ◌⊎◌, List, [], ◌∷◌, ◌++◌, length, append_assoc, Option, None, Some, Result, Ok, Err, arith}
use Rattle.std.specs.List.{flat_map}
use Rattle.std.specs.Prelude.{All, IfErr, IsErrAnd, MatchOption, MatchResult}
use Rattle.gl_answer.specs.FileTests.{FirstFails, ProofText, proof_cause, text_tests}
use Rattle.gl_answer.specs.Halts.{AreBytes, RefusesFor}
use Rattle.gl_answer.specs.ReadFiles.{HasReadFile}
use Rattle.gl_answer.specs.declared.file_state.FileLines.{FileLines}
use Rattle.gl_answer.specs.declared.halt.Halt.{Halt}
use Rattle.gl_answer.specs.declared.halt.Halt.TheVariants.{Refused, Stopped}
use Rattle.gl_answer.specs.declared.refusal.Cause.{Cause}
use Rattle.gl_answer.specs.declared.refusal.Refusal.{Refusal}
use Rattle.gl_check.specs.File.{BrokeOff, CameSoFar, Follows, GaveAll, GaveLines, IsBehind, IsWholeFile, UsedClaims}
use Rattle.gl_desk.specs.Desk.{FilesByName, IsSeenIn}
use Rattle.gl_proof.specs.Claim.{Statement, claim_lines}
use Rattle.gl_proof.specs.ClaimLines.{HasItsFixes, NoBoxFirst, lines_said}
use Rattle.gl_proof.specs.Line.{BoxLine, ClaimLine, EndLine, FixLine, HeadingLine, Line}
use Rattle.gl_proof.specs.LineReading.{IsWhole, last_of}
use Rattle.gl_proof.specs.LineRefusal.{IsRefusal}
use Rattle.gl_proof.specs.LineRules.{IsTextRefused, grammar_from}
use Rattle.gl_proof.specs.ProofLines.{line_said, proof_rules}
use Rattle.gl_proof.specs.Refusal.{IsRefused}
use Rattle.gl_proof.specs.Text.{IsTextOf, lines_of}
use Rattle.gl_proof.specs.declared.error.ProofError.{ProofError}
use Rattle.gl_proof.specs.declared.error.ProofError.TheVariants as proof
use Rattle.gl_proof.specs.declared.proof_place.ProofPlace.{ProofPlace}
use Rattle.gl_proof.specs.declared.said_line.ProofLine.{ProofLine}
use Rattle.gl_proof.specs.declared.said_line.ProofLine.TheVariants.{Box, Claim, End, Fixes, Heading}
use Rattle.gl_proof.specs.declared.version.Version.{Version}
use Rattle.gl_proof.proofs.Parsed.{whole_parsed}

-- what is told of a text by the rules of its lines is told of it as a proof
pub told_of_proof : (text : List ℕ) (error : ProofError) → IsTextRefused proof_rules text error → IsRefused text error
told_of_proof text proof.Heading told = λ version. told (HeadingLine version) (version, refl)
told_of_proof text (proof.Line line) (heading, (version, is), told) =
    (version, subst (λ (h : Line). IsRefusal (grammar_from proof_rules h) text (proof.Line line)) is told)
told_of_proof text proof.Cut (heading, (version, is), told) = (version, subst (λ (h : Line). IsRefusal (grammar_from proof_rules h) text proof.Cut) is told)
told_of_proof text proof.Memory told = tt

-- a file whose text is told to be none of a proof is refused
refused_for : (folder : Option FilesByName) (file : List ℕ) (most : ℕ) (given : List Line) (text : List ℕ) (cause : Option Cause) (halt : Halt) → IsSeenIn folder file (Some text) → length text ≤ most
    → ((why : Cause) → cause ≡ Some why → (error : ProofError) × IsRefused text error × (proof_cause error ≡ Some why)) → RefusesFor file cause halt → IsWholeFile folder file most given (Err halt)
refused_for folder file most given text None (Refused refusal) seen small isnt wanting = absurd (cc)
refused_for folder file most given text None (Stopped stop) seen small isnt wanting = tt
refused_for folder file most given text (Some cause) (Refused refusal) seen small isnt same = (
  Some text,
  seen,
  inr (
    small,
    inl (
      ap (λ (r : Refusal). r.file) same,
      subst (λ (why : Cause). (error : ProofError) × IsRefused text error × (proof_cause error ≡ Some why)) (ap (λ (r : Refusal). r.cause) (sym same)) (isnt cause refl),
    ),
  ),
)
refused_for folder file most given text (Some cause) (Stopped stop) seen small isnt same = tt

pub refused_whole : (folder : Option FilesByName) (file : List ℕ) (most : ℕ) (given : List Line) (text : List ℕ) (error : ProofError) (halt : Halt) → IsSeenIn folder file (Some text)
    → length text ≤ most
    → IsTextRefused proof_rules text error → RefusesFor file (proof_cause error) halt → IsWholeFile folder file most given (Err halt)
refused_whole folder file most given text error halt seen small told refuses =
    refused_for folder file most given text (proof_cause error) halt seen small (λ why same. (error, told_of_proof text error told, same)) refuses

-- one that isn't read to its end is refused too, or nothing is said of it
pub unread_file : {X : Type 0} (folder : Option FilesByName) (file : List ℕ) (most : ℕ) (IsOf : List ℕ → X → Type 0) (halt : Halt) → AreBytes folder file most (Err halt)
    → HasReadFile ProofText most folder file IsOf (Err halt)
unread_file folder file most IsOf (Refused refusal) (longer, same) =
    (Some longer.0, longer.2, inl (ap (λ (r : Refusal). r.file) same, (longer.1, ap (λ (r : Refusal). r.cause) same)))
unread_file folder file most IsOf (Stopped stop) is = tt

no_box_more : (line : Line) (more : List Line) → NoBoxFirst (line ∷ []) → NoBoxFirst (line ∷ more)
no_box_more (HeadingLine version) more first = tt
no_box_more (ClaimLine number kind total) more first = tt
no_box_more (FixLine fixes) more first = tt
no_box_more (BoxLine why spans) more first = first
no_box_more EndLine more first = tt

-- the line ahead tells whether a claim is left
left_by : (line : ProofLine) (more : List Line) (others : List Statement) → NoBoxFirst (line_said line ∷ []) → line_said line ∷ more ≡ lines_of others → Follows (Some line) others
left_by (Claim number kind total) more [] first are = absurd cc
left_by (Claim number kind total) more (s ∷ others) first are = omega arith
left_by (Heading version) more [] first are = refl
left_by (Heading version) more (s ∷ others) first are = absurd cc
left_by (Fixes fixes) more [] first are = refl
left_by (Fixes fixes) more (s ∷ others) first are = absurd cc
left_by (Box closed) more others first are = absurd first
left_by End more [] first are = refl
left_by End more (s ∷ others) first are = absurd cc

none_left : (others : List Statement) → [] ≡ lines_of others → others ≡ []
none_left [] are = refl
none_left (s ∷ others) are = absurd cc

-- the lines that are used, the one ahead and more
lines_on : (version : Version) (said : List Statement) (line : Line) (more : List Line) → (lines_said version said [] ++ line ∷ []) ++ more ≡ lines_said version said (line ∷ more)
lines_on version said line more =
    append_assoc (lines_said version said []) (line ∷ []) more
    ∙ ap (λ (l : List Line). HeadingLine version ∷ l) (append_assoc (flat_map claim_lines said) [] (line ∷ more))

-- what a file that was read to its end comes to, where these lines are left behind the claims
behind_said : (folder : Option FilesByName) (file : List ℕ) (most : ℕ) (version : Version) (said : List Statement) (ahead : Option ProofLine) (more : List Line) (result : Result (Unit {0}) Halt)
    → All HasItsFixes said → NoBoxFirst more → ((others : List Statement) → more ≡ lines_of others → Follows ahead others) → IsWholeFile folder file most (lines_said version said more) result
    → HasReadFile ProofText most folder file (λ text _. IsBehind said ahead text) result
behind_said folder file most version said ahead more (Ok x) named first left (text, seen, small, whole) =
    let parsed = whole_parsed version text said more named first whole in (
      Some text,
      seen,
      (small, ((version, said ++ parsed.others, parsed.is_text), tt)),
      record { version = version; others = parsed.others; is_text = parsed.is_text; left = left parsed.others parsed.lines_are },
    )
behind_said folder file most version said ahead more (Err (Refused refusal)) named first left refused = refused
behind_said folder file most version said ahead more (Err (Stopped stop)) named first left refused = tt

-- where the text broke off it is refused
behind_broken : (folder : Option FilesByName) (file : List ℕ) (most : ℕ) (given : List Line) (result : Result (Unit {0}) Halt) (IsOf : List ℕ → Unit {0} → Type 0) → (last_of given ≡ Some EndLine → ⊥)
    → IsWholeFile folder file most given result → HasReadFile ProofText most folder file IsOf result
behind_broken folder file most given (Ok x) IsOf unended (text, seen, small, whole) = absurd (unended whole.ended)
behind_broken folder file most given (Err (Refused refusal)) IsOf unended refused = refused
behind_broken folder file most given (Err (Stopped stop)) IsOf unended refused = tt

-- the whole file was read, whichever lines it gave
pub all_read : (folder : Option FilesByName) (file : List ℕ) (most : ℕ) (said : List Statement) (ahead : Option ProofLine) (before after : FileLines ProofPlace)
    → CameSoFar folder file most said ahead before
    → MatchOption ahead (after ≡ before) (λ line. (used : List Line) → GaveLines folder file most used before → (more : List Line) × GaveAll folder file most (used ++ more) after)
    → (given : List Line) × GaveAll folder file most given after
all_read folder file most said None before after (inl (broke, none)) read =
    (broke.given, subst (GaveAll folder file most broke.given) (sym read) broke.all)
all_read folder file most said None before after (inr used) read =
    (lines_said used.version said [], subst (GaveAll folder file most (lines_said used.version said [])) (sym read) used.used)
all_read folder file most said (Some line) before after (inl (broke, none)) read = absurd (cc)
all_read folder file most said (Some line) before after (inr used) read =
    let all = read (lines_said used.version said [] ++ line_said line ∷ []) used.used.1 in
    ((lines_said used.version said [] ++ line_said line ∷ []) ++ all.0, all.1)

-- what the file comes to where these claims came of it
pub ended : (folder : Option FilesByName) (file : List ℕ) (most : ℕ) (said : List Statement) (ahead : Option ProofLine) (before after : FileLines ProofPlace) (result : Result (Unit {0}) Halt)
    → CameSoFar folder file most said ahead before
    → MatchOption ahead (after ≡ before) (λ line. (used : List Line) → GaveLines folder file most used before → (more : List Line) × GaveAll folder file most (used ++ more) after)
    → ((given : List Line) → GaveAll folder file most given after → IsWholeFile folder file most given result)
    → HasReadFile ProofText most folder file (λ text _. IsBehind said ahead text) result
ended folder file most said None before after result (inl (broke, none)) read whole =
    behind_broken folder file most broke.given result (λ text _. IsBehind said None text) broke.unended (whole broke.given (subst (GaveAll folder file most broke.given) (sym read) broke.all))
ended folder file most said None before after result (inr used) read whole =
    let given = lines_said used.version said [] in
    behind_said folder file most used.version said None [] result used.named tt none_left (whole given (subst (GaveAll folder file most given) (sym read) used.used))
ended folder file most said (Some line) before after result (inl (broke, none)) read whole = absurd (cc)
ended folder file most said (Some line) before after result (inr used) read whole =
    let given = lines_said used.version said [] ++ line_said line ∷ [] in
    let all = read given used.used.1 in
    behind_said folder file most used.version said (Some line) (line_said line ∷ all.0) result used.named (no_box_more (line_said line) all.0 used.used.0)
    (λ others are. left_by line all.0 others used.used.0 are)
    (subst (λ (l : List Line). IsWholeFile folder file most l result) (lines_on used.version said (line_said line) all.0) (whole (given ++ all.0) all.1))

-- where it wasn't read to its end
pub unended : (folder : Option FilesByName) (file : List ℕ) (most : ℕ) (said : List Statement) (ahead : Option ProofLine) (before : FileLines ProofPlace) (halt : Halt)
    → CameSoFar folder file most said ahead before
    → MatchOption ahead ⊥ (λ line. (used : List Line) → GaveLines folder file most used before → AreBytes folder file most (Err halt)) → AreBytes folder file most (Err halt)
unended folder file most said None before halt came halted = absurd halted
unended folder file most said (Some line) before halt (inl (broke, none)) halted = absurd (cc)
unended folder file most said (Some line) before halt (inr used) halted = halted (lines_said used.version said [] ++ line_said line ∷ []) used.used.1
