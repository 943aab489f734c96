-- What holds of any tests of files.
use Rattle.std.proofs.Common.{◌≡◌, ◌∙◌, refl, sym, ap, subst, ℕ, ℤ, inl, inr, true, arith, List, [], ◌∷◌, ◌++◌, Option, None, Some, Result, Ok, Err, Vec}
use Rattle.std.specs.Prelude.{Contains, IsSome}
use Rattle.std.specs.declared.alloc.Global.{Global}
use Rattle.gl_desk.specs.Desk.{FilesByName}
use Rattle.gl_igc.specs.Reading.{Reading}
use Rattle.gl_igc.specs.declared.error.IgcError.{IgcError}
use Rattle.gl_proof.proofs.Unique as proof
use Rattle.gl_text.proofs.Forms.{is_unbroken}
use Rattle.gl_answer.specs.declared.halt.Halt.{Halt}
use Rattle.gl_answer.specs.declared.halt.Halt.TheVariants.{Refused, Stopped}
use Rattle.gl_answer.specs.declared.refusal.Cause.{Cause}
use Rattle.gl_answer.specs.declared.refusal.Refusal.{Refusal}
use Rattle.gl_answer.specs.FileTests.{AllPass, Fails, FileTest, FirstFails, IsNoText, Kind, Listed, Passes, ProofText, Reads, RecordingText, Small, Unlisted, file_of, proof_cause, text_tests}
use Rattle.gl_answer.specs.ReadFiles.{AreNeeded, HasRead, HasReadFile, IsNeeded}
use Rattle.gl_answer.specs.Halts.{AreBytes, RefusesFor}

-- no text is of the kind and isn't
abbrev pub IsDecided : Kind → Type 0
IsDecided kind = (text : List ℕ) (cause : Cause) → kind.IsText text → kind.IsNoText text cause → ⊥

-- no text is a recording and is refused
pub recording_decided : (day : Option ℤ) → IsDecided (RecordingText day)
recording_decided day text cause (reading, reads) (error, told, why) =
    let e : ◌≡◌ {A = Result Reading IgcError} (Ok reading) (Err error) = sym reads ∙ told in cc

-- no text is a proof and is refused
pub proof_decided : IsDecided ProofText
proof_decided text cause (version, statements, is) (error, told, why) =
    let e : ◌≡◌ {A = Option Cause} None (Some cause) = sym (ap proof_cause (proof.text_refused text statements error is told)) ∙ why in cc

-- so it is of the kind that a test asks for, if it asks for one
abbrev pub IsTestDecided : FileTest → Type 0
IsTestDecided (Listed file seen) = Unit {0}
IsTestDecided (Unlisted file seen) = Unit {0}
IsTestDecided (Small most file seen) = Unit {0}
IsTestDecided (Reads kind file seen) = IsDecided kind

-- and of those that some tests ask for
abbrev pub AreDecided : List FileTest → Type 0
AreDecided [] = Unit {0}
AreDecided (test ∷ tests) = IsTestDecided test × AreDecided tests

-- those of some tests, and of those behind them
pub all_decided : (front back : List FileTest) → AreDecided front → AreDecided back → AreDecided (front ++ back)
all_decided [] back decided behind = behind
all_decided (test ∷ front) back decided behind = (decided.0, all_decided front back decided.1 behind)

-- no test passes and fails
pub passes_or_fails : (test : FileTest) (cause : Cause) → IsTestDecided test → Passes test → Fails test cause → ⊥
passes_or_fails (Listed file None) cause decided passes fails = cc
passes_or_fails (Listed file (Some bytes)) cause decided passes (none, why) = cc
passes_or_fails (Unlisted file None) cause decided passes (some, why) = cc
passes_or_fails (Unlisted file (Some bytes)) cause decided passes fails = cc
passes_or_fails (Small most file None) cause decided passes fails = absurd passes
passes_or_fails (Small most file (Some bytes)) cause decided passes (more, why) = omega (arith, passes, more)
passes_or_fails (Reads kind file None) cause decided passes fails = absurd passes
passes_or_fails (Reads kind file (Some bytes)) cause decided passes fails = decided bytes cause passes fails

-- where all pass none is the first that fails
pub none_fails : (tests : List FileTest) (refusal : Refusal) → AreDecided tests → AllPass tests → FirstFails tests refusal → ⊥
none_fails [] refusal decided passes fails = absurd fails
none_fails (test ∷ tests) refusal decided passes (inl (file, fails)) = passes_or_fails test refusal.cause decided.0 passes.0 fails
none_fails (test ∷ tests) refusal decided passes (inr (pass, fails)) = none_fails tests refusal decided.1 passes.1 fails

-- the first that fails of some tests, and of those behind them
pub fails_in_front : (front back : List FileTest) (refusal : Refusal) → FirstFails front refusal → FirstFails (front ++ back) refusal
fails_in_front [] back refusal fails = absurd fails
fails_in_front (test ∷ front) back refusal (inl fails) = inl fails
fails_in_front (test ∷ front) back refusal (inr (pass, fails)) = inr (pass, fails_in_front front back refusal fails)

pub fails_behind : (front back : List FileTest) (refusal : Refusal) → AllPass front → FirstFails back refusal → FirstFails (front ++ back) refusal
fails_behind [] back refusal passes fails = fails
fails_behind (test ∷ front) back refusal passes fails = inr (passes.0, fails_behind front back refusal passes.1 fails)

pub all_pass : (front back : List FileTest) → AllPass front → AllPass back → AllPass (front ++ back)
all_pass [] back front behind = behind
all_pass (test ∷ tests) back front behind = (front.0, all_pass tests back front.1 behind)

-- a file whose size was tested is listed
pub small_fails : (most : ℕ) (file : List ℕ) (seen : Option (List ℕ)) (tests : List FileTest) (refusal : Refusal) → FirstFails (Small most file seen ∷ tests) refusal → IsSome seen
small_fails most file None tests refusal (inl (same, fails)) = absurd fails.0
small_fails most file None tests refusal (inr (passes, fails)) = absurd passes
small_fails most file (Some text) tests refusal fails = refl

pub small_passes : (most : ℕ) (file : List ℕ) (seen : Option (List ℕ)) (tests : List FileTest) → AllPass (Small most file seen ∷ tests) → IsSome seen
small_passes most file None tests passes = absurd passes.0
small_passes most file (Some text) tests passes = refl

-- so is one whose text was tested
pub some_text_fails : (kind : Kind) (most : ℕ) (file : List ℕ) (seen : Option (List ℕ)) (refusal : Refusal) → FirstFails (text_tests kind most file seen) refusal → IsSome seen
some_text_fails kind most file seen refusal fails = small_fails most file seen (Reads kind file seen ∷ []) refusal fails

pub some_text_passes : (kind : Kind) (most : ℕ) (file : List ℕ) (seen : Option (List ℕ)) → AllPass (text_tests kind most file seen) → IsSome seen
some_text_passes kind most file seen passes = small_passes most file seen (Reads kind file seen ∷ []) passes

-- the files of tests have names without an LF
abbrev pub AreNamed : List FileTest → Type 0
AreNamed [] = Unit {0}
AreNamed (test ∷ tests) = (is_unbroken (file_of test) ≡ true) × AreNamed tests

pub all_named : (front back : List FileTest) → AreNamed front → AreNamed back → AreNamed (front ++ back)
all_named [] back named behind = behind
all_named (test ∷ front) back named behind = (named.0, all_named front back named.1 behind)

pub refusal_named : (tests : List FileTest) (refusal : Refusal) → AreNamed tests → FirstFails tests refusal → is_unbroken refusal.file ≡ true
refusal_named [] refusal named fails = absurd fails
refusal_named (test ∷ tests) refusal named (inl (file, fails)) = ap is_unbroken file ∙ named.0
refusal_named (test ∷ tests) refusal named (inr (pass, fails)) = refusal_named tests refusal named.1 fails

-- A text that isn't of its kind refuses its file for a cause, if there is one; if not, memory was wanting.
pub text_refused : {X : Type 0} (kind : Kind) (file text : List ℕ) (cause : Option Cause) (halt : Halt) (IsOf : List ℕ → X → Type 0)
    → ((why : Cause) → cause ≡ Some why → IsNoText kind text why) → RefusesFor file cause halt → HasRead kind file text IsOf (Err halt)
text_refused kind file text None (Refused refusal) IsOf isnt wanting = absurd (cc)
text_refused kind file text None (Stopped stop) IsOf isnt wanting = tt
text_refused kind file text (Some cause) (Refused refusal) IsOf isnt same =
    (ap (λ (r : Refusal). r.file) same, subst (IsNoText kind text) (ap (λ (r : Refusal). r.cause) (sym same)) (isnt cause refl))
text_refused kind file text (Some cause) (Stopped stop) IsOf isnt same = tt

-- a file whose bytes were read
pub bytes_read : {X : Type 0} (folder : Option FilesByName) (kind : Kind) (file : List ℕ) (most : ℕ) (bytes : Vec ℕ Global) (result : Result X Halt) (IsOf : List ℕ → X → Type 0)
    → AreBytes folder file most (Ok bytes) → HasRead kind file bytes.items IsOf result → HasReadFile kind most folder file IsOf result
bytes_read folder kind file most bytes (Ok x) IsOf read is = (Some bytes.items, read.0, (read.1, (is.0, tt)), is.1)
bytes_read folder kind file most bytes (Err (Refused refusal)) IsOf read is = (Some bytes.items, read.0, inr (read.1, inl is))
bytes_read folder kind file most bytes (Err (Stopped stop)) IsOf read is = tt

-- two files of which the first is there
pub both_needed : (names : List (List ℕ)) (first second : List ℕ) (result : Result (Unit {0}) Halt) → Contains names first → IsNeeded names second result → AreNeeded names first second result
both_needed names first second (Ok found) there needed = (there, needed)
both_needed names first second (Err halt) there needed = inr (there, needed)
