-- What two looks at a folder have in common: a file that nothing was appended to, and the recording of a text.
use Rattle.std.proofs.Common.{◌≡◌, ◌≢◌, ◌∙◌, sym, ap, List, ℕ, Option, None, Some, Result, Ok}
use Rattle.std.specs.Prelude.{IsNone, IsSome, IsSomeAnd}
use Rattle.gl_desk.specs.Desk.{FilesByName}
use Rattle.gl_igc.proofs.SameRecording.{recording_same}
use Rattle.gl_igc.specs.Reading.{Reading}
use Rattle.gl_igc.specs.Recording.{reading_of}
use Rattle.gl_igc.specs.declared.error.IgcError.{IgcError}
use Rattle.gl_igc.specs.declared.recording.Recording.{Recording}
use Rattle.gl_answer.specs.FileTests.{IsRecordingOf}

-- a file that was seen is another than one that wasn't, and is as it was
pub still : (before files : FilesByName) (file proof : List ℕ) (seen unseen : Option (List ℕ)) → before file ≡ seen → before proof ≡ unseen → IsSome seen → IsNone unseen
    → ((other : List ℕ) → other ≢ proof → files other ≡ before other) → files file ≡ seen
still before files file proof seen unseen is not some none others =
    others file (λ same. let e : seen ≡ unseen = sym is ∙ ap before same ∙ not in cc) ∙ is

-- a text has one recording
pub one_recording : (seen : Option (List ℕ)) (day : _) (a b : Recording) → IsSomeAnd seen (λ text. IsRecordingOf day text a) → IsSomeAnd seen (λ text. IsRecordingOf day text b) → a ≡ b
one_recording None day a b is_a is_b = absurd is_a
one_recording (Some text) day a b is_a is_b =
    let e : ◌≡◌ {A = Result Reading IgcError} (Ok (reading_of a)) (Ok (reading_of b)) = sym is_a ∙ is_b in
    recording_same a b (cc)
