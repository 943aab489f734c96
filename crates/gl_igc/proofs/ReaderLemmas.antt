-- The answer for the lines of a whole text.
use Rattle.std.proofs.Common.{◌≡◌, ◌≢◌, ◌∙◌, sym, ap, subst, ℕ, ℤ, List, Option}
use Rattle.std.specs.Prelude.{Ok, Err, Result, MatchResult, IfOk, IfErr, map}
use Rattle.gl_text.specs.Lines.{lines_of}
use Rattle.gl_igc.specs.Reading.{recording_of, recording_of_lines}
use Rattle.gl_igc.specs.Laws.{AreOfLines}
use Rattle.gl_igc.specs.Recording.{IsReadAs, reading_of, sighting_of}
use Rattle.gl_igc.specs.declared.error.IgcError.{IgcError}
use Rattle.gl_igc.specs.declared.error.IgcError.TheVariants.{Memory}
use Rattle.gl_igc.specs.declared.recording.Recording.{Recording}
use Rattle.gl_igc.proofs.LawLemmas.{fixes_are_seen}

abbrev pub Lines : Type 0
Lines = List (List ℕ)

abbrev pub IsAnswer : Lines → Option ℤ → Result Recording IgcError → Type 0
IsAnswer lines task_day result =
    MatchResult result (λ recording. recording_of_lines lines task_day ≡ Ok (reading_of recording)) (λ e. recording_of_lines lines task_day ≡ Err e)

pub read_as : (text : List ℕ) (task_day : Option ℤ) (lines : Lines) (result : Result Recording IgcError) → lines ≡ lines_of text → IsAnswer lines task_day result → IsReadAs text task_day result
unfolding recording_of
read_as text task_day lines (Ok recording) same is = ap (λ (lines : Lines). recording_of_lines lines task_day) (sym same) ∙ is
read_as text task_day lines (Err e) same is = λ _. ap (λ (lines : Lines). recording_of_lines lines task_day) (sym same) ∙ is

pub read_ok : (text : List ℕ) (task_day : Option ℤ) (result : Result Recording IgcError) → IsReadAs text task_day result
    → IfOk result (λ recording. recording_of text task_day ≡ Ok (reading_of recording))
read_ok text task_day (Ok recording) is = is
read_ok text task_day (Err e) is = tt

pub read_refused : (text : List ℕ) (task_day : Option ℤ) (result : Result Recording IgcError) → IsReadAs text task_day result → IfErr result (λ e. e ≢ Memory → recording_of text task_day ≡ Err e)
read_refused text task_day (Ok recording) is = tt
read_refused text task_day (Err e) is = is

pub answer_seen : (text : List ℕ) (task_day : Option ℤ) (lines : Lines) (result : Result Recording IgcError) → lines ≡ lines_of text → IsAnswer lines task_day result
    → IfOk result (λ recording. AreOfLines (lines_of text) (map sighting_of recording.fixes))
answer_seen text task_day lines (Ok recording) same is =
    subst (λ (lines : Lines). AreOfLines lines (map sighting_of recording.fixes)) same (fixes_are_seen lines task_day (reading_of recording) is)
answer_seen text task_day lines (Err e) same is = tt
