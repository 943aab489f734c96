use Rattle.std.proofs.Common.{ℤ, Some, rules, subst, w32}
use Rattle.std.proofs.lemmas.Int.{to_z-of_z}
use Rattle.gl_desk.specs.Limits.{most_bytes}
use Rattle.gl_answer.specs.ReadFiles.{HasReadFile}
use Rattle.gl_answer.specs.FileTests.{IsRecordingOf, RecordingText}
use Rattle.gl_flights.proofs.near_files.read_other.Goals as goal

pub returns-clause-read : goal.returns-clause-read
returns-clause-read g c =
    subst (λ (day : ℤ). HasReadFile (RecordingText (Some day)) most_bytes (g.D.Desk.told c.args.desk.now).folder c.args.file.now (IsRecordingOf (Some day)) c.read_recording.result)
    (to_z-of_z w32 c.args.first.now.date (search rules)) c.read_recording.ensures.read
