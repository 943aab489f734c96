use Rattle.std.proofs.Common.{List, subst, ℕ}
use Rattle.gl_desk.specs.Limits.{most_bytes}
use Rattle.gl_task_file.specs.Reading.{IsReadFrom}
use Rattle.gl_answer.specs.ReadFiles.{HasRead}
use Rattle.gl_day_files.specs.DayFiles.{TaskText}
use Rattle.gl_answer.proofs.FileTests.{bytes_read}
use Rattle.gl_day_files.proofs.day_files.read_task_file.Goals as goal

pub returns-clause-read : goal.returns-clause-read
returns-clause-read g c =
    let read = subst (λ (text : List ℕ). HasRead TaskText c.args.file.now text IsReadFrom c.task_in.result) c.deref.ensures.value c.task_in.ensures.read in
    bytes_read (g.D.Desk.told c.args.desk.now).folder TaskText c.args.file.now most_bytes c.in_ok-bytes.bytes c.task_in.result IsReadFrom c.in_ok-bytes.ensures.seen read
