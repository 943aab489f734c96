-- What a line of the program stands for.
use Rattle.gl_task.specs.declared.task.Entrant.{Entrant}
use Rattle.gl_sheet.specs.declared.line.Line.{Line}
use Rattle.gl_sheet.specs.declared.row.Row.{Row}

-- an entrant and what the sheet says of the entrant's day
abbrev pub line_of : Line → Entrant × Row
line_of line = (line.entrant.now, line.row.now)
