-- Lines as the code keeps them.
use Rattle.std.specs.Prelude.{Bool}
use Rattle.gl_why.specs.Facts.{is_refusal}
use Rattle.gl_why.specs.declared.lines.Line.{Line}

-- a line tells that a file can't be used
abbrev pub is_refused_line : Line → Bool
is_refused_line line = is_refusal line.told
