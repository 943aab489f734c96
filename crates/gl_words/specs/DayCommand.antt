-- What a command of a day is in the code.
use Rattle.gl_words.specs.declared.day_command.DayCommand.{DayCommand}
use Rattle.gl_words.specs.declared.day_command.DayCommand.TheVariants as code
use Rattle.gl_words.specs.DayNames.{names_seen}
use Rattle.gl_words.specs.DayWords as words

-- a command of the code as plain data
abbrev pub day_seen : DayCommand → words.DayCommand
day_seen (code.Score names) = words.Score (names_seen names)
day_seen (code.Check names) = words.Check (names_seen names)
