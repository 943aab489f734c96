-- What the names of a day are in the code.
use Rattle.gl_words.specs.declared.day_names.DayNames as code
use Rattle.gl_words.specs.DayWords.{DayNames}

abbrev pub names_seen : code.DayNames → DayNames
names_seen names = record { task = names.task.now; proof = names.proof.now }
