-- What `series` is given in the code.
use Rattle.gl_words.specs.declared.series_words.SeriesWords as code
use Rattle.gl_words.specs.Words.{SeriesWords}

abbrev pub series_seen : code.SeriesWords → SeriesWords
series_seen given = record { list = given.list.now; left_out = given.left_out }
