use Rattle.gl_words.specs.declared.command.Command.{Command}
use Rattle.gl_words.specs.declared.command.Command.TheVariants as code
use Rattle.gl_words.specs.BadgeWords.{badge_seen}
use Rattle.gl_words.specs.NearWords.{near_seen, point_seen}
use Rattle.gl_words.specs.ReplayWords.{replay_seen}
use Rattle.gl_words.specs.SeriesWords.{series_seen}
use Rattle.gl_words.specs.Words as words

-- a command of the code as plain data
abbrev pub seen : Command → words.Command
seen (code.Free file) = words.Free file.now
seen (code.Triangle file) = words.Triangle file.now
seen (code.Replay given) = words.Replay (replay_seen given)
seen (code.Near given) = words.Near (near_seen given)
seen (code.NearCheck given) = words.NearCheck (near_seen given)
seen (code.Point given) = words.Point (point_seen given)
seen (code.Badge given) = words.Badge (badge_seen given)
seen (code.BadgeCheck given) = words.BadgeCheck (badge_seen given)
seen (code.Series given) = words.Series (series_seen given)
seen (code.Demo day) = words.Demo day.number
