-- What `replay` is given in the code.
use Rattle.gl_words.specs.declared.replay_words.ReplayWords as code
use Rattle.gl_words.specs.Words.{ReplayWords}

abbrev pub replay_seen : code.ReplayWords → ReplayWords
replay_seen given = record {
  flight = given.flight.now;
  schedule = given.schedule.now;
  workers = given.workers.count;
}
