-- What `near`, `nearcheck` and `point` are given in the code.
use Rattle.gl_words.specs.declared.near_words.NearWords as code
use Rattle.gl_words.specs.declared.near_words.PointWords as code_point
use Rattle.gl_words.specs.Words.{NearWords, PointWords}

abbrev pub near_seen : code.NearWords → NearWords
near_seen given = record {
  flight = given.flight.now;
  other = given.other.now;
  seconds = given.apart.seconds;
  proof = given.proof.now;
}

abbrev pub point_seen : code_point.PointWords → PointWords
point_seen given = record { flight = given.flight.now; place = given.place.word.now }
