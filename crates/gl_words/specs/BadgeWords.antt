-- What `badge` and `badgecheck` are given in the code.
use Rattle.gl_words.specs.declared.badge_words.BadgeWords as code
use Rattle.gl_words.specs.Words.{BadgeWords}

abbrev pub badge_seen : code.BadgeWords → BadgeWords
badge_seen given = record { flight = given.flight.now; proof = given.proof.now }
