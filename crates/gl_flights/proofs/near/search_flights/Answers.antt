use Rattle.std.proofs.Common.{refl, subst}
use Rattle.gl_near.specs.Certificate.{IsCertificate, total_of}
use Rattle.gl_near.specs.Pairing.{IsLeast}
use Rattle.gl_near.specs.Search.{boxes_of}
use Rattle.gl_flights.proofs.near.search_flights.Goals as goal

pub returns : goal.returns
returns c =
    let found = c.in_ok-found.found in
    record {
      best = found.best;
      boxes = boxes_of found;
      least = subst (λ pairing. IsLeast pairing (total_of found.best)) c.in_ok-pairs.ensures c.in_ok-found.ensures.least;
      certificate = subst (λ pairing. IsCertificate pairing found.best (boxes_of found)) c.in_ok-pairs.ensures c.in_ok-found.ensures.certificate;
      ended = refl;
      said = c.in_ok-said.ensures.said;
      appended = record { numbers = c.pair_lines.ensures.numbers; each = c.in_ok-found.ensures.axes; is = refl };
    }
