use Rattle.std.proofs.Common.{◌≡◌, ◌∙◌, ap, arith, length, map, refl, sym}
use Rattle.std.proofs.lemmas.List.{get_or-map, length-map}
use Rattle.std.proofs.lemmas.Option.{slice_get_read}
use Rattle.std.proofs.lemmas.Result.{on_ok_weaker}
use Rattle.gl_day.specs.Day.{performances_of}
use Rattle.gl_day.specs.declared.flight.Flight.{Flight}
use Rattle.gl_points.specs.declared.performance.Performance.{Performance}
use Rattle.gl_why.proofs.results.tell_result_at.Goals as goal

pub tell_result-requires : goal.tell_result-requires
tell_result-requires c =
    let flown : Flight → Performance = λ (flight : Flight). flight.performance in
    let many : length (performances_of c.args.flights.now) ≡ length c.args.flights.now = length-map c.args.flights.now flown in
    let few = c.requires.few in
    let at = c.requires.at in
    record {
      list = performances_of c.args.flights.now;
      day_of = c.requires.figures;
      room = omega (arith, many, few);
      among = (
        c.args.i,
        omega (arith, many, at),
        get_or-map flown c.args.flights.now c.args.i c.index-flights-i.result c.index-flights-i.result.performance at ∙ ap flown (sym c.index-flights-i.is),
      );
    }

pub returns : goal.returns
returns c =
    let at = c.requires.at in
    let as_many = c.requires.as_many in
    on_ok_weaker c.tell_result.result
    (λ told. (
      told.0,
      (
        c.index-entrants-i.result,
        c.index-flights-i.result,
        slice_get_read c.args.entrants.now (length c.args.entrants.now) c.args.i c.index-entrants-i.result refl (omega (arith, at, as_many)) c.index-entrants-i.is,
        slice_get_read c.args.flights.now (length c.args.flights.now) c.args.i c.index-flights-i.result refl at c.index-flights-i.is,
        told.1,
      ),
      told.2,
    ))
    c.tell_result.ensures
