use Rattle.gl_flights.proofs.OneSeries.{series_one}
use Rattle.gl_flights.proofs.laws.one_series.Goals as goal

pub returns : goal.returns
returns c = series_one
