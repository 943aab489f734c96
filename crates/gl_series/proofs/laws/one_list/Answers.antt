use Rattle.gl_series.proofs.Lines.{list_refused, list_unique, refused_once}
use Rattle.gl_series.proofs.laws.one_list.Goals as goal

pub returns : goal.returns
returns c = record { one = list_unique; never_both = list_refused; one_reason = refused_once }
