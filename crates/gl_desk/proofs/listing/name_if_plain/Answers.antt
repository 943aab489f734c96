use Rattle.std.proofs.lemmas.Result.{err_from_is_err_and}
use Rattle.gl_desk.proofs.Outcomes.{error_has, error_is_not_ok, ok_has, ok_is_no_error}
use Rattle.gl_desk.proofs.listing.name_if_plain.Goals as goal

pub returns-in_err-kind-clause-plain : goal.returns-in_err-kind-clause-plain
returns-in_err-kind-clause-plain c = error_is_not_ok c.args.kind c.in_err-kind.field-0.0 _ c.in_err-kind.was

pub returns-in_err-kind-clause-handed_on : goal.returns-in_err-kind-clause-handed_on
returns-in_err-kind-clause-handed_on c =
    let p = err_from_is_err_and c.from_residual.result c.from_residual.ensures.1 in
    error_has c.args.kind c.in_err-kind.field-0.0 _ c.in_err-kind.was (rw (p.1, p.2))

pub returns-in_err-map_err-clause-plain : goal.returns-in_err-map_err-clause-plain
returns-in_err-map_err-clause-plain c =
    let p = err_from_is_err_and c.from_residual-in_err-map_err.result c.from_residual-in_err-map_err.ensures.1 in
    ok_has c.args.kind c.in_ok-kind.field-0 _ c.in_ok-kind.was (error_is_not_ok c.from_residual-in_err-map_err.result p.0 _ p.1)

pub returns-in_err-map_err-clause-handed_on : goal.returns-in_err-map_err-clause-handed_on
returns-in_err-map_err-clause-handed_on c = ok_is_no_error c.args.kind c.in_ok-kind.field-0 _ c.in_ok-kind.was

pub returns-in_ok-map_err-clause-handed_on : goal.returns-in_ok-map_err-clause-handed_on
returns-in_ok-map_err-clause-handed_on c = ok_is_no_error c.args.kind c.in_ok-kind.field-0 _ c.in_ok-kind.was

pub returns-else-is_file-clause-handed_on : goal.returns-else-is_file-clause-handed_on
returns-else-is_file-clause-handed_on c = ok_is_no_error c.args.kind c.in_ok-kind.field-0 _ c.in_ok-kind.was
