use Rattle.gl_desk.proofs.Outcomes.{error_has, error_is_not_ok, ok_has, ok_is_no_error}
use Rattle.gl_desk.proofs.listing.listed_name.Goals as goal

pub returns-in-Ok-clause-name : goal.returns-in-Ok-clause-name
returns-in-Ok-clause-name g c = ok_has c.args.entry c.in-Ok.entry _ c.in-Ok.is (rw c.file_name.ensures at c.name_if_plain.ensures.name)

pub returns-in-Ok-clause-passed_over : goal.returns-in-Ok-clause-passed_over
returns-in-Ok-clause-passed_over g c = ok_is_no_error c.args.entry c.in-Ok.entry _ c.in-Ok.is

pub returns-in-Ok-clause-handed_on : goal.returns-in-Ok-clause-handed_on
returns-in-Ok-clause-handed_on g c = ok_is_no_error c.args.entry c.in-Ok.entry _ c.in-Ok.is

pub returns-in-Err-clause-name : goal.returns-in-Err-clause-name
returns-in-Err-clause-name g c = error_is_not_ok c.args.entry c.in-Err.error _ c.in-Err.is

pub returns-in-Err-clause-passed_over : goal.returns-in-Err-clause-passed_over
returns-in-Err-clause-passed_over g c = error_has c.args.entry c.in-Err.error _ c.in-Err.is c.unlisted.ensures.passed_over

pub returns-in-Err-clause-handed_on : goal.returns-in-Err-clause-handed_on
returns-in-Err-clause-handed_on g c = error_has c.args.entry c.in-Err.error _ c.in-Err.is c.unlisted.ensures.handed_on
