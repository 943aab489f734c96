use Rattle.std.proofs.Common.{inl}
use Rattle.std.proofs.lemmas.Result.{err_from_is_err_and}
use Rattle.gl_answer.proofs.FileTests.{both_needed}
use Rattle.gl_answer.proofs.file_tests.need_both.Goals as goal

pub returns-in_err-need-clause-needed : goal.returns-in_err-need-clause-needed
returns-in_err-need-clause-needed c =
    let p = err_from_is_err_and c.from_residual.result c.from_residual.ensures.1 in
    rw (p.1, p.2) (inl c.in_err-need.ensures.needed)

pub returns-clause-needed : goal.returns-clause-needed
returns-clause-needed c =
    both_needed c.args.names.now c.args.first.now c.args.second.now c.need-2.result c.in_ok-need.ensures.needed c.need-2.ensures.needed
