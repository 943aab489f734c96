use Rattle.gl_desk.proofs.StoredLemmas.{same_under, appends}
use Rattle.gl_desk.proofs.mem.MemDeskDesk.append.Goals as goal

pub returns-in_err-add-clause-nothing : goal.returns-in_err-add-clause-nothing
returns-in_err-add-clause-nothing c = λ _. same_under _ _ _ c.in_err-add.ensures.err

pub returns-in_err-add-clause-others : goal.returns-in_err-add-clause-others
returns-in_err-add-clause-others c = λ other differs. same_under _ _ other (c.add.ensures.others other differs)

pub returns-then-count_call-clause-half : goal.returns-then-count_call-clause-half
returns-then-count_call-clause-half c = λ _. appends _ _ _ _ c.in_ok-add.ensures.ok

pub returns-then-count_call-clause-others : goal.returns-then-count_call-clause-others
returns-then-count_call-clause-others c = λ other differs. same_under _ _ other (c.add.ensures.others other differs)

pub returns-in_err-add-2-clause-nothing : goal.returns-in_err-add-2-clause-nothing
returns-in_err-add-2-clause-nothing c = λ _. same_under _ _ _ c.in_err-add-2.ensures.err

pub returns-in_err-add-2-clause-others : goal.returns-in_err-add-2-clause-others
returns-in_err-add-2-clause-others c = λ other differs. same_under _ _ other (c.add-2.ensures.others other differs)

pub returns-clause-appended : goal.returns-clause-appended
returns-clause-appended c = appends _ _ _ _ c.in_ok-add-2.ensures.ok

pub returns-clause-others : goal.returns-clause-others
returns-clause-others c = λ other differs. same_under _ _ other (c.add-2.ensures.others other differs)
