use Rattle.gl_check.proofs.choice.fault_of_choice.Goals as goal

pub returns-clause-fault : goal.returns-clause-fault
returns-clause-fault g c = rw c.in_ok-total.was c.fault_of.ensures.fault
