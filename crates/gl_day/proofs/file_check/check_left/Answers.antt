use Rattle.std.proofs.Common.{arith, refl}
use Rattle.gl_day.specs.declared.fault.Fault.TheVariants.{Surplus}
use Rattle.gl_day.proofs.FileWalked.{more_left, none_more}
use Rattle.gl_day.proofs.file_check.check_left.Goals as goal

pub returns-then-has_claim : goal.returns-then-has_claim
returns-then-has_claim c = λ folder file most before counted proved.
    more_left folder file most before c.args.claims.now (record { claim = c.saturating_add.result; fault = Surplus }) c.if-has_claim.ensures proved refl
    (omega (arith, counted, c.saturating_add.ensures))

pub returns : goal.returns
returns c = λ folder file most before counted proved.
    none_more folder file most before c.args.claims.now c.args.count c.if-has_claim.ensures proved counted
