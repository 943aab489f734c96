use Rattle.std.proofs.Common.{refl, arith}
use Rattle.gl_judge.specs.Choices.{numbers_before}
use Rattle.gl_why.specs.Credits.{IsCreditTold}
use Rattle.gl_why.proofs.FoundLemmas.{next_found, none_found, numbers-more}
use Rattle.gl_why.proofs.credit.tell_credits.Goals as goal

pub places-init : goal.places-init
places-init c = none_found (IsCreditTold c.args.fixes.now c.args.choice.now) (numbers_before 0 0) c.args.lines.now refl

pub places-preserved : goal.places-preserved
places-preserved c =
    next_found (IsCreditTold c.args.fixes.now c.args.choice.now) (numbers_before 0 c.places.k) _ c.places.k _ _ _ (numbers-more 0 c.places.k (omega arith)) c.places.invariant c.in_ok-tell_credit.ensures
