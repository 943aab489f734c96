use Rattle.std.proofs.Common.{refl, [], ◌∷◌}
use Rattle.std.proofs.lemmas.Result.{on_ok_weaker}
use Rattle.gl_why.specs.Fines.{owing}
use Rattle.gl_why.specs.declared.fact.Fact.TheVariants.{Fined}
use Rattle.gl_why.proofs.fines.tell_fine.Goals as goal

pub returns-in_ok-words-in-Some : goal.returns-in_ok-words-in-Some
returns-in_ok-words-in-Some c =
    on_ok_weaker c.push.result
    (λ pushed. (Fined c.in-Some.fine ∷ [], owing c.in-Some.fine c.in-Some.ensures.some.0 c.in-Some.ensures.some.1 refl, pushed)) c.push.ensures
