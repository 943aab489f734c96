use Rattle.std.proofs.Common.{refl, [], ◌∷◌}
use Rattle.std.proofs.lemmas.Result.{on_ok_weaker}
use Rattle.gl_why.specs.Crossings.{crossed}
use Rattle.gl_why.specs.declared.fact.Fact.TheVariants.{Crossed}
use Rattle.gl_why.proofs.crossing.tell_crossing.Goals as goal

pub returns-in_ok-words-in-Some : goal.returns-in_ok-words-in-Some
returns-in_ok-words-in-Some c =
    on_ok_weaker c.push.result (λ pushed. (Crossed c.crossing_of-crossing.result ∷ [], crossed c.crossing_of-crossing.result c.crossing_of-crossing.ensures refl, pushed)) c.push.ensures
