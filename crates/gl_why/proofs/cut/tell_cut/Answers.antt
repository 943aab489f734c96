use Rattle.std.proofs.Common.{refl, [], ◌∷◌}
use Rattle.std.proofs.lemmas.Result.{on_ok_weaker}
use Rattle.gl_why.specs.Cuts.{somewhere}
use Rattle.gl_why.specs.declared.fact.Fact.TheVariants.{Cut}
use Rattle.gl_why.proofs.cut.tell_cut.Goals as goal

pub returns-in_ok-from_str-in-Some : goal.returns-in_ok-from_str-in-Some
returns-in_ok-from_str-in-Some c =
    on_ok_weaker c.push.result (λ pushed. (Cut c.in-Some.cut ∷ [], somewhere c.in-Some.cut c.in-Some.ensures.some refl, pushed)) c.push.ensures
