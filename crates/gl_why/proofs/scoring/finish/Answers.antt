use Rattle.std.proofs.Common.{refl, subst, List}
use Rattle.gl_airspace.specs.declared.volume.Airspace.{Airspace}
use Rattle.gl_day.specs.Flight.{IsFlight, StewardRules, steward_rules}
use Rattle.std.specs.Prelude.{Some}
use Rattle.gl_why.specs.Stewards.{ceiling_rules, engine_rules}
use Rattle.gl_why.proofs.StewardLemmas.{at_place, two_rules}
use Rattle.gl_why.proofs.scoring.finish.OwnLists.{own-1}
use Rattle.gl_why.proofs.scoring.finish.Goals as goal

pub returns : goal.returns
returns c = λ air bytes statements seen judged claims.
    subst (λ (rules : List StewardRules). IsFlight c.args.task.now air rules c.args.entrant.now (Some bytes) statements c.finish_flight.result)
    (two_rules _ _ _ _ _ _ c.new-stewards.ensures.items c.in_ok-push.ensures.items c.in_ok-push-2.ensures.items ceiling_rules engine_rules
    (at_place (λ v value. steward_rules ((own-1.entry v).1.opening value) ((own-1.entry v).1.fed value) ((own-1.entry v).1.owed value)) _ _ c.into_dyn_box.result.value _ c.into_dyn_box.ensures.0
    (λ other. refl))
    (at_place (λ v value. steward_rules ((own-1.entry v).1.opening value) ((own-1.entry v).1.fed value) ((own-1.entry v).1.owed value)) _ _ c.into_dyn_box-in_ok-new-2.result.value _
    c.into_dyn_box-in_ok-new-2.ensures.0 (λ other. refl)))
    (c.finish_flight.ensures.flight air bytes statements seen judged claims)
