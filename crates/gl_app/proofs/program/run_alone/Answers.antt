use Rattle.std.proofs.Common.{refl}
use Rattle.gl_day.specs.Flight.{steward_rules}
use Rattle.gl_task.specs.Ceiling.{ceiling_fed, ceiling_opening, ceiling_owed}
use Rattle.gl_task.specs.EngineNoise.{noise_fed, noise_opening, noise_owed}
use Rattle.gl_day_app.proofs.Stewards.{at_place, two_rules, with_rules}
use Rattle.gl_app.specs.Run.{IsRun}
use Rattle.gl_app.proofs.program.run_alone.OwnLists.{own-1}
use Rattle.gl_app.proofs.program.run_alone.Goals as goal

pub returns-clause-ran : goal.returns-clause-ran
returns-clause-ran g c =
    with_rules IsRun c.args.words.now _ _ _ _ _ _ c.run_single.ensures.kept
    (two_rules _ _ _ _ _ _ c.new-stewards.ensures.items c.in_ok-push.ensures.items c.in_ok-push-2.ensures.items
    (steward_rules ceiling_opening ceiling_fed ceiling_owed) (steward_rules noise_opening noise_fed noise_owed)
    (at_place (λ v value. steward_rules ((own-1.entry v).1.opening value) ((own-1.entry v).1.fed value) ((own-1.entry v).1.owed value)) _ _ c.into_dyn_box.result.value _ c.into_dyn_box.ensures.0
    (λ other. refl))
    (at_place (λ v value. steward_rules ((own-1.entry v).1.opening value) ((own-1.entry v).1.fed value) ((own-1.entry v).1.owed value)) _ _ c.into_dyn_box-in_ok-new-2.result.value _
    c.into_dyn_box-in_ok-new-2.ensures.0 (λ other. refl)))
    c.run_single.ensures
