use Rattle.std.proofs.Common.{◌∙◌, sym, ap, Some, None, arith, rules, refl}
use Rattle.std.proofs.lemmas.Bool.Decides.{nat_tests}
use Rattle.std.specs.Prelude.{option_map}
use Rattle.gl_igc.specs.Code.Parts.{observation_view}
use Rattle.gl_igc.proofs.TrackLemmas.{take-past, take-other, take-line, take-sees, empty_other, with_line-none, on_ok}
use Rattle.gl_igc.proofs.track_steps.take_fix.Goals as goal
use Rattle.gl_igc.proofs.track_steps.take_fix.Goals.{then-is_some-via-then-is_some, then-is_some-via-else-is_some+then-is_empty, then-is_some-via-else-is_some+else-is_empty+then-line-ne66}

pub returns-then-is_some : goal.returns-then-is_some
returns-then-is_some c =
    elim c.then-is_some.branch [
      | then-is_some-via-then-is_some w ↦ λ used lines number capped of.
          take-past used lines number c.args.fields c.args.line.now c.args.track.now (search rules) of
      | then-is_some-via-else-is_some+then-is_empty w ↦ λ used lines number capped of.
          take-other used lines number c.args.fields c.args.line.now c.args.track.now (empty_other c.args.line.now (search rules)) of
      | then-is_some-via-else-is_some+else-is_empty+then-line-ne66 w ↦ λ used lines number capped of.
          take-other used lines number c.args.fields c.args.line.now c.args.track.now (grind (arith, nat_tests)) of
    ]

pub returns-in-Some : goal.returns-in-Some
returns-in-Some c =
    on_ok c.take_seen.result (λ taken used lines number capped of.
    take-line used lines number c.args.fields c.args.line.now (Some (observation_view c.in-Some.seen)) c.take_seen.new.track (grind (arith, nat_tests))
    (sym (ap (option_map observation_view) c.in-Some.is) ∙ take-sees c.args.fields _ c.unwrap_or.result c.args.line.now c.read_fix_line.result refl c.unwrap_or.ensures c.read_fix_line.ensures)
    (taken used lines number capped of)) c.take_seen.ensures

pub returns-in-None : goal.returns-in-None
returns-in-None c = λ used lines number capped of.
    take-line used lines number c.args.fields c.args.line.now None c.skip.new.track (grind (arith, nat_tests)) (sym (ap (option_map observation_view) c.in-None.is)
    ∙ take-sees c.args.fields _ c.unwrap_or.result c.args.line.now c.read_fix_line.result refl c.unwrap_or.ensures c.read_fix_line.ensures) (rw with_line-none (c.skip.ensures used lines of))
