use Rattle.std.proofs.Common.{refl, arith}
use Rattle.std.specs.Prelude.{option_map}
use Rattle.gl_judge.specs.Choices.{numbers_before}
use Rattle.gl_why.specs.Results.{IsResultAt}
use Rattle.gl_why.proofs.FoundLemmas.{next_found, none_found, numbers-more}
use Rattle.gl_why.proofs.results.tell_each.Goals as goal

pub places-init : goal.places-init
places-init c =
    none_found (IsResultAt (option_map (λ number. number.now) c.args.choice) c.args.entrants.now c.args.flights.now c.args.day.now) (numbers_before 0 0) c.args.lines.now refl

pub places-preserved : goal.places-preserved
places-preserved c =
    next_found (IsResultAt (option_map (λ number. number.now) c.args.choice) c.args.entrants.now c.args.flights.now c.args.day.now) (numbers_before 0 c.places.i) _ c.places.i _ _ _
    (numbers-more 0 c.places.i (omega arith)) c.places.invariant c.in_ok-tell_result_at.ensures
