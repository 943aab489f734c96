use Rattle.std.proofs.Common.{arith}
use Rattle.std.proofs.lemmas.Grind.{common_steps}
use Rattle.gl_draft.specs.Taken.{IsZoneAt}
use Rattle.gl_draft.proofs.ZoneLemmas.{next_zones}
use Rattle.gl_draft.proofs.course.zones_of.Goals as goal

pub numbers-preserved : goal.numbers-preserved
numbers-preserved c =
    let is : IsZoneAt c.args.points.now c.numbers.number c.in-Some.zone = record { turn = c.turn_at-turn.result; turn_is = c.turn_at-turn.ensures; zone_is = c.in-Some.ensures.some } in
    record {
      zones = next_zones _ _ _ _ _ c.numbers.invariant.count c.numbers.invariant.zones is c.in_ok-push.ensures.items;
      count = grind (arith, common_steps, c.numbers.invariant.count, c.in_ok-push.ensures.items);
    }
