use Rattle.std.proofs.Common.{List, Some, subst}
use Rattle.std.specs.Prelude.{IfOk}
use Rattle.std.proofs.lemmas.Result.{IfOk-weaker}
use Rattle.gl_igc.specs.declared.fix.Fix.{Fix}
use Rattle.gl_near.specs.Pairing.{IsLeast, IsReached, place}
use Rattle.gl_sphere.specs.declared.place.Vec3.{Vec3}
use Rattle.gl_flights.specs.Near.{IsNearestFix}
use Rattle.gl_flights.proofs.near.point_of_recording.Goals as goal

pub returns : goal.returns
returns c =
    let fixes = c.as_slice.result.now in
    let best = c.nearest_fix-best.result in
    subst (λ (f : List Fix). IfOk c.distance_lines.result (λ text. IsNearestFix f c.args.place text.items)) c.as_slice.ensures
    (IfOk-weaker c.distance_lines.result _ (λ text. IsNearestFix fixes c.args.place text.items) (λ text same. record {
      best = best;
      reached = subst (λ (v : Vec3). IsReached (place fixes v) best.total best.first best.second) c.vector.ensures c.nearest_fix-best.ensures.reached;
      least = subst (λ (v : Vec3). IsLeast (place fixes v) (Some best.total)) c.vector.ensures c.nearest_fix-best.ensures.least;
      text = same;
    }) c.distance_lines.ensures)
