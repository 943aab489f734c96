use Rattle.std.proofs.Common.{refl, subst, List, [], ◌∷◌}
use Rattle.std.proofs.lemmas.Result.{on_ok_weaker}
use Rattle.gl_igc.specs.declared.fix.Fix.{Fix}
use Rattle.gl_sphere.specs.declared.place.Vec3.{Vec3}
use Rattle.gl_why.specs.Visits.{IsNearest}
use Rattle.gl_why.specs.declared.fact.Fact.TheVariants.{Missed}
use Rattle.gl_why.proofs.miss.tell_miss.Goals as goal

pub returns : goal.returns
returns c =
    on_ok_weaker c.push.result
    (λ pushed. (
      Missed c.nearest-miss.result ∷ [],
      record {
        miss = c.nearest-miss.result;
        number_is = c.nearest-miss.ensures.point;
        nearest = subst (λ (to : Vec3). IsNearest c.args.rec.now.fixes c.args.judged c.args.from to c.nearest-miss.result) c.course_point-to.ensures
            (subst (λ (fixes : List Fix). IsNearest fixes c.args.judged c.args.from c.course_point-to.result c.nearest-miss.result) c.as_slice.ensures c.nearest-miss.ensures.nearest);
        told = refl;
      },
      pushed,
    ))
    c.push.ensures
