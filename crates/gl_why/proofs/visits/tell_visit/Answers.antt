use Rattle.std.proofs.Common.{refl, [], ◌∷◌}
use Rattle.std.proofs.lemmas.Result.{on_ok_weaker}
use Rattle.gl_judge.proofs.Lines.{read}
use Rattle.gl_why.specs.declared.fact.Fact.TheVariants.{Visited}
use Rattle.gl_why.specs.declared.fact.Visit.{Visit}
use Rattle.gl_why.proofs.visits.tell_visit.Goals as goal

pub returns : goal.returns
returns c =
    let visit : Visit = record { zone = c.args.zone; at = record { number = c.args.z; fix = c.index-fixes-z.result } } in
    on_ok_weaker c.push.result
    (λ pushed. (
      Visited visit ∷ [],
      record {
        visit = visit;
        is = record {
          zone_is = refl;
          spot = read c.args.fixes.now c.args.fixes.now c.args.z c.index-fixes-z.result refl c.requires.in_list c.index-fixes-z.is;
          first = c.requires.first;
        };
        told = refl;
      },
      pushed,
    ))
    c.push.ensures
