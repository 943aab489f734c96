use Rattle.std.proofs.Common.{◌≡◌, refl, subst, sym, ℤ, w32, to_z, of_z}
use Rattle.std.proofs.lemmas.Int.{to_z-of_z}
use Rattle.gl_judge.proofs.Lines.{read}
use Rattle.gl_judge.specs.Crossings.{Crosses}
use Rattle.gl_why.proofs.crossing.crossing_of.Goals as goal

pub returns : goal.returns
returns c =
    let whole : to_z w32 (of_z w32 c.args.second) ≡ c.args.second = to_z-of_z w32 c.args.second c.ranges.second in
    record {
      number = refl;
      spot = read c.args.rec.now.fixes c.as_slice.result.now c.args.b c.index-as_slice-b.result c.as_slice.ensures c.requires.in_list c.index-as_slice-b.is;
      crossed = subst (λ (time : ℤ). Crosses c.args.start.now.line c.args.rec.now.fixes c.args.judged c.args.b time) (sym whole) c.requires.crossed;
      judged_is = c.legality_of.ensures;
    }
