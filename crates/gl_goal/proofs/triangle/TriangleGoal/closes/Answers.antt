use Rattle.std.proofs.Common.{◌∙◌, ap, sym, ◌<◌, length, arith}
use Rattle.std.specs.Prelude.{nat_le}
use Rattle.std.proofs.lemmas.List.{get_or_default}
use Rattle.gl_goal.specs.Free.{fixes_between}
use Rattle.gl_goal.proofs.Triangles.{length-between}
use Rattle.gl_goal.proofs.triangle.TriangleGoal.closes.Goals as goal

pub index-requires : goal.index-requires
index-requires c =
    let g = c.args.self.now in
    omega (arith, g.reached.0, length-between g.lists.fixes g.first g.last g.in_order g.within, c.requires)

pub returns : goal.returns
returns c =
    let g = c.args.self.now in
    let range = fixes_between g.lists.fixes g.first g.last in
    let below : c.args.first < length range = omega (arith, length-between g.lists.fixes g.first g.last g.in_order g.within, c.requires) in
    let read = c.index.ensures ∙ get_or_default g.reaches.items c.args.first c.index.result.now 0 (omega (arith, below, g.reached.0)) in
    ap (λ n. nat_le c.args.third n) read ∙ sym (g.reached.1 c.args.first c.args.third below)
