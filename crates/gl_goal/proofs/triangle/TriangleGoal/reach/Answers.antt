use Rattle.std.proofs.Common.{◌≡◌, ◌∙◌, subst, ◌-◌, ◌<◌, length, ◌+◌, arith}
use Rattle.std.specs.Prelude.{slice_index}
use Rattle.std.proofs.lemmas.List.{get_or_default}
use Rattle.gl_goal.specs.Reach.{IsReach}
use Rattle.gl_goal.specs.Free.{fixes_between}
use Rattle.gl_goal.proofs.Triangles.{length-between, reach_within, told_reach}
use Rattle.gl_goal.proofs.triangle.TriangleGoal.reach.Goals as goal

pub index-requires : goal.index-requires
index-requires c =
    let g = c.args.self.now in
    omega (arith, g.reached.0, length-between g.lists.fixes g.first g.last g.in_order g.within, c.requires.first, c.requires.last)

pub overflow_add-result : goal.overflow_add-result
overflow_add-result c =
    let g = c.args.self.now in
    let size = length-between g.lists.fixes g.first g.last g.in_order g.within in
    let below : c.args.fix - g.first < length (fixes_between g.lists.fixes g.first g.last) = omega (arith, size, c.requires.first, c.requires.last) in
    let read = c.index.ensures ∙ get_or_default g.reaches.items (c.args.fix - g.first) c.index.result.now 0 (omega (arith, below, g.reached.0)) in
    omega (arith, read, size, g.within, g.at_most_90000, reach_within _ g.closing g.reaches.items (c.args.fix - g.first) g.reached below)

pub returns-clause-reach : goal.returns-clause-reach
returns-clause-reach c =
    let g = c.args.self.now in
    let range = fixes_between g.lists.fixes g.first g.last in
    let size = length-between g.lists.fixes g.first g.last g.in_order g.within in
    let below : c.args.fix - g.first < length range = omega (arith, size, c.requires.first, c.requires.last) in
    let read = c.index.ensures ∙ get_or_default g.reaches.items (c.args.fix - g.first) c.index.result.now 0 (omega (arith, below, g.reached.0)) in
    let is : slice_index g.reaches.items (c.args.fix - g.first) ≡ g.first + c.index.result.now - g.first = omega (arith, read) in
    subst (IsReach range g.closing (c.args.fix - g.first)) is (told_reach range g.closing g.reaches.items (c.args.fix - g.first) g.reached below)
