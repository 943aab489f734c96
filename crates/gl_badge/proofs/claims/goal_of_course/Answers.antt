use Rattle.std.proofs.Common.{◌≡◌, ◌∙◌, ap, sym, subst, ℕ, ◌-◌, List, length, map, get_or, Vec, Global, rules}
use Rattle.gl_igc.specs.declared.fix.Fix.{Fix}
use Rattle.gl_goal.specs.Area.{area_goal}
use Rattle.gl_goal.specs.Lists.{AreLists}
use Rattle.gl_badge.specs.Course.{IsCourse}
use Rattle.gl_badge.specs.declared.shown.Course.TheVariants.{Lists}
use Rattle.gl_badge.proofs.Courses.{course-lists, goals-through}
use Rattle.gl_badge.proofs.claims.goal_of_course.Goals as goal

pub new-requires-clause-lists : goal.new-requires-clause-lists
new-requires-clause-lists c =
    let rec = c.args.rec.now in
    let lists = map (λ (list : Vec ℕ Global). list.items) c.in-Lists.lists.items in
    let is = subst (IsCourse rec) c.in-Lists.is c.in_ok-lists.ensures in
    subst (λ (fixes : List Fix). AreLists fixes lists) (sym c.as_slice.ensures) (course-lists rec.fixes rec.declared c.in-Lists.lists c.in-Lists.points is).0

pub returns : goal.returns
returns c =
    let rec = c.args.rec.now in
    let points = c.in-Lists.points in
    let lists = map (λ (list : Vec ℕ Global). list.items) c.in-Lists.lists.items in
    let is = subst (IsCourse rec) c.in-Lists.is c.in_ok-lists.ensures in
    let some = (course-lists rec.fixes rec.declared c.in-Lists.lists points is).1 in
    let first : c.index-start.result.now ≡ get_or points.items 0 c.index-start.result.now = search rules in
    let last : c.index-finish.result.now ≡ get_or points.items (length points.items - 1) c.index-finish.result.now = search rules in
    let rule = c.in_ok-goal.ensures.rule ∙ ap (λ (fixes : List Fix). area_goal fixes lists c.index-start.result.now c.index-finish.result.now 0) c.as_slice.ensures in
    (Lists c.in-Lists.lists points, is, goals-through rec.fixes lists points.items _ _ _ some first last rule)
