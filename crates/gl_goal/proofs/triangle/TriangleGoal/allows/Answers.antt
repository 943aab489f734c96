use Rattle.std.proofs.Common.{◌≡◌, ◌∙◌, ap, sym, ◌-◌, true, false, arith}
use Rattle.std.specs.Prelude.{◌&&◌, slice_index}
use Rattle.gl_box.specs.Tuple.{places_of}
use Rattle.gl_sphere.specs.Distance.{distance}
use Rattle.gl_goal.specs.Chain.{fixes_at, points_of}
use Rattle.gl_goal.specs.Fair.{is_fair}
use Rattle.gl_goal.specs.Goal.{chosen}
use Rattle.gl_goal.specs.Free.{fixes_between}
use Rattle.gl_goal.specs.Triangle.{around, closes, triangle_goal}
use Rattle.gl_goal.proofs.Triangles.{place-in, place-is}
use Rattle.gl_goal.proofs.triangle.TriangleGoal.allows.Goals as goal

pub closes-requires : goal.closes-requires
closes-requires c = place-in c.args.self.now c.args.tuple.now 0 c.requires (omega arith)

pub returns-then-are_fair : goal.returns-then-are_fair
unfolding triangle_goal
returns-then-are_fair c =
    let g = c.args.self.now in
    let t = c.args.tuple.now in
    let numbers = chosen g.lists.lists (places_of t) in
    let range = fixes_between g.lists.fixes g.first g.last in
    let a = place-is g t 0 c.requires (omega arith) in
    let third = place-is g t 2 c.requires (omega arith) in
    let fair : is_fair (around distance (points_of (fixes_at g.lists.fixes numbers))) ≡ true = ap is_fair (sym c.round.ensures) ∙ sym c.are_fair.ensures ∙ c.if-are_fair.true in
    c.closes.ensures ∙ (λ i. closes range g.closing (a i) (third i)) ∙ ap (λ b. b && closes range g.closing (slice_index numbers 0 - g.first) (slice_index numbers 2 - g.first)) (sym fair)

pub returns-else-are_fair : goal.returns-else-are_fair
unfolding triangle_goal
returns-else-are_fair c =
    let g = c.args.self.now in
    let numbers = chosen g.lists.lists (places_of c.args.tuple.now) in
    let past : is_fair (around distance (points_of (fixes_at g.lists.fixes numbers))) ≡ false = ap is_fair (sym c.round.ensures) ∙ sym c.are_fair.ensures ∙ c.if-are_fair.false in
    c.if-are_fair.false ∙ ap (λ b. b && closes (fixes_between g.lists.fixes g.first g.last) g.closing (slice_index numbers 0 - g.first) (slice_index numbers 2 - g.first)) (sym past)
