use Rattle.std.proofs.Common.{◌≡◌, ap, ◌+◌, ◌*◌, ◌≤◌, ◌<◌, arith}
use Rattle.std.proofs.lemmas.Bool.{leb-true}
use Rattle.gl_box.specs.Cell.{ends}
use Rattle.gl_sphere.specs.Distance.{written_distance}
use Rattle.gl_goal.specs.Hull.{box_of}
use Rattle.gl_goal.proofs.Nearest.{far-none, hull_chord, hull_distance, longer-far, lower-found, single-last}
use Rattle.gl_goal.proofs.hulls.Hulls.+last_near_in.Goals as goal

pub returns-then-is_longer : goal.returns-then-is_longer
returns-then-is_longer t c =
    let node = c.args.node in
    let span = c.args.span in
    let box = box_of c.args.from.now in
    let long : (c.args.limit + 1) * (c.args.limit + 1) ≤ c.least_square-square.result = leb-true _ _ (grind arith) in
    let is : c.least_square-square.result ≡ hull_chord c.args.self.now box (ends node) = c.least_square-square.ensures.value in
    let far : c.args.limit < hull_distance c.args.self.now box (ends node) = longer-far _ c.args.limit (omega (arith, long, is)) in
    far-none c.args.self.now box c.args.limit node.lo node.hi span.lo span.hi c.requires far

pub returns-then-dist-limit : goal.returns-then-dist-limit
returns-then-dist-limit t c =
    let node = c.args.node in
    let span = c.args.span in
    let near : written_distance c.least_square-square.result ≤ c.args.limit = omega (arith, c.dist.ensures.value) in
    single-last c.args.self.now (box_of c.args.from.now) c.args.limit node.lo node.hi span.lo span.hi _ c.requires c.if-node.true (omega arith) (omega arith) c.least_square-square.ensures.reached near

pub returns-else-dist-limit : goal.returns-else-dist-limit
returns-else-dist-limit t c =
    let node = c.args.node in
    let span = c.args.span in
    let box = box_of c.args.from.now in
    let is : c.least_square-square.result ≡ hull_chord c.args.self.now box (ends node) = c.least_square-square.ensures.value in
    let far : c.args.limit < hull_distance c.args.self.now box (ends node) = omega (arith, ap written_distance is, c.dist.ensures.value) in
    far-none c.args.self.now box c.args.limit node.lo node.hi span.lo span.hi c.requires far

pub returns-in-None : goal.returns-in-None
returns-in-None t c =
    let node = c.args.node in
    let span = c.args.span in
    lower-found c.args.self.now (box_of c.args.from.now) c.args.limit node.lo _ node.hi span.lo span.hi _ (omega arith) c.in-None.ensures c.last_near_in-in-None.ensures
