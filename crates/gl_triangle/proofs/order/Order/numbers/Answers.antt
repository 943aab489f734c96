use Rattle.std.proofs.Common.{subst, sym, arith}
use Rattle.gl_triangle.specs.Code.Node.{fixes_of}
use Rattle.gl_places.specs.ByPlace.{IsByPlace}
use Rattle.gl_places.proofs.Orders.{numbers_below, numbers_long}
use Rattle.gl_triangle.specs.Code.Order.{AreNumbers, IsOrder}
use Rattle.gl_triangle.proofs.Rounds.{at_most_90000}
use Rattle.gl_triangle.proofs.order.Order.numbers.Goals as goal

pub numbers_in-requires-clause-within : goal.numbers_in-requires-clause-within
numbers_in-requires-clause-within c =
    let fixes = fixes_of c.args.goal.now in
    let by_place = c.in-ByPlace.by_place in
    let is : IsByPlace fixes by_place = subst (IsOrder fixes) c.in-ByPlace.is c.requires.order in
    omega (arith, c.requires.inside, numbers_long fixes by_place is)

pub numbers_in-requires-clause-most : goal.numbers_in-requires-clause-most
numbers_in-requires-clause-most c =
    let g = c.args.goal.now in
    let by_place = c.in-ByPlace.by_place in
    let is : IsByPlace (fixes_of g) by_place = subst (IsOrder (fixes_of g)) c.in-ByPlace.is c.requires.order in
    omega (arith, numbers_long (fixes_of g) by_place is, at_most_90000 g)

pub returns-in-ByPlace-clause-numbers : goal.returns-in-ByPlace-clause-numbers
returns-in-ByPlace-clause-numbers c =
    subst (λ order. AreNumbers order c.args.span c.numbers_in.result) (sym c.in-ByPlace.is) c.numbers_in.ensures.between

pub returns-in-ByPlace-clause-inside : goal.returns-in-ByPlace-clause-inside
returns-in-ByPlace-clause-inside c =
    let fixes = fixes_of c.args.goal.now in
    let by_place = c.in-ByPlace.by_place in
    let is : IsByPlace fixes by_place = subst (IsOrder fixes) c.in-ByPlace.is c.requires.order in
    c.numbers_in.ensures.below _ (numbers_below fixes by_place is)
