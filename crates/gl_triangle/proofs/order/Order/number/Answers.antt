use Rattle.std.proofs.Common.{◌<◌, ◌∙◌, ap, sym, subst, length, arith}
use Rattle.std.proofs.lemmas.List.{get_or_default}
use Rattle.gl_triangle.specs.Code.Node.{fixes_of}
use Rattle.gl_places.specs.ByPlace.{IsByPlace}
use Rattle.gl_places.proofs.Orders.{numbers_long}
use Rattle.gl_triangle.specs.Code.Order.{IsOrder, number_at}
use Rattle.gl_triangle.proofs.Orders.{number_below}
use Rattle.gl_triangle.proofs.order.Order.number.Goals as goal

pub index-requires : goal.index-requires
index-requires c =
    let fixes = fixes_of c.args.goal.now in
    let by_place = c.in-ByPlace.by_place in
    let is : IsByPlace fixes by_place = subst (IsOrder fixes) c.in-ByPlace.is c.requires.order in
    omega (arith, c.requires.place, numbers_long fixes by_place is)

pub returns-in-ByPlace-clause-number : goal.returns-in-ByPlace-clause-number
returns-in-ByPlace-clause-number c =
    let fixes = fixes_of c.args.goal.now in
    let by_place = c.in-ByPlace.by_place in
    let is : IsByPlace fixes by_place = subst (IsOrder fixes) c.in-ByPlace.is c.requires.order in
    c.index.ensures
    ∙ get_or_default by_place.numbers.items c.args.place c.index.result.now 0 (omega (arith, c.requires.place, numbers_long fixes by_place is))
    ∙ ap (λ order. number_at order c.args.place) (sym c.in-ByPlace.is)

pub returns-in-ByPlace-clause-below : goal.returns-in-ByPlace-clause-below
returns-in-ByPlace-clause-below c =
    let fixes = fixes_of c.args.goal.now in
    let below = number_below fixes c.args.self.now c.requires.order c.args.place c.requires.place in
    let same = returns-in-ByPlace-clause-number c in
    subst (λ number. number < length fixes) (sym same) below
