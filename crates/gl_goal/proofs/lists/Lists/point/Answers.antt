use Rattle.std.proofs.Common.{ap, ◌∙◌, get_or}
use Rattle.gl_goal.specs.Code.Lists.{Listed}
use Rattle.gl_goal.proofs.Listed.{listed-lists, place-within, point-at}
use Rattle.gl_goal.proofs.lists.Lists.point.Goals as goal

pub number-requires-clause-place_in : goal.number-requires-clause-place_in
number-requires-clause-place_in c =
    place-within c.args.self.now.lists c.args.tuple.now c.args.axis c.requires.tuple c.requires.axis_in

pub returns : goal.returns
returns c =
    let named = (listed-lists _ _ c.args.self.now c.self.view_is c.self.invariant).named in
    let found = c.index.ensures ∙ ap (λ (l : Listed). get_or l.fixes c.number.result c.index.result.now) c.self.view_is in
    point-at c.args.self.now.fixes c.args.self.now.lists c.args.tuple.now c.args.axis c.number.result c.index.result.now named c.requires.tuple c.requires.axis_in c.number.ensures.value
    c.number.ensures.named found
