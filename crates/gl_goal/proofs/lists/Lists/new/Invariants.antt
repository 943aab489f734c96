use Rattle.std.proofs.Common.{◌≡◌, ◌++◌, map}
use Rattle.std.specs.Prelude.{All}
use Rattle.std.specs.Vec.Iter.{into_iter_items}
use Rattle.gl_goal.specs.Code.Lists.{IsHulled, lists_of}
use Rattle.gl_goal.proofs.lists.Lists.new.Given as goal

abbrev pub invariant-loop-numbers : goal.invariant-loop-numbers
invariant-loop-numbers l =
    (goal.iterator-loop-numbers).can_next l.numbers-iterator ×
    (goal.iterator-loop-numbers).is_finite l.numbers-iterator ×
    (lists_of l.axes.items ++ map (λ list. list.items) (into_iter_items l.numbers-iterator) ≡ map (λ list. list.items) l.fn.lists.items) ×
    All (IsHulled l.fn.fixes) l.axes.items
