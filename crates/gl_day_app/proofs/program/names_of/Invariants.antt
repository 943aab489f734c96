use Rattle.std.proofs.Common.{◌≡◌, ◌++◌, map}
use Rattle.std.specs.String.{string_bytes}
use Rattle.std.specs.Vec.Iter.{into_iter_items}
use Rattle.gl_day_app.proofs.program.names_of.Given as goal

abbrev pub invariant-loop-word : goal.invariant-loop-word
invariant-loop-word l =
    (l.names.items ≡ map string_bytes l.yielded)
    × (l.yielded ++ into_iter_items l.word-iterator ≡ into_iter_items l.initial.word-iterator)
