use Rattle.std.proofs.Common.{◌≡◌, ◌∷◌, map}
use Rattle.std.specs.List.{range_with_len}
use Rattle.gl_demo.specs.Draws.{after}
use Rattle.gl_demo.specs.Recording.{draws_before}
use Rattle.gl_demo.specs.Day.{entrant_file, named}
use Rattle.gl_demo.specs.Task.{task_file_name, task_text}
use Rattle.gl_demo.proofs.day.generated_day.Given as goal

abbrev pub invariant-loop-entrant : goal.invariant-loop-entrant
invariant-loop-entrant l =
    (named l.files.items
    ≡ (task_file_name, task_text) ∷ map (entrant_file l.number) (range_with_len 0 l.entrant))
    × (l.draws.value ≡ after (draws_before l.entrant) l.number)
