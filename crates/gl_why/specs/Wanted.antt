-- Who is asked for.
use Rattle.std.specs.Prelude.{ℕ, Bool, true, List, Option, None, Some}
use Rattle.gl_task.specs.declared.task.Entrant.{Entrant}
use Rattle.gl_text.specs.Forms.{is_text}

-- an entrant is asked for: each is, or the one with a number
abbrev pub is_wanted : Option (List ℕ) → Entrant → Bool
is_wanted None entrant = true
is_wanted (Some number) entrant = is_text entrant.number number
