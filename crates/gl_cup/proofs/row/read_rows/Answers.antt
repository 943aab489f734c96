use Rattle.std.proofs.Common.{◌∙◌, sym, ap, ◌+◌, ℕ, List, ◌++◌, append-nil}
use Rattle.gl_cup.specs.Row.{rows_from, rows_of}
use Rattle.gl_cup.proofs.row.read_rows.Goals as goal

pub returns : goal.returns
unfolding rows_of
returns c =
    sym (c.lines.invariant.rows ∙ ap (λ (lines : List (List ℕ)). c.lines.rows.items ++ rows_from (c.lines.number + 1) lines) c.in_default.ensures.over ∙ append-nil _)
