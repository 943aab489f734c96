-- What an attempt to steal answers.
use Rattle.gl_box.specs.declared.cell.Cell.{Cell}
use Rattle.gl_deal.specs.declared.pass.Steal.{Steal}
use Rattle.gl_deal.specs.declared.pass.Steal.TheVariants.{Got, Empty, Retry}

-- a fact for each answer
abbrev pub MatchSteal : Steal → (Cell → Type 0) → Type 0 → Type 0 → Type 0
MatchSteal (Got cell) got empty retry = got cell
MatchSteal Empty got empty retry = empty
MatchSteal Retry got empty retry = retry
