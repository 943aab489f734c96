use Rattle.std.proofs.Common.{subst, ℕ, List, ◌∷◌}
use Rattle.std.specs.Prelude.{◌↔◌}
use Rattle.gl_box.specs.Cell.{spans_of}
use Rattle.gl_box.specs.Walk.{AreFrontiers}
use Rattle.gl_box.specs.Way.{open_of}
use Rattle.gl_box.proofs.way.OpenCells.take.Goals as goal

pub returns-clause-there : goal.returns-clause-there
returns-clause-there c = λ is_there more.
    subst (λ (o : List (List (ℕ × ℕ))). AreFrontiers (open_of c.args.self.now) (spans_of c.args.cell.now ∷ more) ↔ AreFrontiers o more) c.in_ok-self.ensures.same
    (c.in_ok-go_down.ensures.there c.if-not-branch.false more)
