use Rattle.std.proofs.Common.{List, refl, subst}
use Rattle.gl_cup.specs.declared.point.CupPoint.{CupPoint}
use Rattle.gl_draft.specs.Made.{shapeless}
use Rattle.gl_draft.specs.Taken.{IsShapeless}
use Rattle.gl_draft.proofs.command.draft_of.Goals as goal

pub returns-in-Err-clause-refused : goal.returns-in-Err-clause-refused
returns-in-Err-clause-refused c =
    let first : IsShapeless c.as_slice.result.now c.in-Err.shape.line c.in-Err.shape.number = rw c.in-Err.is at c.in_ok-course.ensures in
    shapeless c.in-Err.shape.line c.in-Err.shape.number c.requires.some (subst (λ (all : List CupPoint). IsShapeless all c.in-Err.shape.line c.in-Err.shape.number) c.as_slice.ensures first) refl
