use Rattle.std.proofs.Common.{subst}
use Rattle.gl_app.specs.Demo.{HasJust}
use Rattle.gl_app.specs.Code.Shelf.{folder_on}
use Rattle.gl_app.proofs.Demos.{just_files}
use Rattle.gl_app.proofs.demo.demo.Goals as goal

pub announce-requires-clause-files : goal.announce-requires-clause-files
announce-requires-clause-files g c =
    let folder = folder_on c.in_ok-shelf.shelf in
    subst (λ files. HasJust files folder) c.in_ok-generated_day.ensures.files (just_files c.in_ok-generated_day.field-0.items folder c.in_ok-shelf.ensures.files)

pub announce-requires-clause-names : goal.announce-requires-clause-names
announce-requires-clause-names g c = λ i. record { task = c.in_ok-task.ensures i; proof = c.in_ok-proof.ensures i }
