use Rattle.std.proofs.Common.{◌∙◌, ap}
use Rattle.gl_sphere.specs.PlaceText.{place_of_text}
use Rattle.gl_task_file.specs.Places.{grid_of_text}
use Rattle.gl_task_file.proofs.PlaceLemmas.{grid_is}
use Rattle.gl_task_file.proofs.value.place_of.Goals as goal

pub returns : goal.returns
unfolding grid_of_text
returns c = grid_is _ _ (c.read_place.ensures ∙ ap place_of_text c.as_bytes.ensures.value)
