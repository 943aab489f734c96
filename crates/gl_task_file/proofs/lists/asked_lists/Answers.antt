use Rattle.std.proofs.Common.{◌∙◌, sym}
use Rattle.gl_task_file.proofs.ListLemmas.{any_map}
use Rattle.toml.specs.View.{view}
use Rattle.gl_task_file.specs.Meaning.{is_free, is_triangle}
use Rattle.gl_task_file.specs.Values.{list_word}
use Rattle.gl_task_file.proofs.lists.asked_lists.Goals as goal

pub returns-clause-free : goal.returns-clause-free
returns-clause-free c = c.any_free.ensures ∙ sym (any_map (λ word. is_free (list_word word)) view c.args.words.now)

pub returns-clause-triangle : goal.returns-clause-triangle
returns-clause-triangle c = c.any_triangle.ensures ∙ sym (any_map (λ word. is_triangle (list_word word)) view c.args.words.now)
