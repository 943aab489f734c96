use Rattle.std.proofs.Common.{◌≡◌, Some}
use Rattle.toml.specs.Data.{as_array}
use Rattle.toml.specs.View.{view, items_view}
use Rattle.gl_task_file.proofs.ListLemmas.{values_of-items_of}
use Rattle.gl_look.proofs.table.list.Goals as goal

pub returns-in-Some : goal.returns-in-Some
returns-in-Some c =
    let seen : Some (items_view c.in-Some.values.now.items) ≡ as_array (view c.args.value.now) = rw c.in-Some.is at c.as_array.ensures in
    rw (c.as_slice.ensures.value, ← seen, values_of-items_of)
