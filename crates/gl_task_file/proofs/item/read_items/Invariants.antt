use Rattle.std.proofs.Common.{◌≡◌, ◌+◌, length, map, vec_len}
use Rattle.toml.specs.View.{view}
use Rattle.gl_task_file.specs.Keys.{each_item, first_failed}
use Rattle.gl_task_file.proofs.EachLemmas.{Gathered}
use Rattle.gl_task_file.proofs.item.read_items.Given as goal

-- those that were read pass, and the rest decide
abbrev pub invariant-items : goal.invariant-items
invariant-items g l = record {
  tests :
      first_failed (each_item (g.R.ReadItem.tests l.reader) 1 (map view l.values))
      ≡ first_failed (each_item (g.R.ReadItem.tests l.reader) (l.n + 1) (map view l.rest));
  gathered : Gathered (g.R.ReadItem.says l.reader) (map view l.values) (map view l.rest) l.items.items;
  counted : vec_len l.items + length l.rest ≡ length l.values;
  number : l.n + length l.rest ≡ length l.values;
}

abbrev pub decreases-items : goal.decreases-items
decreases-items g l = length l.rest
