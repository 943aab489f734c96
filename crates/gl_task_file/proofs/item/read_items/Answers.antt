use Rattle.std.proofs.Common.{◌≡◌, zero, length, arith}
use Rattle.std.proofs.lemmas.Grind.{common_steps}
use Rattle.std.proofs.lemmas.Result.{err_from_is_err_and}
use Rattle.gl_task_file.proofs.EachLemmas.{failed_here, gathered_end, next_gathered, next_tests}
use Rattle.gl_task_file.proofs.item.read_items.Goals as goal

pub returns-clause-ok : goal.returns-clause-ok
returns-clause-ok g c =
    let none : length c.items.rest.now ≡ zero = grind (arith, common_steps) in
    gathered_end (g.R.ReadItem.says c.args.reader.now) _ c.items.rest.now _ c.items.invariant.gathered none

pub items-preserved : goal.items-preserved
items-preserved g c =
    let cut = c.in-Some.ensures.cases.0 in
    record {
      tests = next_tests (g.R.ReadItem.tests c.args.reader.now) _ _ _ _ _ cut c.items.invariant.tests c.in_ok-read_item.ensures.passes;
      gathered = next_gathered (g.R.ReadItem.says c.args.reader.now) _ _ _ _ _ _ _ cut c.items.invariant.gathered c.in_ok-read_item.ensures.ok c.in_ok-push.ensures.items;
      counted = grind (arith, common_steps);
      number = grind (arith, common_steps);
    }

pub returns-in_err-read_item-clause-refused : goal.returns-in_err-read_item-clause-refused
returns-in_err-read_item-clause-refused g c =
    let cut = c.in-Some.ensures.cases.0 in
    let wrong = c.in_err-read_item.field-0.0 in
    let told = err_from_is_err_and c.from_residual.result c.from_residual.ensures.1 in
    rw (told.1, told.2) (λ some. failed_here (g.R.ReadItem.tests c.args.reader.now) _ _ _ _ _ wrong cut c.items.invariant.tests (c.in_err-read_item.ensures.refused some))
