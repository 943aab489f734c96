use Rattle.csv.specs.Records.{fields_of}
use Rattle.gl_series.specs.declared.day.DayRow.{DayRow}
use Rattle.gl_series.specs.Code.AddingRows.{IsNextRow}
use Rattle.gl_series.proofs.Kept.{kept_item}
use Rattle.gl_series.proofs.sheet.add_row.Goals as goal

pub returns-clause-added : goal.returns-clause-added
returns-clause-added c =
    let rows = c.args.rows.now.items in
    let row = c.in-Some.row in
    let next : IsNextRow rows (fields_of c.args.columns.now) row = rw (c.in-Some.is, c.deref.ensures.value) at c.in_ok-row.ensures in
    record {
      row = row;
      next = next;
      added = c.in_ok-push.ensures.items;
      kept = kept_item (λ (row : DayRow). row.number) c.args.numbers.now.seen c.add.new.self.seen rows c.push.new.self.items row c.in_ok-push.ensures.items c.in_ok-add.ensures c.requires.kept;
    }
