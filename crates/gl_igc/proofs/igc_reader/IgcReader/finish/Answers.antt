use Rattle.std.proofs.Common.{◌++◌}
use Rattle.gl_text.specs.Lines.{lines_of}
use Rattle.gl_igc.proofs.PieceLemmas.{all_lines}
use Rattle.gl_igc.proofs.ReaderLemmas.{answer_seen, read_as}
use Rattle.gl_igc.proofs.igc_reader.IgcReader.finish.Goals as goal

pub returns-clause-answer : goal.returns-clause-answer
returns-clause-answer c = λ text stands.
    let reader = c.args.self in
    let lines = stands.lines ++ lines_of reader.rest.items in
    read_as text reader.task_day lines c.finish.result (all_lines text reader stands) (c.finish.ensures lines (rw c.deref.ensures.value at c.in_ok-take_rest.ensures stands.lines stands.read))

pub returns-clause-seen : goal.returns-clause-seen
returns-clause-seen c = λ text stands.
    let reader = c.args.self in
    let lines = stands.lines ++ lines_of reader.rest.items in
    answer_seen text reader.task_day lines c.finish.result (all_lines text reader stands) (c.finish.ensures lines (rw c.deref.ensures.value at c.in_ok-take_rest.ensures stands.lines stands.read))
