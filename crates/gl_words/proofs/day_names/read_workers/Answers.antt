use Rattle.std.proofs.Common.{◌∙◌, sym}
use Rattle.gl_words.proofs.WorkerCounts.{some_workers}
use Rattle.gl_words.proofs.day_names.read_workers.Goals as goal

pub returns : goal.returns
returns c =
    let some = c.in_ok-count.ensures.some in
    some_workers c.args.word.now c.in_ok-count.count some.0 (sym (c.as_bytes.ensures.value ∙ c.as_str.ensures) ∙ some.1) c.if-count-lt1.false c.if-count-gt-MOST_WORKERS.false
