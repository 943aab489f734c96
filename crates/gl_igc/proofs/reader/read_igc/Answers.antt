use Rattle.std.proofs.Common.{◌∙◌, subst, Option, ℤ, []}
use Rattle.gl_text.specs.Lines.{lines_of}
use Rattle.gl_igc.specs.Recording.{IsReadAs}
use Rattle.gl_igc.proofs.LawLemmas.{left_out}
use Rattle.gl_igc.proofs.ReaderLemmas.{read_ok, read_refused}
use Rattle.gl_igc.proofs.reader.read_igc.Goals as goal

pub returns-clause-ok : goal.returns-clause-ok
returns-clause-ok c =
    let text = c.args.text.now in
    let stands = c.in_ok-feed.ensures.text [] c.new-reader.ensures.text in
    read_ok text c.args.task_day c.finish.result (subst (λ (day : Option ℤ). IsReadAs text day c.finish.result) (c.feed.ensures.task_day
    ∙ c.new-reader.ensures.task_day) (c.finish.ensures.answer text stands))

pub returns-clause-refused : goal.returns-clause-refused
returns-clause-refused c =
    let text = c.args.text.now in
    let stands = c.in_ok-feed.ensures.text [] c.new-reader.ensures.text in
    read_refused text c.args.task_day c.finish.result (subst (λ (day : Option ℤ). IsReadAs text day c.finish.result) (c.feed.ensures.task_day
    ∙ c.new-reader.ensures.task_day) (c.finish.ensures.answer text stands))

pub returns-clause-seen : goal.returns-clause-seen
returns-clause-seen c =
    c.finish.ensures.seen c.args.text.now (c.in_ok-feed.ensures.text [] c.new-reader.ensures.text)

pub returns-clause-left_out : goal.returns-clause-left_out
returns-clause-left_out c = left_out (lines_of c.args.text.now) c.args.task_day

pub returns-in_err-feed-clause-left_out : goal.returns-in_err-feed-clause-left_out
returns-in_err-feed-clause-left_out c = left_out (lines_of c.args.text.now) c.args.task_day
