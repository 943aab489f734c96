use Rattle.std.proofs.Common.{◌∙◌, ◌≤◌, rules, sym}
use Rattle.gl_words.proofs.DayNumbers.{some_within}
use Rattle.gl_words.proofs.day_number.read_within.Goals as goal

pub returns-clause-number : goal.returns-clause-number
returns-clause-number c =
    let some = c.in_ok-number.ensures.some in
    let low : c.args.least ≤ c.in_ok-number.number = search rules in
    let high : c.in_ok-number.number ≤ c.args.most = search rules in
    sym (some_within c.args.least c.args.most c.args.word.now c.in_ok-number.number some.0 (sym (c.as_bytes.ensures.value ∙ c.as_str.ensures) ∙ some.1) low high)
