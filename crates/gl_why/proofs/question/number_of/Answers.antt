use Rattle.std.proofs.Common.{◌∙◌, ◌≤◌, rules, sym}
use Rattle.gl_why.proofs.Numerals.{some_number}
use Rattle.gl_why.proofs.question.number_of.Goals as goal

pub returns : goal.returns
returns c =
    let some = c.in_ok-number.ensures.some in
    let high : c.in_ok-number.number ≤ 999_999 = search rules in
    sym (some_number c.args.word.now c.in_ok-number.number some.0 (sym (c.as_bytes.ensures.value ∙ c.as_str.ensures) ∙ some.1) high)
