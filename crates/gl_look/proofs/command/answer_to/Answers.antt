use Rattle.std.proofs.Common.{◌≡◌, rules, Some}
use Rattle.std.proofs.lemmas.Result.{IfOk-weaker}
use Rattle.gl_look.specs.Words.{words_of}
use Rattle.gl_look.proofs.Answered.{answered}
use Rattle.gl_look.proofs.command.answer_to.Goals as goal

pub returns-in-Some-clause-is : goal.returns-in-Some-clause-is
returns-in-Some-clause-is g c =
    let form : words_of c.args.words.now ≡ Some c.in-Some.file.now = search rules in
    IfOk-weaker c.answer_for.result _ _ (answered _ c.args.words.now c.in-Some.file.now form) c.answer_for.ensures.is
