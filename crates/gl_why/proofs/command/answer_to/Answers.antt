use Rattle.std.proofs.Common.{◌≡◌, rules, Some}
use Rattle.std.proofs.lemmas.Result.{IfOk-weaker}
use Rattle.gl_why.specs.Code.Questions.{question_seen}
use Rattle.gl_why.specs.Words.{words_of}
use Rattle.gl_why.proofs.Answered.{answered}
use Rattle.gl_why.proofs.command.answer_to.Goals as goal

pub returns-in-Some-clause-is : goal.returns-in-Some-clause-is
returns-in-Some-clause-is g c =
    let form : words_of c.args.words.now ≡ Some (question_seen c.in-Some.question) = search rules in
    IfOk-weaker c.answer_for.result _ _ (answered _ c.args.words.now (question_seen c.in-Some.question) form) c.answer_for.ensures.is
