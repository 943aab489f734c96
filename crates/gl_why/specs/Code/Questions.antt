-- A question as contracts see it.
use Rattle.gl_why.specs.Words as words
use Rattle.gl_why.specs.declared.question.Question as code
use Rattle.gl_why.specs.declared.question.Question.TheVariants as question

abbrev pub question_seen : code.Question → words.Question
question_seen (question.All file) = words.All file.now
question_seen (question.One file number) = words.One file.now number.now
question_seen (question.Fixes file numbers) = words.Fixes file.now numbers.now
