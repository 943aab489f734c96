-- The laws of `demo`.
use Rattle.std.proofs.Common.{◌≡◌, ap, inl, ℕ, List, Option}
use Rattle.gl_desk.specs.Desk.{FilesByName}
use Rattle.gl_day.specs.Flight.{StewardRules}
use Rattle.gl_answer.specs.declared.status.Status.TheVariants.{Done}
use Rattle.gl_answer.specs.Answer.{Answer}
use Rattle.gl_app.specs.Demo.{IsDemo, demo_promise}
use Rattle.gl_answer.proofs.Promises.{IsLawful, done_no_refusal, reading_lawful}

demo_done : (stewards : List StewardRules) (number : ℕ) (answer : Answer) → IsDemo stewards number answer → answer.status ≡ Done
demo_done stewards number answer (folder, has, day, tested, announced) = ap (λ (a : Answer). a.status) announced.says

pub demo_lawful : (folder : Option FilesByName) (stewards : List StewardRules) (number : ℕ) → IsLawful (demo_promise folder stewards number)
demo_lawful folder stewards number =
    reading_lawful (IsDemo stewards number) (demo_promise folder stewards number).Passes
    (λ answer right. inl (demo_done stewards number answer right))
    (λ passes answer right. done_no_refusal answer.status (inl (demo_done stewards number answer right)))
    (λ answer right unless. absurd (unless (demo_done stewards number answer right)))
