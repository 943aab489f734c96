use Rattle.std.proofs.Common.{◌≡◌, refl, ap, inl, inr, ℕ, List, Result, Ok, Err, Vec, Global}
use Rattle.std.specs.Prelude.{◌⊎◌, IfErr, IfOk, IsErrOf}
use Rattle.std.proofs.lemmas.Result.{MatchResult-from_both, IfErr-weaker, IfOk-weaker}
use Rattle.gl_replay.specs.declared.error.StepError.{StepError}
use Rattle.gl_replay.specs.declared.error.StepError.TheVariants.{Line, TooMany, Memory}
use Rattle.gl_replay.specs.declared.schedule.Step.{Step}
use Rattle.gl_replay.specs.Schedule.{IsRefused, IsSchedule}
use Rattle.gl_replay.proofs.StepLines.{refused_unique, schedule_refused, schedule_told, schedule_unique}
use Rattle.gl_replay.proofs.schedule.read_steps.Goals as goal

pub returns-clause-only : goal.returns-clause-only
returns-clause-only c = λ steps of.
    MatchResult-from_both c.steps_in.result _ _
    (IfOk-weaker c.steps_in.result _ _ (λ read is. schedule_unique c.args.text.now read.items steps is of) c.steps_in.ensures.ok)
    (IfErr-weaker c.steps_in.result _ _ (λ error is. schedule_told c.args.text.now steps error of is) c.steps_in.ensures.refused)

told : (text : List ℕ) (error other : StepError) → (error ≡ Memory → ⊥) → (other ≡ Memory → ⊥) → IsRefused text error → IsRefused text other
    → IsErrOf {T = Vec Step Global} (Err error) other ⊎ IsErrOf {T = Vec Step Global} (Err error) Memory
told text error other some_error some_other is_error is_other =
    inl (ap Err (refused_unique text error other some_error some_other is_error is_other))

exactly : (text : List ℕ) (answer : Result (Vec Step Global) StepError) (error : StepError) → IfOk answer (λ steps. IsSchedule text steps.items) → IfErr answer (IsRefused text) → (error ≡ Memory → ⊥)
    → IsRefused text error → IsErrOf answer error ⊎ IsErrOf answer Memory
exactly text (Ok steps) error ok refused some is = absurd (schedule_refused text steps.items error some ok is)
exactly text (Err (Line number)) error ok refused some is = told text (Line number) error (λ same. cc) some refused is
exactly text (Err TooMany) error ok refused some is = told text TooMany error (λ same. cc) some refused is
exactly text (Err Memory) error ok refused some is = inr refl

pub returns-clause-exact : goal.returns-clause-exact
returns-clause-exact c = λ error some is. exactly c.args.text.now c.steps_in.result error c.steps_in.ensures.ok c.steps_in.ensures.refused some is
