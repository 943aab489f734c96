-- A program that ends as its run ended, or as there was no memory for it, ends with the number of that.
use Rattle.std.proofs.Common.{◌≡◌, sym, subst, ℕ, List, Result, Ok, Err, IfOk, OnErr}
use Rattle.std.specs.Prelude.{MatchResult}
use Rattle.gl_desk.specs.Desk.{Told}
use Rattle.gl_answer.specs.declared.status.Status.{Status}
use Rattle.gl_day_app.specs.declared.program.Ending.{Ending}
use Rattle.gl_day_app.specs.declared.program.Ending.TheVariants.{Ran, NoMemory}
use Rattle.gl_day_app.specs.Endings.{EndsWith, IsEndingOf, Runs, number_of_ending, program_stewards}

pub ended : {E : Type 0} (Owes : Runs) (words : List (List ℕ)) (ran : Result Status E) (ending : Ending) (number : ℕ) (before after : Told)
    → MatchResult ran (λ status. ending ≡ Ran status) (λ _. ending ≡ NoMemory)
    → IfOk ran (λ status. Owes words program_stewards program_stewards status before after) → OnErr ran (after ≡ before)
    → number ≡ number_of_ending ending → EndsWith Owes words number before after
ended Owes words (Ok status) ending number before after is run untouched same =
    (ending, subst (λ e. IsEndingOf Owes words e before after) (sym is) run, same)
ended Owes words (Err error) ending number before after is run untouched same =
    (ending, subst (λ e. IsEndingOf Owes words e before after) (sym is) untouched, same)
