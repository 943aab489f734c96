use Rattle.std.proofs.Common.{◌≡◌, ◌∙◌, sym, ap, rules, w32, to_z, of_z, ℤ, Option, Some, Err}
use Rattle.std.proofs.lemmas.Int.{to_z-of_z}
use Rattle.std.specs.Prelude.{slice_get}
use Rattle.gl_igc.specs.Reading.{most_fixes, reading_of_day, reading_of_fixes}
use Rattle.gl_igc.specs.UsedFixes.{used_fixes}
use Rattle.gl_igc.specs.Recording.{reading_of}
use Rattle.gl_igc.proofs.FinishLemmas.{finish-not_igc, finish-igc, finish-no_date, finish-wrong, finish-day, none_from, match_answer}
use Rattle.gl_igc.proofs.finish.finish.Goals as goal

pub returns-then-not-unwrap_or : goal.returns-then-not-unwrap_or
returns-then-not-unwrap_or c = λ lines of.
    finish-not_igc lines c.args.task_day c.args.progress.opening of.opening (sym c.unwrap_or.ensures ∙ c.if-not-unwrap_or.true)

pub returns-in_default : goal.returns-in_default
returns-in_default c = λ lines of.
    let none = none_from _ c.in_default.not-Some in
    finish-igc lines c.args.task_day c.args.progress.opening c.args.progress.date of.opening (sym c.unwrap_or.ensures ∙ c.if-not-unwrap_or.false) of.date
    ∙ ap (λ (date : Option ℤ). reading_of_day date c.args.task_day lines) none ∙ finish-no_date lines c.args.task_day

pub returns-in_default-day_shift : goal.returns-in_default-day_shift
returns-in_default-day_shift c = λ lines of.
    let date : ℤ = to_z w32 (of_z w32 c.in-Some.date) in
    let same : date ≡ c.in-Some.date = to_z-of_z w32 c.in-Some.date (search rules) in
    let dated = finish-igc lines c.args.task_day c.args.progress.opening c.args.progress.date of.opening (sym c.unwrap_or.ensures ∙ c.if-not-unwrap_or.false) of.date
    ∙ ap (λ (date : Option ℤ). reading_of_day date c.args.task_day lines) (c.in-Some.is ∙ ap Some (sym same)) in
    dated ∙ finish-wrong lines date c.args.task_day c.day_shift.result c.day_shift.ensures.value (none_from _ c.in_default-day_shift.not-Some) ∙ ap Err (sym c.wrong_day.ensures)

pub returns : goal.returns
returns c = λ lines of.
    let date : ℤ = to_z w32 (of_z w32 c.in-Some.date) in
    let shift : ℤ = to_z w32 (of_z w32 c.in-Some-day_shift.shift) in
    let same : date ≡ c.in-Some.date = to_z-of_z w32 c.in-Some.date (search rules) in
    let same_shift : shift ≡ c.in-Some-day_shift.shift = to_z-of_z w32 c.in-Some-day_shift.shift (search rules) in
    let dated = finish-igc lines c.args.task_day c.args.progress.opening c.args.progress.date of.opening (sym c.unwrap_or.ensures ∙ c.if-not-unwrap_or.false) of.date
    ∙ ap (λ (date : Option ℤ). reading_of_day date c.args.task_day lines) (c.in-Some.is ∙ ap Some (sym same)) in
    let known = finish-day lines date c.in-Some-day_shift.shift c.args.task_day c.day_shift.result c.day_shift.ensures.value c.in-Some-day_shift.is in
    let moved = ap (λ (s : ℤ). reading_of_fixes (slice_get (used_fixes lines) most_fixes) date s lines) (sym same_shift) in
    match_answer _ _ c.finish_fixes.result reading_of (dated ∙ known ∙ moved) (c.finish_fixes.ensures lines of)
