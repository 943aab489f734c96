use Rattle.std.proofs.Common.{◌≡◌, ◌<◌, Some, length, get_or, take, sym, ◌∙◌, refl, ap, subst, arith, rules}
use Rattle.std.specs.Fmt.{decimal}
use Rattle.std.specs.Str.Parse.{AllDigits, digits_value}
use Rattle.std.proofs.lemmas.Bool.{false≢true}
use Rattle.std.proofs.lemmas.Fmt.{decimal_injective}
use Rattle.std.proofs.lemmas.List.{take_all}
use borrow.Author.Tests.{ltb-true, eqb-true, true-eqb, false-eqb, eq-eqb}
use Rattle.gl_text.proofs.NumberLemmas.{IsNoNumber, empty_is_no_number, leading_zero_is_no_number, stop_is_no_number, decimal_read, plain_is_number, read_more}
use Rattle.gl_text.specs.Numbers.{IsPlainNumber}
use Rattle.gl_text.proofs.numbers.read_u64.Goals as goal
use Rattle.gl_text.proofs.numbers.read_u64.Goals.{then-text-gt1, else-text-gt1, then-is_empty-via-then-is_empty, then-is_empty-via-else-is_empty+then-has_leading_zero}

begins_wrong : (c : goal.Joined-then-is_empty) → IsNoNumber c.args.text.now
begins_wrong c =
    elim c.then-is_empty.branch [
      | then-is_empty-via-then-is_empty w ↦ empty_is_no_number c.args.text.now (true-eqb _ _ w.if-is_empty.ensures)
      | then-is_empty-via-else-is_empty+then-has_leading_zero w ↦
          elim c.if-text-gt1.branch [
            | then-text-gt1 v ↦
                leading_zero_is_no_number c.args.text.now v.if-text-gt1.true (eqb-true _ _ (sym v.has_leading_zero-is ∙ w.if-has_leading_zero.true))
            | else-text-gt1 v ↦
                let long = ltb-true _ _ (sym v.has_leading_zero-is ∙ w.if-has_leading_zero.true) in
                absurd (omega arith)
          ]
    ]

pub returns-then-is_empty-clause-form : goal.returns-then-is_empty-clause-form
returns-then-is_empty-clause-form c = (search rules, λ plain. absurd (plain_is_number c.args.text.now (begins_wrong c) plain))

pub returns-then-is_empty-clause-none : goal.returns-then-is_empty-clause-none
returns-then-is_empty-clause-none c = (λ _. begins_wrong c, λ _. refl)

pub returns-then-is_empty-clause-only : goal.returns-then-is_empty-clause-only
returns-then-is_empty-clause-only c = λ n small e. absurd (begins_wrong c n small e)

stops : (c : goal.After-from_residual) → IsNoNumber c.args.text.now
stops c =
    let l = c.loop-digit in
    stop_is_no_number c.args.text.now l.digit-index l.number c.loop-digit-test.true l.invariant.digits l.invariant.value c.in_err-number.ensures

pub returns-in_err-number-clause-form : goal.returns-in_err-number-clause-form
returns-in_err-number-clause-form c = (search rules, λ plain. absurd (plain_is_number c.args.text.now (stops c) plain))

pub returns-in_err-number-clause-none : goal.returns-in_err-number-clause-none
returns-in_err-number-clause-none c = (λ _. stops c, λ _. search rules)

pub returns-in_err-number-clause-only : goal.returns-in_err-number-clause-only
returns-in_err-number-clause-only c = λ n small e. absurd (stops c n small e)

pub loop-digit-preserved : goal.loop-digit-preserved
loop-digit-preserved c =
    let l = c.loop-digit in
    let step = c.in_ok-number.ensures in
    let more = read_more c.args.text.now l.digit-index l.number c.loop-digit-test.true step.0.0 l.invariant.digits l.invariant.value in
    record { digits = more.0; value = step.1 ∙ more.1; fits = omega arith }

reads : (c : goal.After-loop-digit) → IsPlainNumber c.args.text.now × (c.loop-digit.number ≡ digits_value 10 c.args.text.now)
reads c =
    let text = c.args.text.now in
    let l = c.loop-digit in
    let whole : take l.digit-index text ≡ text = take_all l.digit-index text (omega arith) in
    let some : 0 < length text = omega (arith, false-eqb _ _ c.if-is_empty.ensures) in
    let lone : get_or text 0 0 ≡ 48 → length text ≡ 1 = λ zero.
    elim c.if-text-gt1.branch [
      | then-text-gt1 v ↦ absurd (false≢true (sym c.if-has_leading_zero.false ∙ v.has_leading_zero-is ∙ eq-eqb _ _ zero))
      | else-text-gt1 v ↦ omega arith
    ] in
    let plain : IsPlainNumber text =
    record { digits = subst (AllDigits 10) whole l.invariant.digits; some = some; lone = lone } in
    (plain, l.invariant.value ∙ ap (digits_value 10) whole)

spells : (c : goal.After-loop-digit) → c.args.text.now ≡ decimal c.loop-digit.number
spells c =
    let (plain, value) = reads c in
    rw value (decimal_read c.args.text.now plain.digits plain.some plain.lone (omega arith))

pub returns-clause-form : goal.returns-clause-form
returns-clause-form c = (λ _. ((reads c).0, let value = (reads c).1 in omega arith), λ _. refl)

pub returns-clause-some : goal.returns-clause-some
returns-clause-some c = (omega arith, spells c)

pub returns-clause-none : goal.returns-clause-none
returns-clause-none c =
    (λ e. absurd (false≢true (sym e)), λ none. absurd (none c.loop-digit.number (omega arith) (spells c)))

pub returns-clause-only : goal.returns-clause-only
returns-clause-only c = λ n small e.
    ap Some (decimal_injective c.loop-digit.number n (omega arith) small (sym (spells c) ∙ e))
