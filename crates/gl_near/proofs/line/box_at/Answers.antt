use Rattle.std.proofs.Common.{◌∙◌, sym, refl, [], ◌∷◌, ◌++◌}
use Rattle.std.proofs.lemmas.List.{append_cancel_left}
use Rattle.gl_box.specs.Cell.{ends}
use Rattle.gl_proof.specs.Words.{span_word}
use Rattle.gl_near.proofs.Lines.{box_parts, reason_passed, span_passed}
use Rattle.gl_near.proofs.line.box_at.Goals as goal

pub returns-in_err-why : goal.returns-in_err-why
returns-in_err-why c = rw c.from_residual.ensures (λ box more at.
    let parts = box_parts c.args.text.now box more at in
    c.in_err-why.ensures box.1 (span_word parts.first ++ 32 ∷ (span_word parts.second ++ 10 ∷ more)) parts.is)

pub returns-in_err-first : goal.returns-in_err-first
returns-in_err-first c = rw c.from_residual-in_err-first.ensures (λ box more at.
    let parts = box_parts c.args.text.now box more at in
    let after = reason_passed c.args.text.now c.in_ok-why.rest.now c.in_ok-why.why box more c.in_ok-why.ensures parts in
    c.in_err-first.ensures parts.first (32 ∷ (span_word parts.second ++ 10 ∷ more)) (record { is_span = parts.is_first; is = after; stops = refl }))

pub returns-in_err-behind : goal.returns-in_err-behind
returns-in_err-behind c = rw c.from_residual-in_err-behind.ensures (λ box more at.
    let parts = box_parts c.args.text.now box more at in
    let after = reason_passed c.args.text.now c.in_ok-why.rest.now c.in_ok-why.why box more c.in_ok-why.ensures parts in
    c.in_err-behind.ensures (span_word parts.second ++ 10 ∷ more) (span_passed c.in_ok-why.rest.now c.in_ok-first.rest.now (32 ∷ (span_word parts.second ++ 10 ∷ more))
    (ends c.in_ok-first.first) parts.first c.in_ok-first.ensures parts.is_first refl after))

pub returns-in_err-second : goal.returns-in_err-second
returns-in_err-second c = rw c.from_residual-in_err-second.ensures (λ box more at.
    let parts = box_parts c.args.text.now box more at in
    let after = reason_passed c.args.text.now c.in_ok-why.rest.now c.in_ok-why.why box more c.in_ok-why.ensures parts in
    let rest = span_passed c.in_ok-why.rest.now c.in_ok-first.rest.now (32 ∷ (span_word parts.second ++ 10 ∷ more))
    (ends c.in_ok-first.first) parts.first c.in_ok-first.ensures parts.is_first refl after in
    let tail = append_cancel_left (32 ∷ []) _ _ (sym c.in_ok-behind.ensures ∙ rest) in
    c.in_err-second.ensures parts.second (10 ∷ more) (record { is_span = parts.is_second; is = tail; stops = refl }))

pub returns-in_err-rest : goal.returns-in_err-rest
returns-in_err-rest c = rw c.from_residual-in_err-rest.ensures (λ box more at.
    let parts = box_parts c.args.text.now box more at in
    let after = reason_passed c.args.text.now c.in_ok-why.rest.now c.in_ok-why.why box more c.in_ok-why.ensures parts in
    let rest = span_passed c.in_ok-why.rest.now c.in_ok-first.rest.now (32 ∷ (span_word parts.second ++ 10 ∷ more))
    (ends c.in_ok-first.first) parts.first c.in_ok-first.ensures parts.is_first refl after in
    let tail = append_cancel_left (32 ∷ []) _ _ (sym c.in_ok-behind.ensures ∙ rest) in
    c.in_err-rest.ensures more (span_passed c.in_ok-behind.field-0.now c.in_ok-second.rest.now (10 ∷ more) (ends c.in_ok-second.second) parts.second c.in_ok-second.ensures parts.is_second refl tail))
