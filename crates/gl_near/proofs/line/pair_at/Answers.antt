use Rattle.std.proofs.Common.{◌∙◌, sym, refl, [], ◌∷◌, ◌++◌}
use Rattle.std.specs.Fmt.{decimal}
use Rattle.std.proofs.lemmas.List.{append_cancel_left}
use Rattle.gl_near.proofs.Lines.{number_passed, pair_tail}
use Rattle.gl_near.proofs.line.pair_at.Goals as goal

pub returns-in_err-first : goal.returns-in_err-first
returns-in_err-first c = rw c.from_residual-in_err-first.ensures (λ pair more at.
    let after = pair_tail c.args.text.now c.in_ok-behind.field-0.now pair more c.in_ok-behind.ensures at in
    c.in_err-first.ensures pair.0 (32 ∷ (decimal pair.1 ++ 10 ∷ more)) (record { below = at.0.0; is = after; stops = refl }))

pub returns-in_err-behind-2 : goal.returns-in_err-behind-2
returns-in_err-behind-2 c = rw c.from_residual-in_err-behind-2.ensures (λ pair more at.
    let after = pair_tail c.args.text.now c.in_ok-behind.field-0.now pair more c.in_ok-behind.ensures at in
    let rest = number_passed c.in_ok-behind.field-0.now c.in_ok-first.rest.now (32 ∷ (decimal pair.1 ++ 10 ∷ more)) c.in_ok-first.first pair.0 c.in_ok-first.ensures at.0.0 refl after in
    c.in_err-behind-2.ensures (decimal pair.1 ++ 10 ∷ more) rest)

pub returns-in_err-second : goal.returns-in_err-second
returns-in_err-second c = rw c.from_residual-in_err-second.ensures (λ pair more at.
    let after = pair_tail c.args.text.now c.in_ok-behind.field-0.now pair more c.in_ok-behind.ensures at in
    let rest = number_passed c.in_ok-behind.field-0.now c.in_ok-first.rest.now (32 ∷ (decimal pair.1 ++ 10 ∷ more)) c.in_ok-first.first pair.0 c.in_ok-first.ensures at.0.0 refl after in
    let tail = append_cancel_left (32 ∷ []) _ _ (sym c.in_ok-behind-2.ensures ∙ rest) in
    c.in_err-second.ensures pair.1 (10 ∷ more) (record { below = at.0.1; is = tail; stops = refl }))

pub returns-in_err-rest : goal.returns-in_err-rest
returns-in_err-rest c = rw c.from_residual-in_err-rest.ensures (λ pair more at.
    let after = pair_tail c.args.text.now c.in_ok-behind.field-0.now pair more c.in_ok-behind.ensures at in
    let rest = number_passed c.in_ok-behind.field-0.now c.in_ok-first.rest.now (32 ∷ (decimal pair.1 ++ 10 ∷ more)) c.in_ok-first.first pair.0 c.in_ok-first.ensures at.0.0 refl after in
    let tail = append_cancel_left (32 ∷ []) _ _ (sym c.in_ok-behind-2.ensures ∙ rest) in
    c.in_err-rest.ensures more (number_passed c.in_ok-behind-2.field-0.now c.in_ok-second.rest.now (10 ∷ more) c.in_ok-second.second pair.1 c.in_ok-second.ensures at.0.1 refl tail))
