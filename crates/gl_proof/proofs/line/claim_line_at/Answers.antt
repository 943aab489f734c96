use Rattle.std.proofs.Common.{◌∙◌, sym, ◌∷◌, ◌++◌}
use Rattle.gl_proof.specs.Words.{total_word}
use Rattle.gl_proof.specs.Line.{kind_word}
use Rattle.gl_proof.proofs.Words.{total_there}
use Rattle.gl_proof.proofs.Lines.{claim_tail, entrant_unique, kind_unique}
use Rattle.gl_proof.proofs.line.claim_line_at.Goals as goal

pub returns-in_err-kind : goal.returns-in_err-kind
returns-in_err-kind c = rw c.from_residual-in_err-kind.ensures (λ said more at.
    let rest = kind_word said.1 ++ 32 ∷ (total_word said.2 ++ 10 ∷ more) in
    let after = claim_tail c.args.text.now c.in_ok-behind.field-0.now said.0 said.1 said.2 more c.in_ok-behind.ensures at.1 in
    let entrant = entrant_unique c.in_ok-behind.field-0.now c.in_ok-number.number.now said.0 c.in_ok-number.rest.now rest c.in_ok-number.ensures (at.0.0, after) in
    c.in_err-kind.ensures said.1 (total_word said.2 ++ 10 ∷ more) entrant.1)

pub returns-in_err-total : goal.returns-in_err-total
returns-in_err-total c = rw c.from_residual-in_err-total.ensures (λ said more at.
    let rest = kind_word said.1 ++ 32 ∷ (total_word said.2 ++ 10 ∷ more) in
    let after = claim_tail c.args.text.now c.in_ok-behind.field-0.now said.0 said.1 said.2 more c.in_ok-behind.ensures at.1 in
    let entrant = entrant_unique c.in_ok-behind.field-0.now c.in_ok-number.number.now said.0 c.in_ok-number.rest.now rest c.in_ok-number.ensures (at.0.0, after) in
    let kind = kind_unique c.in_ok-kind.kind said.1 c.in_ok-kind.rest.now (total_word said.2 ++ 10 ∷ more) (sym c.in_ok-kind.ensures ∙ entrant.1) in
    c.in_err-total.ensures said.2 more (total_there c.in_ok-kind.rest.now said.2 more at.0.1 kind.1))
