use Rattle.std.proofs.Common.{◌≡◌, ◌∙◌, ℕ, ◌+◌, ◌-◌, ◌<◌, List, length, take, drop, get_or, ap, sym, eq-eqb, arith, get_or-drop, get_or-take, length-drop, length-take}
use Rattle.std.proofs.lemmas.Bool.{eqb-true}
use Rattle.gl_text.proofs.lines.line_end.Goals as goal

-- the byte at a place of the rest of a text
rest_at : (text : List ℕ) (at place : ℕ) → at + place < length text → get_or (take (length text - at) (drop at text)) place 0 ≡ get_or text (at + place) 0
rest_at text at place below =
    get_or-take (length text - at) (drop at text) place 0 (omega arith) ∙ get_or-drop at text place 0

rest_length : (text : List ℕ) (at : ℕ) → length (take (length text - at) (drop at text)) ≡ length text - at
rest_length text at = omega (arith, length-take (length text - at) (drop at text), length-drop at text)

pub returns-in-Some-clause-inside : goal.returns-in-Some-clause-inside
returns-in-Some-clause-inside c k from below is =
    let found = c.in-Some.ensures in
    let text = c.args.text.now in
    let at = c.args.at in
    let place : at + (k - at) ≡ k = omega arith in
    found.0.before (k - at) (omega arith) (omega arith) (eq-eqb _ _ (rest_at text at (k - at) (omega (arith, found.0.high, rest_length text at)) ∙ ap (λ (j : ℕ). get_or text j 0) place ∙ is))

pub returns-in-Some-clause-ended : goal.returns-in-Some-clause-ended
returns-in-Some-clause-ended c below =
    let found = c.in-Some.ensures in
    sym (rest_at c.args.text.now c.args.at c.in-Some.offset below) ∙ eqb-true _ _ found.1

pub returns-in-None-clause-inside : goal.returns-in-None-clause-inside
returns-in-None-clause-inside c k from below is =
    let text = c.args.text.now in
    let at = c.args.at in
    let place : at + (k - at) ≡ k = omega arith in
    c.in-None.ensures (k - at) (omega arith) (omega (arith, rest_length text at)) (eq-eqb _ _ (rest_at text at (k - at) (omega arith) ∙ ap (λ (j : ℕ). get_or text j 0) place ∙ is))
