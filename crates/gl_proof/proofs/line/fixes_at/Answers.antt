use Rattle.std.proofs.Common.{ℕ, ◌^◌, ◌<◌, ◌∷◌, ◌++◌, map, arith}
use Rattle.std.specs.Fmt.{decimal}
use Rattle.gl_proof.specs.Words.{spaced}
use Rattle.gl_proof.proofs.Words.{next_word, no_word, number_next}
use Rattle.gl_proof.proofs.Lines.{fixes_on}
use Rattle.gl_proof.proofs.line.fixes_at.Goals as goal

pub returns-then-len-eq-MOST_AXES : goal.returns-then-len-eq-MOST_AXES
returns-then-len-eq-MOST_AXES c = λ fixes more at.
    let l = c.fixes in
    let i = l.invariant in
    let next = next_word decimal (λ (fix : ℕ). fix < 2 ^ 32) l.fixes.items fixes l.rest.now c.in-Some.word.now more c.in-Some.ensures
    (fixes_on l.fixes.items c.args.text.now l.rest.now fixes more i.is i.each i.stops at) in
    absurd (omega (arith, next.0, l.fixes.ok.0, c.len.ensures, c.if-len-eq-MOST_AXES.true, at.are_fixes.most))

pub returns-in_default-short_number_at : goal.returns-in_default-short_number_at
returns-in_default-short_number_at c = λ fixes more at.
    let l = c.fixes in
    let i = l.invariant in
    let next = next_word decimal (λ (fix : ℕ). fix < 2 ^ 32) l.fixes.items fixes l.rest.now c.in-Some.word.now more c.in-Some.ensures
    (fixes_on l.fixes.items c.args.text.now l.rest.now fixes more i.is i.each i.stops at) in
    c.in_default-short_number_at.ensures next.1.next (spaced (map decimal next.1.others) ++ 10 ∷ more) (number_next c.in-Some.word.now more next.1)

pub returns-in_default-behind : goal.returns-in_default-behind
returns-in_default-behind c = λ fixes more at.
    let l = c.fixes in
    let i = l.invariant in
    let last = no_word decimal (λ (fix : ℕ). fix < 2 ^ 32) l.fixes.items fixes l.rest.now more c.in_default.ensures
    (fixes_on l.fixes.items c.args.text.now l.rest.now fixes more i.is i.each i.stops at) in
    c.in_default-behind.ensures more last.1
