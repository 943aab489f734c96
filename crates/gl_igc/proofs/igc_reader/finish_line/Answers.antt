use Rattle.std.proofs.Common.{◌≡◌, ◌∙◌, sym, subst, ℕ, List, [], ◌++◌, drop, take, arith, rules}
use Rattle.gl_igc.specs.Code.Parts.{Takes}
use Rattle.gl_igc.proofs.PieceLemmas.{all_taken, last_joined}
use Rattle.gl_igc.proofs.igc_reader.finish_line.Goals as goal

pub returns-clause-takes : goal.returns-clause-takes
returns-clause-takes c =
    let piece = c.args.piece.now in
    let next = c.in-Some.line.next in
    let joined = c.args.rest.now.items ++ take next piece in
    let is : c.deref.result.now ≡ joined = search rules in
    let taken : Takes joined (drop c.in_ok-take_lines.field-0 joined) c.args.progress.now c.take_lines.new.progress = rw is at c.in_ok-take_lines.ensures.takes in
    let last = last_joined c.args.rest.now.items piece next (omega (arith, c.in-Some.ensures.bounds)) (omega (arith, c.in-Some.ensures.bounds)) c.in-Some.ensures.ends in
    let none : drop c.in_ok-take_lines.field-0 joined ≡ [] =
    all_taken joined c.in_ok-take_lines.field-0 (rw is at c.in_ok-take_lines.ensures.within) (rw is at c.in_ok-take_lines.ensures.rest) last in
    subst (λ (rest : List ℕ). Takes joined rest c.args.progress.now c.take_lines.new.progress) (none ∙ sym c.clear.ensures.items) taken
