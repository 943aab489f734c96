use Rattle.std.proofs.Common.{◌≡◌, ◌∙◌, sym, ap, subst, ℕ, suc, ◌-◌, ◌<◌, List, [], ◌∷◌, length, arith}
use Rattle.std.specs.Prelude.{◌↔◌}
use Rattle.std.proofs.lemmas.Bool.{false≢true}
use Rattle.std.proofs.lemmas.List.{length-append, length-set}
use Rattle.gl_box.specs.Cell.{spans_of}
use Rattle.gl_box.proofs.Nodes.{spread-lower}
use Rattle.gl_box.proofs.Ways.{beyond}
use Rattle.gl_box.specs.Turns.{when_cut}
use Rattle.gl_box.specs.Walk.{AreFrontiers, cuts_of, open_cells}
use Rattle.gl_box.proofs.Turns.{cut_open}
use Rattle.gl_box.proofs.Frontiers.{first_covered, halved_on, open_push, passed_on, through}
use Rattle.gl_box.proofs.walk.cuts_to.Goals as goal

pub halves-smaller : goal.halves-smaller
halves-smaller c = spread-lower (spans_of c.halves.first) (spans_of c.halve_at.new.cell) (spans_of c.in-Some-halve_at.upper) c.in-Some-halve_at.ensures.halves

pub halves-preserved : goal.halves-preserved
halves-preserved c =
    let first = spans_of c.halves.first in
    let lower = spans_of c.halve_at.new.cell in
    let upper = spans_of c.in-Some-halve_at.upper in
    let next = spans_of c.args.cell.now in
    let others = open_cells c.halves.opened.items in
    let before = c.halves.invariant.cuts in
    let opened : open_cells c.append.new.list.items ≡ upper ∷ others = ap open_cells c.in_ok-append.ensures ∙ open_push c.halves.opened.items c.in-Some-halve_at.upper in
    let apart : first ≡ next → ⊥ = λ same. false≢true (sym c.halves-test.true ∙ c.is_same.ensures.1 same) in
    record {
      fronts = λ more. through (c.halves.invariant.fronts more)
          (subst (λ (o : List (List (ℕ × ℕ))). AreFrontiers (first ∷ others) (next ∷ more) ↔ AreFrontiers (lower ∷ o) (next ∷ more)) (sym opened)
          (halved_on first lower upper next others more c.in-Some-halve_at.ensures.halves apart));
      cuts = (
        suc before.0,
        ap length c.in_ok-append.ensures ∙ length-append c.halves.opened.items (c.in-Some-halve_at.upper ∷ []) ∙ omega (arith, before.1),
        ap when_cut before.2 ∙ cut_open first lower upper others c.in-Some-halve_at.ensures.halves ∙ ap (λ (l : List (List (ℕ × ℕ))). lower ∷ l) (sym opened),
      );
    }

pub returns-clause-there : goal.returns-clause-there
returns-clause-there c =
    let first = spans_of c.halves.first in
    let cell = spans_of c.args.cell.now in
    let others = open_cells c.halves.opened.items in
    let is : first ≡ cell = c.is_same.ensures.0 c.halves-test.false in
    let made = c.halves.invariant.cuts in
    let count : made.0 ≡ c.len.result - c.len-others.result = omega (arith, made.1, c.len.ensures, c.halves.opened.ok.0) in
    record {
      cuts = subst (λ (n : ℕ). cuts_of n (open_cells c.args.opened.now.items) ≡ first ∷ others) count made.2 ∙ ap (λ (x : List (ℕ × ℕ)). x ∷ others) is;
      fronts = λ more. through (c.halves.invariant.fronts more)
          (subst (λ (x : List (ℕ × ℕ)). AreFrontiers (first ∷ others) (x ∷ more) ↔ AreFrontiers others more) is (passed_on first others more));
    }

pub returns-then-cell-axis-clause-absent : goal.returns-then-cell-axis-clause-absent
returns-then-cell-axis-clause-absent c = λ more fronts.
    let first = spans_of c.halves.first in
    let low = c.halve_at.new.cell in
    let upper = spans_of c.in-Some-halve_at.upper in
    let next = c.args.cell.now in
    let others = open_cells c.halves.opened.items in
    let halves = c.in-Some-halve_at.ensures.halves in
    let apart : first ≡ spans_of next → ⊥ = λ same. false≢true (sym c.halves-test.true ∙ c.is_same.ensures.1 same) in
    let parted = (halved_on first (spans_of low) upper (spans_of next) others more halves apart).0 ((c.halves.invariant.fronts more).0 fronts) in
    let covers = first_covered (spans_of low) (spans_of next) (upper ∷ others) more parted in
    let inside : c.widest-axis.result < length (spans_of low) = omega (arith, c.widest-axis.ensures.inside, ap length halves.lower_is, length-set {A = ℕ × ℕ}) in
    beyond low next c.widest-axis.result c.index-first-axis.result c.index-cell-axis.result inside covers c.if-cell-axis.true
