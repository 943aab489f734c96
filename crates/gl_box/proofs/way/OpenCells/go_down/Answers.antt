use Rattle.std.proofs.Common.{◌≡◌, ◌∙◌, sym, ap, subst, ℕ, Bool, List, ◌∷◌, ◌++◌}
use Rattle.std.specs.Prelude.{◌↔◌}
use Rattle.std.proofs.lemmas.Bool.{false≢true}
use Rattle.gl_box.specs.Cell.{spans_of}
use Rattle.gl_box.specs.Walk.{AreFrontiers, open_cells}
use Rattle.gl_box.specs.Way.{before_if, open_on, upper_of}
use Rattle.gl_box.proofs.Frontiers.{first_covered, halved_on, passed_on, through}
use Rattle.gl_box.proofs.Nodes.{spread-lower}
use Rattle.gl_box.proofs.Ways.{fork_added}
use Rattle.gl_box.proofs.way.OpenCells.go_down.Goals as goal

pub halves-init : goal.halves-init
halves-init c = λ more.
    let rest = open_on (spans_of c.args.self.now.first) c.args.self.now.way.items ++ open_cells c.args.self.now.others.items in
    subst (λ (b : Bool). AreFrontiers (before_if b (spans_of c.args.self.now.first) rest) (spans_of c.args.cell.now ∷ more) ↔ AreFrontiers (spans_of c.args.self.now.first ∷ rest) (spans_of c.args.cell.now ∷ more))
    (sym c.requires) (λ fronts. fronts, λ fronts. fronts)

pub halves-smaller : goal.halves-smaller
halves-smaller c = spread-lower (spans_of c.halves.self.first) (spans_of c.lower.new.cell) (upper_of c.in-Some.fork (spans_of c.lower.new.cell)) c.in-Some.ensures.halves

pub halves-preserved : goal.halves-preserved
halves-preserved c = λ more.
    let first = spans_of c.halves.self.first in
    let lower = spans_of c.lower.new.cell in
    let upper = upper_of c.in-Some.fork lower in
    let next = spans_of c.args.cell.now in
    let others = open_cells c.halves.self.others.items in
    let before = open_on first c.halves.self.way.items ++ others in
    let opened : open_on lower c.append.new.list.items ++ others ≡ upper ∷ before =
    ap (λ (l : List (List (ℕ × ℕ))). l ++ others) (fork_added first lower c.in-Some.fork c.halves.self.way.items c.append.new.list.items c.in-Some.ensures c.in_ok-append.ensures) in
    let apart : first ≡ next → ⊥ = λ same. false≢true (sym c.halves-test.true ∙ c.is_same.ensures.1 same) in
    through (c.halves.invariant more)
    (subst (λ (o : List (List (ℕ × ℕ))). AreFrontiers (first ∷ before) (next ∷ more) ↔ AreFrontiers (lower ∷ o) (next ∷ more)) (sym opened) (halved_on first lower upper next before more c.in-Some.ensures.halves apart))

pub returns-clause-there : goal.returns-clause-there
returns-clause-there c = λ is_there more.
    let first = spans_of c.halves.self.first in
    let others = open_on first c.halves.self.way.items ++ open_cells c.halves.self.others.items in
    let is : first ≡ spans_of c.args.cell.now = c.is_same.ensures.0 c.halves-test.false in
    through (c.halves.invariant more) (subst (λ (x : List (ℕ × ℕ)). AreFrontiers (first ∷ others) (x ∷ more) ↔ AreFrontiers others more) is (passed_on first others more))

pub returns-then-reaches_beyond-clause-absent : goal.returns-then-reaches_beyond-clause-absent
returns-then-reaches_beyond-clause-absent c = λ absent more fronts.
    let first = spans_of c.halves.self.first in
    let lower = spans_of c.lower.new.cell in
    let upper = upper_of c.in-Some.fork lower in
    let next = spans_of c.args.cell.now in
    let before = open_on first c.halves.self.way.items ++ open_cells c.halves.self.others.items in
    let apart : first ≡ next → ⊥ = λ same. false≢true (sym c.halves-test.true ∙ c.is_same.ensures.1 same) in
    let parted = (halved_on first lower upper next before more c.in-Some.ensures.halves apart).0 ((c.halves.invariant more).0 fronts) in
    c.reaches_beyond.ensures c.if-reaches_beyond.true (first_covered lower next (upper ∷ before) more parted)
