-- Lemmas and no definitions: what the balance of weights says of single cells and of tuples, and
-- what the count of workers says of the settled and the served.
use Rattle.std.proofs.Common.{◌≡◌, sym, refl, ℕ, ◌+◌, ◌==◌, ◌&&◌, true, false, true≢false, cond, List, [], ◌∷◌, map, arith}
use Rattle.std.proofs.lemmas.Bool.{eqb-true, eq-eqb, and_parts, and_from}
use Rattle.std.proofs.lemmas.List.Sums.{sum_by-cons}
use Rattle.std.specs.List.{sum_by}
use Rattle.gl_box.specs.declared.cell.Cell.{Cell}
use Rattle.gl_box.specs.Cell.{holds, spans_of}
use Rattle.gl_box.specs.Frontier.{mult}
use Rattle.gl_deal.specs.declared.view.HandView.{HandView}
use Rattle.gl_deal.specs.declared.view.PassView.{PassView}
use Rattle.gl_deal.specs.Rule.{IsBalanced, TookAllItPut}
use Rattle.gl_deal.specs.Code.Copies.{copies, is_same}

-- what spans are weighed together
weighed : (weight : List (ℕ × ℕ) → ℕ) (cells : List Cell) → sum_by weight (map spans_of cells) ≡ sum_by (λ cell. weight (spans_of cell)) cells
weighed weight [] = refl
weighed weight (cell ∷ cells) =
    let one = sum_by-cons weight (spans_of cell) (map spans_of cells) in
    let more = sum_by-cons (λ (c : Cell). weight (spans_of c)) cell cells in
    let rest = weighed weight cells in
    omega arith

weighed_all : (weight : List (ℕ × ℕ) → ℕ) (passes : List PassView)
    → sum_by (λ (pass : PassView). sum_by weight (map spans_of pass.taken)) passes
    ≡ sum_by (λ (pass : PassView). sum_by (λ cell. weight (spans_of cell)) pass.taken) passes
weighed_all weight [] = refl
weighed_all weight (pass ∷ passes) =
    let one = sum_by-cons (λ (p : PassView). sum_by weight (map spans_of p.taken)) pass passes in
    let more = sum_by-cons (λ (p : PassView). sum_by (λ cell. weight (spans_of cell)) p.taken) pass passes in
    let here = weighed weight pass.taken in
    let rest = weighed_all weight passes in
    omega arith

-- the balance, by the spans of the cells
pub balanced-spans : (cells : List Cell) (hand : HandView) (passes : List PassView) (weight : List (ℕ × ℕ) → ℕ) → IsBalanced cells hand passes
    → sum_by weight (map spans_of hand.put)
    ≡ sum_by weight (map spans_of cells) + sum_by weight (map spans_of hand.taken) + sum_by weight (map spans_of hand.gathered)
    + sum_by (λ (pass : PassView). sum_by weight (map spans_of pass.taken)) passes
balanced-spans cells hand passes weight balanced =
    let b = balanced (λ cell. weight (spans_of cell)) in
    omega (arith, weighed weight hand.put, weighed weight cells, weighed weight hand.taken, weighed weight hand.gathered, weighed_all weight passes)

-- each cell was put as often as it is contained, or was taken, gathered or taken by a pass
pub copies-balanced : (cells : List Cell) (hand : HandView) (passes : List PassView) (cell : List (ℕ × ℕ)) → IsBalanced cells hand passes
    → copies cell (map spans_of hand.put)
    ≡ copies cell (map spans_of cells) + copies cell (map spans_of hand.taken) + copies cell (map spans_of hand.gathered)
    + sum_by (λ (pass : PassView). copies cell (map spans_of pass.taken)) passes
copies-balanced cells hand passes cell = balanced-spans cells hand passes (λ other. cond (is_same cell other) 1 0)

-- each tuple was put as often as it is contained, or was taken, gathered or taken by a pass
pub mult-balanced : (cells : List Cell) (hand : HandView) (passes : List PassView) (tuple : List ℕ) → IsBalanced cells hand passes
    → mult (map spans_of hand.put) tuple
    ≡ mult (map spans_of cells) tuple + mult (map spans_of hand.taken) tuple + mult (map spans_of hand.gathered) tuple
    + sum_by (λ (pass : PassView). mult (map spans_of pass.taken) tuple) passes
mult-balanced cells hand passes tuple = balanced-spans cells hand passes (λ cell. cond (holds cell tuple) 1 0)

-- what was put was taken or gathered, by the spans of the cells
pub taken-spans : (hand : HandView) (weight : List (ℕ × ℕ) → ℕ) → TookAllItPut hand
    → sum_by weight (map spans_of hand.put) ≡ sum_by weight (map spans_of hand.taken) + sum_by weight (map spans_of hand.gathered)
taken-spans hand weight whole =
    let e = whole (λ cell. weight (spans_of cell)) in
    omega (arith, weighed weight hand.put, weighed weight hand.taken, weighed weight hand.gathered)

-- each tuple was put as often as it was taken or gathered
pub mult-taken : (hand : HandView) (tuple : List ℕ) → TookAllItPut hand
    → mult (map spans_of hand.put) tuple ≡ mult (map spans_of hand.taken) tuple + mult (map spans_of hand.gathered) tuple
mult-taken hand tuple = taken-spans hand (λ cell. cond (holds cell tuple) 1 0)

-- the test of two cells says that they are one
pub same-is : (cell other : List (ℕ × ℕ)) → is_same cell other ≡ true → cell ≡ other
same-is [] [] same = refl
same-is [] (o ∷ os) same = absurd (true≢false (sym same))
same-is (s ∷ ss) [] same = absurd (true≢false (sym same))
same-is (s ∷ ss) (o ∷ os) same =
    let rest = and_parts (s.0 == o.0 && s.1 == o.1) (is_same ss os) same in
    let two = and_parts (s.0 == o.0) (s.1 == o.1) rest.0 in
    let low : s.0 ≡ o.0 = eqb-true s.0 o.0 two.0 in
    let high : s.1 ≡ o.1 = eqb-true s.1 o.1 two.1 in
    (λ i. (low i, high i) ∷ same-is ss os rest.1 i)

pub is-same : (cell : List (ℕ × ℕ)) → is_same cell cell ≡ true
is-same [] = refl
is-same (s ∷ ss) = and_from _ _ (and_from _ _ (eq-eqb s.0 s.0 refl) (eq-eqb s.1 s.1 refl)) (is-same ss)
