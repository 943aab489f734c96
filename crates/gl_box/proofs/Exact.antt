-- One thing is said of boxes.
use Rattle.std.proofs.Common.{◌≡◌, ◌∙◌, sym, ap, refl, subst, ℕ, ◌+◌, ◌<◌, ◌⊎◌, inl, inr, List, length, drop, arith}
use Rattle.std.proofs.lemmas.Bool.{cases_order}
use Rattle.std.proofs.lemmas.List.{take-append-drop, take_all}
use Rattle.gl_box.specs.Frontier.{IsFrontier}
use Rattle.gl_box.specs.Boxes.{AreRight, AreWhole, BeginWhole, IsPlaced, IsRight, IsSaid, NumbersBox}
use Rattle.gl_box.specs.declared.checking.Said.{Said}
use Rattle.gl_box.specs.declared.checking.Said.TheVariants.{NoneWrong, ExtraBox, StrayBox, UnclosedBox, Unfinished}
use Rattle.gl_box.proofs.Frontiers.{frontier_ends}

-- the boxes are right up to a place, where something is wrong or they end
record Stops (whole : List (ℕ × ℕ)) (cells : List (List (ℕ × ℕ))) (IsClosedAt : ℕ → Type 0) (place : ℕ) : Type 0 where
  before : AreRight whole cells IsClosedAt place
  ends : (place ≡ length cells) ⊎ ((place < length cells) × (IsRight whole cells IsClosedAt place → ⊥))

stops_order : (whole : List (ℕ × ℕ)) (cells : List (List (ℕ × ℕ))) (IsClosedAt : ℕ → Type 0) (p q : ℕ) → Stops whole cells IsClosedAt p → Stops whole cells IsClosedAt q → p < q → ⊥
stops_order whole cells IsClosedAt p q one other less = elim one.ends [
  | inl end ↦ elim other.ends [ inl last ↦ omega arith | inr at ↦ let below = at.0 in omega arith ]
  | inr at ↦ at.1 (other.before p less)
]

stops_unique : (whole : List (ℕ × ℕ)) (cells : List (List (ℕ × ℕ))) (IsClosedAt : ℕ → Type 0) (p q : ℕ) → Stops whole cells IsClosedAt p → Stops whole cells IsClosedAt q → p ≡ q
stops_unique whole cells IsClosedAt p q one other = elim (cases_order p q) [
  | inl same ↦ same
  | inr apart ↦ elim apart [
    | inl less ↦ absurd (stops_order whole cells IsClosedAt p q one other less)
    | inr more ↦ absurd (stops_order whole cells IsClosedAt q p other one more)
  ]
]

-- what is wrong at a place
abbrev WrongAt : List (ℕ × ℕ) → List (List (ℕ × ℕ)) → ℕ → Said → Type 0
WrongAt whole cells p NoneWrong = (p ≡ length cells) × AreWhole whole cells p
WrongAt whole cells p (ExtraBox number) = NumbersBox number p × (p < length cells) × AreWhole whole cells p
WrongAt whole cells p (StrayBox number) = NumbersBox number p × (p < length cells) × (AreWhole whole cells p → ⊥) × (BeginWhole whole cells (p + 1) → ⊥)
WrongAt whole cells p (UnclosedBox number) = NumbersBox number p × (p < length cells) × IsPlaced whole cells p
WrongAt whole cells p Unfinished = (p ≡ length cells) × (AreWhole whole cells p → ⊥)

wrong_unique : (whole : List (ℕ × ℕ)) (cells : List (List (ℕ × ℕ))) (p : ℕ) (a b : Said) → WrongAt whole cells p a → WrongAt whole cells p b → a ≡ b
wrong_unique whole cells p NoneWrong NoneWrong one other = refl
wrong_unique whole cells p Unfinished Unfinished one other = refl
wrong_unique whole cells p NoneWrong Unfinished one other = absurd (other.1 one.1)
wrong_unique whole cells p Unfinished NoneWrong one other = absurd (one.1 other.1)
wrong_unique whole cells p (ExtraBox m) (ExtraBox n) one other = ap ExtraBox (one.0 ∙ sym other.0)
wrong_unique whole cells p (StrayBox m) (StrayBox n) one other = ap StrayBox (one.0 ∙ sym other.0)
wrong_unique whole cells p (UnclosedBox m) (UnclosedBox n) one other = ap UnclosedBox (one.0 ∙ sym other.0)
wrong_unique whole cells p (ExtraBox m) (StrayBox n) one other = absurd (other.2 one.2)
wrong_unique whole cells p (StrayBox m) (ExtraBox n) one other = absurd (one.2 other.2)
wrong_unique whole cells p (ExtraBox m) (UnclosedBox n) one other = absurd (other.2.needed one.2)
wrong_unique whole cells p (UnclosedBox m) (ExtraBox n) one other = absurd (one.2.needed other.2)
wrong_unique whole cells p (StrayBox m) (UnclosedBox n) one other = absurd (one.3 other.2.placed)
wrong_unique whole cells p (UnclosedBox m) (StrayBox n) one other = absurd (other.3 one.2.placed)
wrong_unique whole cells p NoneWrong (ExtraBox n) one other = let e = one.0 in let l = other.1 in absurd (omega arith)
wrong_unique whole cells p NoneWrong (StrayBox n) one other = let e = one.0 in let l = other.1 in absurd (omega arith)
wrong_unique whole cells p NoneWrong (UnclosedBox n) one other = let e = one.0 in let l = other.1 in absurd (omega arith)
wrong_unique whole cells p Unfinished (ExtraBox n) one other = let e = one.0 in let l = other.1 in absurd (omega arith)
wrong_unique whole cells p Unfinished (StrayBox n) one other = let e = one.0 in let l = other.1 in absurd (omega arith)
wrong_unique whole cells p Unfinished (UnclosedBox n) one other = let e = one.0 in let l = other.1 in absurd (omega arith)
wrong_unique whole cells p (ExtraBox m) NoneWrong one other = let e = other.0 in let l = one.1 in absurd (omega arith)
wrong_unique whole cells p (StrayBox m) NoneWrong one other = let e = other.0 in let l = one.1 in absurd (omega arith)
wrong_unique whole cells p (UnclosedBox m) NoneWrong one other = let e = other.0 in let l = one.1 in absurd (omega arith)
wrong_unique whole cells p (ExtraBox m) Unfinished one other = let e = other.0 in let l = one.1 in absurd (omega arith)
wrong_unique whole cells p (StrayBox m) Unfinished one other = let e = other.0 in let l = one.1 in absurd (omega arith)
wrong_unique whole cells p (UnclosedBox m) Unfinished one other = let e = other.0 in let l = one.1 in absurd (omega arith)

all_cells : (whole : List (ℕ × ℕ)) (cells : List (List (ℕ × ℕ))) → IsFrontier whole cells → AreWhole whole cells (length cells)
all_cells whole cells frontier =
    subst (IsFrontier whole) (sym (take_all (length cells) cells (omega arith))) frontier

frontier_begins : (whole : List (ℕ × ℕ)) (cells : List (List (ℕ × ℕ))) (k : ℕ) → IsFrontier whole cells → BeginWhole whole cells k
frontier_begins whole cells k frontier =
    (drop k cells, subst (IsFrontier whole) (sym (take-append-drop k cells)) frontier)

all_right : (whole : List (ℕ × ℕ)) (cells : List (List (ℕ × ℕ))) (IsClosedAt : ℕ → Type 0) → IsSaid whole cells IsClosedAt NoneWrong → AreRight whole cells IsClosedAt (length cells)
all_right whole cells IsClosedAt said k below = record {
  placed = record {
    needed = λ front. omega (arith, frontier_ends whole cells k front said.0);
    placed = frontier_begins whole cells (k + 1) said.0;
  };
  closed = said.1 k below;
}

-- where that which is said stops
stop_of : (whole : List (ℕ × ℕ)) (cells : List (List (ℕ × ℕ))) (IsClosedAt : ℕ → Type 0) (said : Said) → IsSaid whole cells IsClosedAt said
    → (p : ℕ) × Stops whole cells IsClosedAt p × WrongAt whole cells p said
stop_of whole cells IsClosedAt NoneWrong is =
    (length cells, record { before = all_right whole cells IsClosedAt is; ends = inl refl }, (refl, all_cells whole cells is.0))
stop_of whole cells IsClosedAt (ExtraBox number) is =
    (is.place, record { before = is.before; ends = inr (is.within, λ right. right.placed.needed is.wrong) }, (is.numbered, is.within, is.wrong))
stop_of whole cells IsClosedAt (StrayBox number) is =
    (is.place, record { before = is.before; ends = inr (is.within, λ right. is.wrong.1 right.placed.placed) }, (is.numbered, is.within, is.wrong.0, is.wrong.1))
stop_of whole cells IsClosedAt (UnclosedBox number) is =
    (is.place, record { before = is.before; ends = inr (is.within, λ right. is.wrong.1 right.closed) }, (is.numbered, is.within, is.wrong.0))
stop_of whole cells IsClosedAt Unfinished is =
    (length cells, record { before = is.0; ends = inl refl }, (refl, is.1))

-- one thing is said of boxes
pub said_unique : (whole : List (ℕ × ℕ)) (cells : List (List (ℕ × ℕ))) (IsClosedAt : ℕ → Type 0) (a b : Said) → IsSaid whole cells IsClosedAt a → IsSaid whole cells IsClosedAt b → a ≡ b
said_unique whole cells IsClosedAt a b one other =
    let p = stop_of whole cells IsClosedAt a one in
    let q = stop_of whole cells IsClosedAt b other in
    let same = stops_unique whole cells IsClosedAt p.0 q.0 p.1 q.1 in
    wrong_unique whole cells q.0 a b (subst (λ (k : ℕ). WrongAt whole cells k a) same p.2) q.2
