-- What is known of boxes of which more may come.
use Rattle.std.specs.Prelude.{◌≡◌, ℕ, List, [], ◌∷◌, ◌++◌, length, map, Option, None, Some}
use Rattle.std.specs.List.{HoldsAt}
use Rattle.gl_box.specs.Boxes.{AreRight, IsSaid, NumbersBox}
use Rattle.gl_box.specs.Walk.{IsWalked}
use Rattle.gl_box.specs.Way.{HasCome, open_of}
use Rattle.gl_box.specs.declared.checking.BoxCheck.{BoxCheck}
use Rattle.gl_box.specs.declared.checking.Said.{Said}

-- the cells of boxes
abbrev pub cells_of : {W : Type 0} → List (List (ℕ × ℕ) × W) → List (List (ℕ × ℕ))
cells_of boxes = map (λ box. box.0) boxes

-- this is said of boxes that are to part a whole cell, each closed as it has to be
abbrev pub AreSaid : {W : Type 0} → List (ℕ × ℕ) → (List (ℕ × ℕ) × W → Type 0)
    → List (List (ℕ × ℕ) × W) → Said → Type 0
AreSaid whole Closes boxes said = IsSaid whole (cells_of boxes) (HoldsAt Closes boxes) said

-- Nothing is wrong with boxes: what completes a frontier of the whole cell behind them is made of
-- frontiers of the open cells. The box behind them has this number.
pub record ArePassed {W : Type 0} (whole : List (ℕ × ℕ)) (Closes : List (ℕ × ℕ) × W → Type 0)
    (boxes : List (List (ℕ × ℕ) × W)) (opened : List (List (ℕ × ℕ))) (number : ℕ) : Type 0 where
  pub walked : IsWalked whole (cells_of boxes) opened
  pub right : AreRight whole (cells_of boxes) (HoldsAt Closes boxes) (length boxes)
  pub numbered : NumbersBox number (length boxes)

-- nothing is wrong with one box more either
pub record IsCovered {W : Type 0} (whole : List (ℕ × ℕ)) (Closes : List (ℕ × ℕ) × W → Type 0)
    (boxes : List (List (ℕ × ℕ) × W)) (next : List (ℕ × ℕ) × W) (opened : List (List (ℕ × ℕ)))
    : Type 0 where
  pub walked : IsWalked whole (cells_of (boxes ++ next ∷ [])) opened
  pub right : AreRight whole (cells_of (boxes ++ next ∷ []))
      (HoldsAt Closes (boxes ++ next ∷ [])) (length (boxes ++ next ∷ []))

-- this is said of boxes, whatever boxes follow them
abbrev pub HasSaid : {W : Type 0} → List (ℕ × ℕ) → (List (ℕ × ℕ) × W → Type 0)
    → List (List (ℕ × ℕ) × W) → Said → Type 0
HasSaid {W} whole Closes boxes said =
    (more : List (List (ℕ × ℕ) × W)) → AreSaid whole Closes (boxes ++ more) said

-- nothing is wrong with boxes so far, or this is, whatever follows
abbrev pub IsPassing : {W : Type 0} → List (ℕ × ℕ) → (List (ℕ × ℕ) × W → Type 0)
    → List (List (ℕ × ℕ) × W) → List (List (ℕ × ℕ)) → ℕ → Option Said → Type 0
IsPassing whole Closes boxes opened number None = ArePassed whole Closes boxes opened number
IsPassing whole Closes boxes opened number (Some said) = HasSaid whole Closes boxes said

-- a check has taken these boxes, and can go on
pub record IsChecking {T R W : Type 0} (whole_of : T → List (ℕ × ℕ))
    (Closes : T → List (ℕ × ℕ) × W → Type 0) (IsRoom : T → R → Type 0)
    (boxes : List (List (ℕ × ℕ) × W)) (check : BoxCheck T R) : Type 0 where
  pub passing : IsPassing (whole_of check.test) (Closes check.test) boxes
      (open_of check.opened) check.number check.wrong
  pub come : check.wrong ≡ None → HasCome check.opened
  pub is_room : IsRoom check.test check.room
