-- What is said of boxes in their order, against a whole cell that they are to part by splits: that
-- they do and each of them is closed, or the first thing that is wrong. Which box is closed, and
-- why, is said elsewhere; places count from 0.
use Rattle.std.specs.Prelude.{◌≡◌, ℕ, ◌+◌, ◌<◌, List, ◌++◌, length, min, take}
use Rattle.gl_box.specs.Frontier.{IsFrontier}
use Rattle.gl_box.specs.declared.checking.Said.{Said}
use Rattle.gl_box.specs.declared.checking.Said.TheVariants.{NoneWrong, ExtraBox, StrayBox, UnclosedBox, Unfinished}

-- cells begin a partition of a whole by splits: with some cells behind them they are a frontier
abbrev pub Begins : List (ℕ × ℕ) → List (List (ℕ × ℕ)) → Type 0
Begins whole cells = (more : List (List (ℕ × ℕ))) × IsFrontier whole (cells ++ more)

-- the first cells, so many of them, are the whole
abbrev pub AreWhole : List (ℕ × ℕ) → List (List (ℕ × ℕ)) → ℕ → Type 0
AreWhole whole cells count = IsFrontier whole (take count cells)

-- the first cells, so many of them, begin a partition of the whole
abbrev pub BeginWhole : List (ℕ × ℕ) → List (List (ℕ × ℕ)) → ℕ → Type 0
BeginWhole whole cells count = Begins whole (take count cells)

-- the cell at a place stands where it must: those before it aren't the whole yet, and with it they
-- begin a partition of the whole
pub record IsPlaced (whole : List (ℕ × ℕ)) (cells : List (List (ℕ × ℕ))) (place : ℕ)
    : Type 0 where
  pub needed : AreWhole whole cells place → ⊥
  pub placed : BeginWhole whole cells (place + 1)

-- nothing is wrong with the cell at a place: it stands where it must, and it is closed
pub record IsRight (whole : List (ℕ × ℕ)) (cells : List (List (ℕ × ℕ))) (IsClosedAt : ℕ → Type 0)
    (place : ℕ) : Type 0 where
  pub placed : IsPlaced whole cells place
  pub closed : IsClosedAt place

-- nothing is wrong with the first cells, so many of them
abbrev pub AreRight : List (ℕ × ℕ) → List (List (ℕ × ℕ)) → (ℕ → Type 0) → ℕ → Type 0
AreRight whole cells IsClosedAt count =
    (place : ℕ) → place < count → IsRight whole cells IsClosedAt place

-- a number tells the box at a place: they count from 1, and there is no number above the last of 32
-- bits
abbrev pub NumbersBox : ℕ → ℕ → Type 0
NumbersBox number place = number ≡ min (place + 1) 4_294_967_295

-- the box of this number is the first that is wrong, in this way
pub record IsFirst (whole : List (ℕ × ℕ)) (cells : List (List (ℕ × ℕ))) (IsClosedAt : ℕ → Type 0)
    (IsWrong : ℕ → Type 0) (number : ℕ) : Type 0 where
  pub place : ℕ
  pub numbered : NumbersBox number place
  pub within : place < length cells
  pub before : AreRight whole cells IsClosedAt place
  pub wrong : IsWrong place

-- the first of these that holds
abbrev pub IsSaid : List (ℕ × ℕ) → List (List (ℕ × ℕ)) → (ℕ → Type 0) → Said → Type 0
IsSaid whole cells IsClosedAt NoneWrong =
    IsFrontier whole cells × ((place : ℕ) → place < length cells → IsClosedAt place)
IsSaid whole cells IsClosedAt (ExtraBox number) =
    IsFirst whole cells IsClosedAt (AreWhole whole cells) number
IsSaid whole cells IsClosedAt (StrayBox number) =
    IsFirst whole cells IsClosedAt
    (λ place. ¬ AreWhole whole cells place × ¬ BeginWhole whole cells (place + 1)) number
IsSaid whole cells IsClosedAt (UnclosedBox number) =
    IsFirst whole cells IsClosedAt (λ place. IsPlaced whole cells place × ¬ IsClosedAt place) number
IsSaid whole cells IsClosedAt Unfinished =
    AreRight whole cells IsClosedAt (length cells) × ¬ AreWhole whole cells (length cells)
