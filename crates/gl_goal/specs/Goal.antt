-- What is maximised, as the rules of a contest say it: no search, no order of work.
use Rattle.std.specs.Prelude.{◌≡◌, ℕ, ◌-◌, ◌^◌, ◌<◌, ◌≤◌, Bool, IsTrue, List, [], ◌∷◌, length, map, slice_index, slice_index_or, Option, None, Some, All}
use Rattle.std.specs.List.Sorted.{IsStrictlyIncreasing}
use Rattle.gl_box.specs.Cell.{Covers, Holds, point}
use Rattle.gl_box.specs.Halves.{span_at}

-- A goal: on each axis the numbers of the fixes that may be chosen there; which chosen fixes are
-- allowed beside their order in time; and what chosen fixes are worth. Beside that its written
-- tests of a cell, whose spans hold places of the axes: whether it is shut, and a bound of what a
-- legal tuple in it is worth.
pub record Goal : Type 0 where
  pub axes : List (List ℕ)
  pub allows : List ℕ → Bool
  pub worth : List ℕ → ℕ
  pub shut : List (ℕ × ℕ) → Bool
  pub bound : List (ℕ × ℕ) → ℕ

-- a tuple chooses one place on each axis
abbrev pub IsTuple : List (List ℕ) → List ℕ → Type 0
IsTuple [] [] = Unit {0}
IsTuple [] (place ∷ places) = ⊥
IsTuple (axis ∷ axes) [] = ⊥
IsTuple (axis ∷ axes) (place ∷ places) = (place < length axis) × IsTuple axes places

-- the numbers of the fixes at the chosen places
abbrev pub chosen : List (List ℕ) → List ℕ → List ℕ
chosen [] places = []
chosen (axis ∷ axes) [] = []
chosen (axis ∷ axes) (place ∷ places) = slice_index axis place ∷ chosen axes places

-- no fix number is below the one before it
abbrev pub IsInTimeOrder : List ℕ → Type 0
IsInTimeOrder [] = Unit {0}
IsInTimeOrder (fix ∷ []) = Unit {0}
IsInTimeOrder (fix ∷ next ∷ fixes) = (fix ≤ next) × IsInTimeOrder (next ∷ fixes)

-- a tuple is legal where its fixes are in time order and the goal allows them
pub record IsLegal (goal : Goal) (tuple : List ℕ) : Type 0 where
  pub is_tuple : IsTuple goal.axes tuple
  pub in_order : IsInTimeOrder (chosen goal.axes tuple)
  pub allowed : IsTrue (goal.allows (chosen goal.axes tuple))

-- no tuple is legal
abbrev pub HasNoLegal : Goal → Type 0
HasNoLegal goal = (tuple : List ℕ) → IsLegal goal tuple → ⊥

-- what a tuple is worth
abbrev pub value : Goal → List ℕ → ℕ
value goal tuple = goal.worth (chosen goal.axes tuple)

-- a legal tuple is worth this much
pub record IsReached (goal : Goal) (total : ℕ) (tuple : List ℕ) : Type 0 where
  pub legal : IsLegal goal tuple
  pub worth : value goal tuple ≡ total

-- The optimum: none where no tuple is legal, else what some legal tuple is worth where no legal
-- tuple is worth more.
abbrev pub IsOptimum : Goal → Option ℕ → Type 0
IsOptimum goal None = HasNoLegal goal
IsOptimum goal (Some total) =
    ((tuple : List ℕ) × IsReached goal total tuple)
    × ((tuple : List ℕ) → IsLegal goal tuple → value goal tuple ≤ total)

-- the whole cell has each place of each axis
abbrev pub whole_cell : List (List ℕ) → List (ℕ × ℕ)
whole_cell axes = map (λ axis. (0, length axis - 1)) axes

-- the number of the fix at a place of an axis
abbrev pub fix_at : List (List ℕ) → ℕ → ℕ → ℕ
fix_at axes axis place = slice_index (slice_index_or axes axis []) place

-- a cell is disordered where for two axes the fix at the low end of the earlier one is later than
-- the one at the high end of the later one
pub record IsDisordered (axes : List (List ℕ)) (cell : List (ℕ × ℕ)) : Type 0 where
  pub earlier : ℕ
  pub later : ℕ
  pub apart : earlier < later
  pub within : later < length axes
  pub above :
      fix_at axes later (span_at cell later).1 < fix_at axes earlier (span_at cell earlier).0

-- a cell is open where it is neither disordered nor shut
pub record IsOpen (goal : Goal) (cell : List (ℕ × ℕ)) : Type 0 where
  pub ordered : IsDisordered goal.axes cell → ⊥
  pub not_shut : IsTrue (goal.shut cell) → ⊥

-- A goal has 1 to 10 axes, and each has a list of fixes that isn't empty and rises strictly. No
-- tuple is worth 2 ^ 63 or more. A cell that is shut holds no legal tuple, and a legal tuple in a
-- cell is worth no more than the cell's bound. A single tuple whose cell is open is legal, and then
-- its bound is what it is worth.
pub record IsGoal (goal : Goal) : Type 0 where
  pub some_axis : 0 < length goal.axes
  pub ten_axes : length goal.axes ≤ 10
  pub some_fix : All (λ axis. 0 < length axis) goal.axes
  pub rising : All IsStrictlyIncreasing goal.axes
  pub limited : (tuple : List ℕ) → IsTuple goal.axes tuple → value goal tuple < 2 ^ 63
  pub shut_out : (cell : List (ℕ × ℕ)) (tuple : List ℕ) → Covers (whole_cell goal.axes) cell
      → IsTrue (goal.shut cell) → Holds cell tuple → IsLegal goal tuple → ⊥
  pub bounded : (cell : List (ℕ × ℕ)) (tuple : List ℕ) → Covers (whole_cell goal.axes) cell
      → Holds cell tuple → IsLegal goal tuple → value goal tuple ≤ goal.bound cell
  pub single_legal : (tuple : List ℕ) → IsTuple goal.axes tuple → IsOpen goal (point tuple)
      → IsLegal goal tuple
  pub single_bound : (tuple : List ℕ) → IsLegal goal tuple
      → goal.bound (point tuple) ≡ value goal tuple
