-- The volumes of an airspace text, and what it is refused for.
use Rattle.std.specs.Prelude.{ℕ, suc, ◌+◌, ◌-◌, ◌==◌, nat_le, Bool, true, false, not, ◌&&◌, ◌||◌, if◌then◌else◌, is_some, is_none, List, [], ◌∷◌, ◌++◌, length, map, position, Option, None, Some, option_map, ℤ}
use Rattle.std.specs.List.{filter_map}
use Rattle.std.specs.Option.{option_or}
use Rattle.gl_text.specs.Lines.{lines_of}
use Rattle.gl_airspace.specs.Line.{AirLine, PassedOver, Begins, Names, Floor, Ceiling, Centre, Corner, Circles, reading_of}

-- a line, as it reads or doesn't
abbrev pub Reading : Type 0
Reading = Option AirLine

-- which kind of line it is
abbrev pub begins : Reading → Bool
begins (Some Begins) = true
begins line = false

abbrev pub is_passed : Reading → Bool
is_passed (Some PassedOver) = true
is_passed line = false

abbrev pub floor_of : Reading → Option ℤ
floor_of (Some (Floor metres)) = Some metres
floor_of line = None

abbrev pub ceiling_of : Reading → Option ℤ
ceiling_of (Some (Ceiling metres)) = Some metres
ceiling_of line = None

abbrev pub centre_of : Reading → Option (ℤ × ℤ)
centre_of (Some (Centre place)) = Some place
centre_of line = None

abbrev pub corner_of : Reading → Option (ℤ × ℤ)
corner_of (Some (Corner place)) = Some place
corner_of line = None

abbrev pub radius_said : Reading → Option ℕ
radius_said (Some (Circles radius)) = Some radius
radius_said line = None

-- the first and the last of some values, if there is one
abbrev pub first_item : {X : Type 0} → List X → Option X
first_item [] = None
first_item (x ∷ xs) = Some x

abbrev pub last_item : {X : Type 0} → List X → Option X
last_item [] = None
last_item (x ∷ []) = Some x
last_item (x ∷ y ∷ xs) = last_item (y ∷ xs)

-- what the lines of a volume say: its floor, its ceiling, its corners, its last centre, and its
-- circle
abbrev pub floor_in : List Reading → Option ℤ
floor_in lines = first_item (filter_map floor_of lines)

abbrev pub ceiling_in : List Reading → Option ℤ
ceiling_in lines = first_item (filter_map ceiling_of lines)

abbrev pub corners_in : List Reading → List (ℤ × ℤ)
corners_in lines = filter_map corner_of lines

abbrev pub centre_in : List Reading → Option (ℤ × ℤ)
centre_in lines = last_item (filter_map centre_of lines)

abbrev pub radius_in : List Reading → Option ℕ
radius_in lines = first_item (filter_map radius_said lines)

-- the circle that lines make, with the last centre before it
abbrev pub circle_after : Option (ℤ × ℤ) → List Reading → Option ((ℤ × ℤ) × ℕ)
circle_after centre [] = None
circle_after centre (Some (Centre place) ∷ lines) = circle_after (Some place) lines
circle_after centre (Some (Circles radius) ∷ lines) = option_map (λ place. (place, radius)) centre
circle_after centre (line ∷ lines) = circle_after centre lines

abbrev pub circle_in : List Reading → Option ((ℤ × ℤ) × ℕ)
circle_in lines = circle_after None lines

-- Whether a line may stand behind the lines of a volume: a floor and a ceiling once; no corner
-- behind a circle, and no circle behind a corner, behind another circle or without a centre before
-- it.
abbrev pub fits : List Reading → Reading → Bool
fits lines None = false
fits lines (Some PassedOver) = true
fits lines (Some Begins) = true
fits lines (Some Names) = true
fits lines (Some (Floor metres)) = is_none (floor_in lines)
fits lines (Some (Ceiling metres)) = is_none (ceiling_in lines)
fits lines (Some (Centre place)) = true
fits lines (Some (Corner place)) = is_none (radius_in lines)
fits lines (Some (Circles radius)) =
    is_none (radius_in lines) && (length (corners_in lines) == 0) && is_some (centre_in lines)

-- a volume is complete with a floor, a ceiling, and a circle or three corners
abbrev pub is_complete : List Reading → Bool
is_complete lines =
    is_some (floor_in lines) && is_some (ceiling_in lines)
    && (is_some (radius_in lines) || nat_le 3 (length (corners_in lines)))

-- the place, from 0, of the first of some lines that doesn't fit behind those before it
abbrev pub misfit_after : List Reading → List Reading → Option ℕ
misfit_after before [] = None
misfit_after before (line ∷ lines) =
    if fits before line then option_map suc (misfit_after (before ++ line ∷ []) lines) else Some 0

-- the lines before the first that begins a volume, and the lines of each volume behind the one that
-- begins it
abbrev pub parted : List Reading → List Reading × List (List Reading)
parted [] = ([], [])
parted (line ∷ lines) =
    if begins line then ([], (parted lines).0 ∷ (parted lines).1)
    else (line ∷ (parted lines).0, (parted lines).1)

-- the place, from 0, of the corner with so many corners before it
abbrev pub corner_at : ℕ → List Reading → Option ℕ
corner_at n [] = None
corner_at n (line ∷ lines) =
    if is_none (corner_of line) then option_map suc (corner_at n lines)
    else (if n == 0 then Some 0 else option_map suc (corner_at (n - 1) lines))

-- why a text is refused: a line doesn't read, or there are too many volumes or corners up to a line
pub data Refusal : Type 0 where
  Line : ℕ → Refusal
  TooMany : ℕ → Refusal

-- the refusal of the lower of two lines, the first that doesn't read, and the second with which
-- there are too many corners; where they are one line, it doesn't read
abbrev pub lower : Option ℕ → Option ℕ → Option Refusal
lower None None = None
lower (Some misfit) None = Some (Line misfit)
lower None (Some corner) = Some (TooMany corner)
lower (Some misfit) (Some corner) =
    if nat_le misfit corner then Some (Line misfit) else Some (TooMany corner)

-- Why a volume is refused that begins at a line behind so many volumes and corners. Where each of
-- its lines reads and it isn't complete, its first line doesn't read; else that line is refused
-- where it begins one volume too many.
abbrev pub trouble : ℕ → ℕ → ℕ → List Reading → Option Refusal
trouble first volumes corners lines =
    let misfit = misfit_after [] lines in
    if is_none misfit && not (is_complete lines) then Some (Line first)
    else (if volumes == 256 then Some (TooMany first)
    else lower (option_map (λ k. first + 1 + k) misfit)
    (option_map (λ k. first + 1 + k) (corner_at (4_096 - corners) lines)))

-- why volumes are refused, the first of which begins at a line behind so many volumes and corners
abbrev pub first_trouble : ℕ → ℕ → ℕ → List (List Reading) → Option Refusal
first_trouble first volumes corners [] = None
first_trouble first volumes corners (lines ∷ rest) =
    option_or (trouble first volumes corners lines)
    (first_trouble (first + 1 + length lines) (volumes + 1)
    (corners + length (corners_in lines)) rest)

-- why lines before the first volume are refused: only what is passed over may stand there
abbrev pub early_trouble : List Reading → Option Refusal
early_trouble lines = option_map (λ k. Line (k + 1)) (position (λ line. not (is_passed line)) lines)

-- why a text is refused, if it is
abbrev pub refusal_of : List Reading → Option Refusal
refusal_of lines =
    option_or (early_trouble (parted lines).0)
    (first_trouble (length (parted lines).0 + 1) 0 0 (parted lines).1)

-- the lines of a text, as they read
abbrev pub readings_of : List ℕ → List Reading
readings_of text = map reading_of (lines_of text)
