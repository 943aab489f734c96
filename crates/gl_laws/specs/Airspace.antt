-- Why an airspace text is refused, line by line. Each line is judged by the lines above and below
-- it, in any order.
use Rattle.std.specs.Prelude.{◌≡◌, ◌+◌, ◌&&◌, ◌==◌, Bool, is_none, is_some, not, if◌then◌else◌, List, [], ◌∷◌, ◌++◌, length, Option, None, Some}
use Rattle.std.specs.List.{count_by}
use Rattle.std.specs.Option.{option_or}
use Rattle.gl_airspace.specs.Volumes.{Reading, Refusal, Line, TooMany, begins, corner_of, corners_in, fits, is_complete, is_passed, misfit_after, parted, refusal_of}

-- the lines of the volume so far, below the last line that begins one; none before the first volume
abbrev pub volume_above : List Reading → Option (List Reading)
volume_above [] = None
volume_above (line ∷ lines) =
    option_or (volume_above lines) (if begins line then Some lines else None)

-- the lines of the volume that a line begins
abbrev pub volume_below : List Reading → List Reading
volume_below below = (parted below).0

-- a line behind those of its volume so far doesn't read in its place: before the first volume it
-- has to be passed over, and in a volume it has to fit
abbrev pub is_misfit : Option (List Reading) → Reading → Bool
is_misfit None line = not (is_passed line)
is_misfit (Some volume) line = not (fits volume line)

-- the line that begins a volume doesn't read where each line of the volume fits and it isn't whole
abbrev pub is_unfinished : List Reading → Bool
is_unfinished volume = is_none (misfit_after [] volume) && not (is_complete volume)

-- a line doesn't read in its place
abbrev pub is_unread : List Reading → Reading → List Reading → Bool
is_unread above line below =
    if begins line then is_unfinished (volume_below below)
    else is_misfit (volume_above above) line

-- a line begins the 257th volume of the text, or is its 4,097th corner
abbrev pub is_surplus : List Reading → Reading → Bool
is_surplus above line =
    if begins line then count_by begins above == 256
    else is_some (corner_of line) && (length (corners_in above) == 4_096)

-- what is wrong with a line, if anything is
abbrev pub wrong_with : List Reading → Reading → List Reading → Option Refusal
wrong_with above line below =
    if is_unread above line below then Some (Line (length above + 1))
    else (if is_surplus above line then Some (TooMany (length above + 1)) else None)

-- what is wrong with the first of the lines below others with which anything is
abbrev pub first_wrong : List Reading → List Reading → Option Refusal
first_wrong above [] = None
first_wrong above (line ∷ below) =
    option_or (wrong_with above line below) (first_wrong (above ++ line ∷ []) below)

-- a text is refused for what is wrong with its first line with which anything is
abbrev pub FirstLineDecides : Type 0
FirstLineDecides = (lines : List Reading) → refusal_of lines ≡ first_wrong [] lines
