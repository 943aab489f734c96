-- The I lines of a recording: which further columns its B lines have.
use Rattle.std.specs.Prelude.{ℕ, zero, suc, nat_le, nat_eq, ◌==◌, ◌&&◌, codes, if◌then◌else◌, List, [], ◌∷◌, length, drop, slice_index, Option, None, Some}
use Rattle.std.specs.List.{starts_with}
use Rattle.std.specs.Str.{byte}
use Rattle.gl_text.specs.Digits.{◌>>=◌, columns, number_of}

-- the columns of a field, from the first to the last
pub record Span : Type 0 where
  pub start : ℕ
  pub finish : ℕ

-- a code of three letters and the columns of its field
pub record Group : Type 0 where
  pub code : List ℕ
  pub span : Span

-- the fields that count: the decimals of latitude and longitude, and the engine noise
pub record Extension : Type 0 where
  pub lad : Option Span
  pub lod : Option Span
  pub enl : Option Span

-- the first column that a field may have
abbrev pub first_free_column : ℕ
first_free_column = 36

-- the group that a text begins with: two digits start, two digits finish, three letters; none where
-- it is cut, a digit is wanting, the start is below 36 or the finish below the start
unfoldable pub group_of : List ℕ → Option Group
group_of text =
    if nat_le 7 (length text) then
    (do
      start ← number_of (columns 1 2 text)
      finish ← number_of (columns 3 4 text)
      let span : Span = record { start = start; finish = finish } in
          if nat_le first_free_column start && nat_le start finish
          then Some (record { code = columns 5 7 text; span = span }) else None)
    else None

-- the first n groups of a text
abbrev pub groups_of : ℕ → List ℕ → Option (List Group)
groups_of zero text = Some []
groups_of (suc n) text = do
  group ← group_of text
  groups ← groups_of n (drop 7 text)
  Some (group ∷ groups)

-- the columns of the first group with this code
abbrev pub span_of : List ℕ → List Group → Option Span
span_of code [] = None
span_of code (group ∷ groups) =
    if starts_with nat_eq group.code code then Some group.span else span_of code groups

-- the fields of some groups
abbrev pub extension_of : List Group → Extension
extension_of groups = record {
  lad = span_of (codes "LAD") groups;
  lod = span_of (codes "LOD") groups;
  enl = span_of (codes "ENL") groups;
}

-- the fields that an undamaged I line gives: I, two digits n, n groups; none of any other line
unfoldable pub extension_of_line : List ℕ → Option Extension
extension_of_line line =
    if (slice_index line 0 == byte "I") && nat_le 3 (length line) then
    (do
      n ← number_of (columns 2 3 line)
      groups ← groups_of n (drop 3 line)
      Some (extension_of groups))
    else None

-- the fields where no I line stands above
abbrev pub no_extension : Extension
no_extension = record { lad = None; lod = None; enl = None }
