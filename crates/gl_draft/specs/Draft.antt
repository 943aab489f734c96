-- What is taken into a task file, its lines, and what a task has of it.
use Rattle.std.specs.Prelude.{◌≡◌, ◌≢◌, ℕ, ◌+◌, ◌-◌, ◌*◌, ◌%◌, ◌==◌, ◌&&◌, filter, if◌then◌else◌, is_none, List, [], ◌∷◌, ◌++◌, Bool, true, false, Option, None, Some}
use Rattle.std.specs.Cmp.Lexicographic.{pointwise}
use Rattle.std.specs.List.{flat_map}
use Rattle.std.specs.Ordering.{int_eq}
use Rattle.jiff_core.specs.Date.{epoch_day}
use Rattle.gl_sphere.specs.Place.{written_vector}
use Rattle.gl_sphere.specs.declared.place.Grid.{Grid}
use Rattle.gl_sphere.specs.declared.place.Vec3.{Vec3}
use Rattle.gl_task_file.specs.Reading.{IsReadFrom, IsRefusalOf}
use Rattle.gl_task.specs.declared.day_type.Finish as task_finish
use Rattle.gl_task.specs.declared.day_type.Finish.TheVariants as finish
use Rattle.gl_task.specs.declared.day_type.Kind as task_kind
use Rattle.gl_task.specs.declared.day_type.Kind.TheVariants as kind
use Rattle.gl_task_file.specs.declared.error.TaskError.{TaskError}
use Rattle.gl_task_file.specs.declared.error.TaskError.TheVariants.{Memory}
use Rattle.gl_task.specs.declared.task.Entrant as task_entrant
use Rattle.gl_task.specs.declared.task.Start as task_start
use Rattle.gl_task.specs.declared.task.Task.{Task}
use Rattle.gl_text.specs.Forms.{is_text}
use Rattle.gl_zone.specs.declared.line.Line as zone_line
use Rattle.gl_zone.specs.declared.zone.Part as zone_part
use Rattle.gl_zone.specs.declared.zone.Part.TheVariants as part
use Rattle.gl_zone.specs.declared.zone.Sector as zone_sector
use Rattle.gl_zone.specs.declared.zone.Zone as task_zone
use Rattle.gl_draft.specs.Causes.{cause_of_task}
use Rattle.gl_desk.specs.declared.error.DeskError.TheVariants as desk
use Rattle.gl_draft.specs.declared.draft.Axis as draft_axis
use Rattle.gl_draft.specs.declared.draft.Axis.TheVariants as axis
use Rattle.gl_draft.specs.declared.draft.Draft.{Draft}
use Rattle.gl_draft.specs.declared.draft.Finish as draft_finish
use Rattle.gl_draft.specs.declared.draft.Finish.TheVariants as taken_finish
use Rattle.gl_draft.specs.declared.draft.Kind as draft_kind
use Rattle.gl_draft.specs.declared.draft.Kind.TheVariants as taken_kind
use Rattle.gl_draft.specs.declared.draft.Part as draft_part
use Rattle.gl_draft.specs.declared.draft.Part.TheVariants as taken_part
use Rattle.gl_draft.specs.declared.draft.Sector as draft_sector
use Rattle.gl_draft.specs.declared.draft.Gate.{Gate}
use Rattle.gl_draft.specs.declared.draft.Zone.{Zone}
use Rattle.gl_draft.specs.declared.entrant.Entrant.{Entrant}
use Rattle.gl_draft.specs.declared.line.Line.{Line}
use Rattle.gl_draft.specs.declared.line.Line.TheVariants.{Head, Said, Open, Radials}
use Rattle.gl_draft.specs.declared.refusal.Cause as code_cause
use Rattle.gl_draft.specs.declared.refusal.Cause.TheVariants as cause
use Rattle.gl_draft.specs.declared.value.Value.TheVariants as value
use Rattle.gl_draft.specs.declared.word.Key.TheVariants as key
use Rattle.gl_draft.specs.declared.word.Section.TheVariants as section
use Rattle.gl_draft.specs.Line.{filled_text, is_spoken, marked_text}
use Rattle.jiff_core.specs.declared.civil.date.Date.{Date}

-- the radials of a sector so far to each side of a direction
abbrev pub first_radial : ℕ → ℕ → ℕ
first_radial middle half_angle = (middle + 360_000 - half_angle) % 360_000

abbrev pub second_radial : ℕ → ℕ → ℕ
second_radial middle half_angle = (middle + half_angle) % 360_000

abbrev pub turned_about : ℕ → ℕ
turned_about way = (way + 180_000) % 360_000

abbrev pub date_lines : Option Date → List Line
date_lines None = Open key.Date 0 ∷ []
date_lines (Some day) = Said key.Date (value.Day day) ∷ []

abbrev pub kind_lines : draft_kind.Kind → List Line
kind_lines taken_kind.Racing = Said key.Kind value.Racing ∷ []
kind_lines (taken_kind.Area None) = Said key.Kind value.Area ∷ Open key.Minimum 0 ∷ []
kind_lines (taken_kind.Area (Some seconds)) =
    Said key.Kind value.Area ∷ Said key.Minimum (value.Amount seconds) ∷ []

-- the start; when it opens and closes is left to fill in
abbrev pub start_lines : Gate → List Line
start_lines start =
    Head section.Start ∷ Said key.At (value.Place start.at) ∷
    Said key.Towards (value.Place start.towards) ∷ Said key.Half (value.Amount start.half) ∷
    Open key.Opening 0 ∷ Open key.Close 0 ∷ []

-- the radials of a sector about a direction
abbrev pub radials_about : ℕ → ℕ → Line
radials_about middle half_angle =
    Radials middle (first_radial middle half_angle) (second_radial middle half_angle)

-- the radials of a sector, or those that it has about one direction and about the opposite one,
-- of which the scorer chooses
abbrev pub axis_lines : draft_axis.Axis → ℕ → List Line
axis_lines (axis.About middle) half_angle =
    Said key.From (value.Amount (first_radial middle half_angle)) ∷
    Said key.To (value.Amount (second_radial middle half_angle)) ∷ []
axis_lines (axis.Either middle) half_angle =
    radials_about middle half_angle ∷ radials_about (turned_about middle) half_angle ∷
    Open key.From 0 ∷ Open key.To 0 ∷ []

-- where a sector begins, unless that is its centre
abbrev pub inner_lines : ℕ → List Line
inner_lines inner =
    if inner == 0 then [] else Said key.Inner (value.Amount inner) ∷ []

abbrev pub part_lines : draft_part.Part → List Line
part_lines (taken_part.Circle radius) =
    Head section.Part ∷ Said key.Radius (value.Amount radius) ∷ []
part_lines (taken_part.Sector sector) =
    Head section.Part ∷ inner_lines sector.inner
    ++ Said key.Outer (value.Amount sector.outer) ∷ []
    ++ axis_lines sector.axis sector.half_angle

abbrev pub second_lines : Option draft_part.Part → List Line
second_lines None = []
second_lines (Some part) = part_lines part

abbrev pub zone_lines : Zone → List Line
zone_lines zone =
    Head section.Zone ∷ Said key.At (value.Place zone.at) ∷ [] ++ part_lines zone.part
    ++ second_lines zone.second

abbrev pub finish_lines : draft_finish.Finish → List Line
finish_lines (taken_finish.Ring at radius) =
    Head section.Finish ∷ Said key.At (value.Place at) ∷ Said key.Ring (value.Amount radius) ∷ []
finish_lines (taken_finish.Gate gate) =
    Head section.Finish ∷ Said key.At (value.Place gate.at) ∷ Said key.Half (value.Amount gate.half) ∷
    Said key.Towards (value.Place gate.towards) ∷ []

-- the number of an entrant, the n-th, or a key that is left to fill in
abbrev pub number_line : ℕ → Option (List ℕ) → Line
number_line n None = Open key.Number n
number_line n (Some number) = Said key.Number (value.Text number)

abbrev pub entrant_lines : ℕ → Entrant → List Line
entrant_lines n entrant =
    Head section.Entrant ∷ number_line n entrant.number ∷ Said key.Name (value.Text entrant.name) ∷
    Said key.Handicap (value.Amount 1_000) ∷ Said key.File (value.Text entrant.file) ∷ []

-- the lines of entrants that count from a number on
abbrev pub entrants_lines : ℕ → List Entrant → List Line
entrants_lines n [] = []
entrants_lines n (entrant ∷ entrants) = entrant_lines n entrant ++ entrants_lines (n + 1) entrants

-- the day; its end is left to fill in
unfoldable pub day_lines : Option Date → draft_kind.Kind → List Line
day_lines date kind = date_lines date ++ kind_lines kind ++ Open key.Closes 0 ∷ []

-- the start, the zones and the finish
unfoldable pub course_lines : Gate → List Zone → draft_finish.Finish → List Line
course_lines start zones finish =
    start_lines start ++ flat_map zone_lines zones ++ finish_lines finish

-- all that a task file says of what was taken, line by line; no local rule is said
abbrev pub lines_of : Draft → List Line
lines_of draft =
    day_lines draft.date draft.kind ++ course_lines draft.start draft.zones draft.finish
    ++ Head section.Rules ∷ [] ++ entrants_lines 0 draft.entrants

-- a value is the one that is known
abbrev pub is_known : {A B : Type 0} → (A → B → Bool) → Option A → B → Bool
is_known is None made = true
is_known is (Some known) made = is known made

-- a point is that of a place
abbrev pub is_at : Vec3 → Grid → Bool
is_at point place =
    int_eq point.x (written_vector place).x && int_eq point.y (written_vector place).y
    && int_eq point.z (written_vector place).z

-- a length in centimetres is so many metres
abbrev pub is_length : ℕ → ℕ → Bool
is_length centimetres metres = centimetres == metres * 100

-- a line has the two places and the half width
abbrev pub has_line : Gate → zone_line.Line → Bool
has_line gate made =
    is_at made.centre gate.at && is_at made.towards gate.towards && is_length made.half gate.half

-- the sector has the radials, where it is known which way it lies
abbrev pub has_radials : draft_axis.Axis → ℕ → zone_sector.Sector → Bool
has_radials (axis.About middle) half_angle made =
    (made.from == first_radial middle half_angle) && (made.to == second_radial middle half_angle)
has_radials (axis.Either middle) half_angle made = true

-- the sector has the centre, the radii and the radials
abbrev pub has_sector : Grid → draft_sector.Sector → zone_sector.Sector → Bool
has_sector centre sector made =
    is_at made.centre centre && is_length made.inner sector.inner
    && is_length made.outer sector.outer
    && has_radials sector.axis sector.half_angle made

-- the part is of the same kind, about the same place, with the same radius
abbrev pub has_part : Grid → draft_part.Part → zone_part.Part → Bool
has_part centre (taken_part.Circle radius) (part.Cylinder made) =
    is_at made.centre centre && is_length made.radius radius
has_part centre (taken_part.Sector sector) (part.Sector made) = has_sector centre sector made
has_part centre taken made = false

-- one part, or two
abbrev pub has_parts : Grid → draft_part.Part → Option draft_part.Part → List zone_part.Part → Bool
has_parts centre first None (made ∷ []) = has_part centre first made
has_parts centre first (Some second) (made ∷ other ∷ []) =
    has_part centre first made && has_part centre second other
has_parts centre first second made = false

-- the zone has the centre and the parts
abbrev pub has_zone : Zone → task_zone.Zone → Bool
has_zone zone made =
    is_at made.centre zone.at && has_parts zone.at zone.part zone.second made.parts

-- the finish has the place and the radius, or is the line
abbrev pub has_finish : draft_finish.Finish → task_finish.Finish → Bool
has_finish (taken_finish.Ring at radius) (finish.Ring point length) =
    is_at point at && is_length length radius
has_finish (taken_finish.Gate gate) (finish.Gate made) = has_line gate made
has_finish taken made = false

-- the kind, and the minimum, where it is known
unfoldable pub has_kind : draft_kind.Kind → task_kind.Kind → Bool
has_kind taken_kind.Racing kind.Racing = true
has_kind (taken_kind.Area minimum) (kind.Area seconds) =
    is_known (λ known made. made == known) minimum seconds
has_kind taken made = false

-- the entrant has the name, the file, the handicap 1000, and the number, where it is known
abbrev pub has_entrant : Entrant → task_entrant.Entrant → Bool
has_entrant entrant made =
    is_known (λ known number. is_text number known) entrant.number made.number
    && is_text made.name entrant.name && (made.handicap == 1_000)
    && is_text made.file entrant.file

-- the task has the start that was taken, which needn't be announced
unfoldable pub has_begin : Gate → task_start.Start → Bool
has_begin start made = has_line start made.line && is_none made.pilot

-- the task has the day, the kind and the start that were taken
abbrev pub has_head : Draft → Task → Bool
has_head draft task =
    is_known (λ known date. int_eq date (epoch_day known)) draft.date task.date
    && has_kind draft.kind task.kind && has_begin draft.start task.start

-- the task has the zones, the finish and the entrants that were taken
abbrev pub has_rest : Draft → Task → Bool
has_rest draft task =
    pointwise has_zone draft.zones task.zones && has_finish draft.finish task.finish
    && pointwise has_entrant draft.entrants task.entrants

-- the task has all that was taken
unfoldable pub has_draft : Draft → Task → Bool
has_draft draft task = has_head draft task && has_rest draft task

-- a text that gives no task, which `score` refuses
pub record IsNoTask (text : List ℕ) : Type 0 where
  pub wrong : TaskError
  pub known : wrong ≢ Memory
  pub refused : IsRefusalOf text wrong

-- the lines say what was taken, with remarks between them
abbrev pub AreLinesOf : Draft → List Line → Type 0
AreLinesOf draft lines = filter is_spoken lines ≡ lines_of draft

-- filled in with some values, lines read as a task that has all that was taken
pub record HasTask (draft : Draft) (lines : List Line) : Type 0 where
  pub task : Task
  pub reads : IsReadFrom (filled_text lines) task
  pub has : has_draft draft task ≡ true

-- The text of a task file for what was taken. A mark stands in it for each value that is left to
-- fill in, and so it gives no task. Filled in with some values it reads as a task that has all that
-- was taken.
pub record IsDraftText (draft : Draft) (text : List ℕ) : Type 0 where
  pub lines : List Line
  pub says : AreLinesOf draft lines
  pub spelled : text ≡ marked_text lines
  pub refused : IsNoTask text
  pub tried : HasTask draft lines

-- Why there is no task file for what was taken: filled in with some values its text gives no task,
-- or one that hasn't all that was taken, or it gives a task with its marks.
pub data IsNoDraft (draft : Draft) (why : code_cause.Cause) : Type 0 where
  refused : (lines : List Line) → AreLinesOf draft lines → (wrong : TaskError)
      → IsRefusalOf (filled_text lines) wrong → why ≡ cause_of_task wrong → IsNoDraft draft why
  differs : (lines : List Line) → AreLinesOf draft lines → (task : Task)
      → IsReadFrom (filled_text lines) task → has_draft draft task ≡ false
      → why ≡ cause.Differs → IsNoDraft draft why
  unmarked : (lines : List Line) → AreLinesOf draft lines → (task : Task)
      → IsReadFrom (marked_text lines) task → why ≡ cause.Differs → IsNoDraft draft why
  memory : why ≡ cause.Stopped desk.Memory → IsNoDraft draft why
