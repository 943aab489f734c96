-- What a task says of the day, by the keys of its file.
use Rattle.std.specs.Prelude.{◌≡◌, ℕ, ◌*◌, List, [], ◌∷◌, Option, None, Some, option_map, unwrap_or, Bool, true, false, pos}
use Rattle.std.specs.List.{list_any}
use Rattle.gl_sphere.specs.Place.{written_vector, written_north, written_east}
use Rattle.gl_sphere.specs.declared.place.Grid.{Grid}
use Rattle.gl_zone.specs.declared.line.Line.{Line}
use Rattle.gl_zone.specs.declared.zone.Part.{Part}
use Rattle.gl_zone.specs.declared.zone.Part.TheVariants as zone_part
use Rattle.gl_zone.specs.declared.zone.Sector.{Sector}
use Rattle.gl_zone.specs.declared.zone.Zone.{Zone}
use Rattle.toml.specs.Data.{Data, Members}
use Rattle.gl_task.specs.declared.day_type.Kind as code_kind
use Rattle.gl_task.specs.declared.day_type.Kind.TheVariants.{Racing, Area}
use Rattle.gl_task.specs.declared.day_type.Finish as code_finish
use Rattle.gl_task.specs.declared.day_type.Finish.TheVariants.{Ring, Gate}
use Rattle.gl_task.specs.declared.task.Entrant.{Entrant}
use Rattle.gl_task.specs.declared.task.LocalRules.{LocalRules}
use Rattle.gl_task.specs.declared.task.PilotStart.{PilotStart}
use Rattle.gl_task.specs.declared.task.Start.{Start}
use Rattle.gl_task.specs.declared.task.Task.{Task}
use Rattle.gl_task_file.specs.Keys.{table_of}
use Rattle.gl_task_file.specs.Table.{LineKeys, has, list_under, says, table_under, airspace_key, ceiling_key, close_key, closes_key, closing_key, date_key, engine_level_key, engine_points_key, entrant_key, file_key, finish_at, finish_key, finish_line, from_key, handicap_key, inner_key, kind_key, lists_key, loss_key, minimum_key, name_key, number_key, open_key, outer_key, part_key, radius_key, ring_key, rules_key, start_key, start_line, to_key, wait_key, width_key, zone_at, zone_key}
use Rattle.gl_task_file.specs.Values.{ListWord, racing, area, free, triangle, list_word}

-- metres in centimetres
abbrev pub centimetres : ℕ → ℕ
centimetres metres = 100 * metres

-- a line by its keys in a table
pub record IsLine (keys : LineKeys) (table : Members) (line : Line) : Type 0 where
  pub centre : option_map written_vector (says keys.at table) ≡ Some line.centre
  pub towards : option_map written_vector (says (keys.towards (says keys.at table)) table)
      ≡ Some line.towards
  pub half : option_map centimetres (says keys.half table) ≡ Some line.half

-- the first and the last second of the start by the keys of its table
abbrev pub opens_by : Members → Option ℕ
opens_by table = says open_key table

abbrev pub close_by : Members → Option ℕ
close_by table = says (close_key (unwrap_or (opens_by table) 0)) table

-- how a start is announced by the keys of its table: not at all where it has no wait, else with the
-- wait and the width
abbrev pub IsPilotStart : Members → Option PilotStart → Type 0
IsPilotStart table None = has wait_key table ≡ false
IsPilotStart table (Some pilot) =
    (option_map pos (says wait_key table) ≡ Some pilot.wait)
    × (option_map pos (says width_key table) ≡ Some pilot.width)

pub record IsStart (file : Members) (start : Start) : Type 0 where
  pub line : IsLine start_line (table_under start_key file) start.line
  pub opens : option_map pos (opens_by (table_under start_key file)) ≡ Some start.opens
  pub close : option_map pos (close_by (table_under start_key file)) ≡ Some start.close
  pub pilot : IsPilotStart (table_under start_key file) start.pilot

-- a finish by the keys of its table: a ring where it has one, else a gate
abbrev pub IsFinishOf : Members → code_finish.Finish → Type 0
IsFinishOf table (Ring at radius) =
    (option_map written_vector (says finish_at table) ≡ Some at)
    × (option_map centimetres (says ring_key table) ≡ Some radius)
IsFinishOf table (Gate line) = (has ring_key table ≡ false) × IsLine finish_line table line

abbrev pub IsFinish : Members → code_finish.Finish → Type 0
IsFinish file finish = IsFinishOf (table_under finish_key file) finish

-- the local rules by the keys of their table, with what holds for a key that is left out
pub record IsRulesOf (table : Members) (rules : LocalRules) : Type 0 where
  pub ceiling : rules.ceiling ≡ option_map pos (says ceiling_key table)
  pub engine_level : rules.engine_level ≡ says engine_level_key table
  pub engine_points : rules.engine_points ≡ unwrap_or (says engine_points_key table) 0
  pub loss : rules.loss ≡ pos (unwrap_or (says loss_key table) 1_000)
  pub closing : rules.closing ≡ centimetres (unwrap_or (says closing_key table) 1_000)

abbrev pub IsRules : Members → LocalRules → Type 0
IsRules file rules = IsRulesOf (table_under rules_key file) rules

-- a sector of a zone with a centre, by the keys of its table
abbrev pub inner_by : Members → ℕ
inner_by table = unwrap_or (says inner_key table) 0

pub record IsSector (centre : Option Grid) (table : Members) (sector : Sector) : Type 0 where
  pub at : option_map written_vector centre ≡ Some sector.centre
  pub north : option_map written_north centre ≡ Some sector.north
  pub east : option_map written_east centre ≡ Some sector.east
  pub inner : sector.inner ≡ centimetres (inner_by table)
  pub outer : option_map centimetres (says (outer_key (inner_by table)) table) ≡ Some sector.outer
  pub from : says from_key table ≡ Some sector.from
  pub to : says to_key table ≡ Some sector.to

-- a part of a zone with a centre: a cylinder where it has a radius, else a sector
abbrev pub IsPart : Option Grid → Data → Part → Type 0
IsPart centre value (zone_part.Cylinder cylinder) =
    (option_map written_vector centre ≡ Some cylinder.centre)
    × (option_map centimetres (says radius_key (table_of value)) ≡ Some cylinder.radius)
IsPart centre value (zone_part.Sector sector) =
    (has radius_key (table_of value) ≡ false) × IsSector centre (table_of value) sector

-- as many things as values, each of which is that of its value
abbrev pub Each : {A : Type 0} → (Data → A → Type 0) → List Data → List A → Type 0
Each Is [] [] = Unit {0}
Each Is [] (x ∷ xs) = ⊥
Each Is (value ∷ values) [] = ⊥
Each Is (value ∷ values) (x ∷ xs) = Is value x × Each Is values xs

-- a zone by the keys of its table
pub record IsZone (value : Data) (zone : Zone) : Type 0 where
  pub centre : option_map written_vector (says zone_at (table_of value)) ≡ Some zone.centre
  pub parts : Each (IsPart (says zone_at (table_of value)))
      (list_under part_key (table_of value)) zone.parts

-- the kind of a task by its keys
abbrev pub IsKind : Members → code_kind.Kind → Type 0
IsKind file Racing = says kind_key file ≡ Some racing
IsKind file (Area minimum) =
    (says kind_key file ≡ Some area) × (says minimum_key file ≡ Some minimum)

-- a word asks for the free distance, or for the triangle
abbrev pub is_free : Option ListWord → Bool
is_free (Some free) = true
is_free _ = false

abbrev pub is_triangle : Option ListWord → Bool
is_triangle (Some triangle) = true
is_triangle _ = false

abbrev pub asks_free : List Data → Bool
asks_free words = list_any (λ word. is_free (list_word word)) words

abbrev pub asks_triangle : List Data → Bool
asks_triangle words = list_any (λ word. is_triangle (list_word word)) words

-- an entrant by the keys of its table
pub record IsEntrant (value : Data) (entrant : Entrant) : Type 0 where
  pub number : says number_key (table_of value) ≡ Some entrant.number
  pub name : says name_key (table_of value) ≡ Some entrant.name
  pub handicap : says handicap_key (table_of value) ≡ Some entrant.handicap
  pub file : says file_key (table_of value) ≡ Some entrant.file

-- a task by the keys of its file
pub record IsTask (file : Members) (task : Task) : Type 0 where
  pub date : says date_key file ≡ Some task.date
  pub kind_is : IsKind file task.kind
  pub closes : option_map pos (says closes_key file) ≡ Some task.closes
  pub airspace : says airspace_key file ≡ task.airspace
  pub free_asked : task.free ≡ asks_free (list_under lists_key file)
  pub triangle_asked : task.triangle ≡ asks_triangle (list_under lists_key file)
  pub start : IsStart file task.start
  pub zones : Each IsZone (list_under zone_key file) task.zones
  pub finish : IsFinish file task.finish
  pub rules : IsRules file task.rules
  pub entrants : Each IsEntrant (list_under entrant_key file) task.entrants
