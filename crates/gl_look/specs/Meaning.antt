-- Which keys of a task file mean something where they stand.
use Rattle.std.specs.Prelude.{ℕ, ◌&&◌, ◌||◌, not, codes, Bool, true, false, is_some, List, Option, None, Some, if◌then◌else◌}
use Rattle.std.specs.Option.{option_and_then}
use Rattle.toml.specs.Data.{Members, as_str, get_member}
use Rattle.gl_text.specs.Forms.{is_text}
use Rattle.gl_look.specs.declared.told.Section as code
use Rattle.gl_look.specs.declared.told.Section.TheVariants as section
use Rattle.gl_look.specs.declared.told.Slip as code_slip
use Rattle.gl_look.specs.declared.told.Slip.TheVariants as slip

-- a table has a key
abbrev pub has : List ℕ → Members → Bool
has name table = is_some (get_member name table)

-- this was said
abbrev pub is_said : List ℕ → Option (List ℕ) → Bool
is_said text None = false
is_said text (Some said) = is_text said text

-- a table has a text under a key
abbrev pub says : List ℕ → List ℕ → Members → Bool
says name text table = is_said text (option_and_then as_str (get_member name table))

-- the keys at the top; an area task has a minimum
unfoldable pub is_day_key : List ℕ → Members → Bool
is_day_key key table =
    is_text key (codes "date") || is_text key (codes "kind") || is_text key (codes "closes")
    || is_text key (codes "airspace") || is_text key (codes "lists")
    || (is_text key (codes "minimum") && not (says (codes "kind") (codes "racing") table))

-- the sections and the lists of a task file
unfoldable pub is_section : List ℕ → Bool
is_section key =
    is_text key (codes "start") || is_text key (codes "zone") || is_text key (codes "finish")
    || is_text key (codes "rules") || is_text key (codes "entrant")

-- the start; a width goes with a wait
unfoldable pub is_start_key : List ℕ → Members → Bool
is_start_key key table =
    is_text key (codes "at") || is_text key (codes "towards") || is_text key (codes "half")
    || is_text key (codes "open") || is_text key (codes "close") || is_text key (codes "wait")
    || (is_text key (codes "width") && has (codes "wait") table)

-- a zone: its centre and its parts
unfoldable pub is_zone_key : List ℕ → Bool
is_zone_key key = is_text key (codes "at") || is_text key (codes "part")

-- a sector's distances and radials
unfoldable pub is_sector_key : List ℕ → Bool
is_sector_key key =
    is_text key (codes "inner") || is_text key (codes "outer")
    || is_text key (codes "from") || is_text key (codes "to")

-- a part of a zone: a circle, which has a radius alone, or a sector
unfoldable pub is_part_key : List ℕ → Members → Bool
is_part_key key table =
    is_text key (codes "radius") || (is_sector_key key && not (has (codes "radius") table))

-- the finish: a ring, which has a radius alone, or a line
unfoldable pub is_finish_key : List ℕ → Members → Bool
is_finish_key key table =
    is_text key (codes "at") || is_text key (codes "ring")
    || ((is_text key (codes "half") || is_text key (codes "towards"))
    && not (has (codes "ring") table))

-- the local rules; the points of a running engine go with the level from which it runs
unfoldable pub is_rule_key : List ℕ → Members → Bool
is_rule_key key table =
    is_text key (codes "ceiling") || is_text key (codes "engine_level")
    || is_text key (codes "loss") || is_text key (codes "closing")
    || (is_text key (codes "engine_points") && has (codes "engine_level") table)

unfoldable pub is_entrant_key : List ℕ → Bool
is_entrant_key key =
    is_text key (codes "number") || is_text key (codes "name")
    || is_text key (codes "handicap") || is_text key (codes "file")

-- a key means something in a table of this section
abbrev pub is_meant : code.Section → List ℕ → Members → Bool
is_meant section.Day key table = is_section key || is_day_key key table
is_meant section.Start key table = is_start_key key table
is_meant section.Zone key table = is_zone_key key
is_meant section.Part key table = is_part_key key table
is_meant section.Finish key table = is_finish_key key table
is_meant section.Rules key table = is_rule_key key table
is_meant section.Entrant key table = is_entrant_key key

-- what is wrong with a key of a table: it is still to be filled in, or means nothing there
abbrev pub slip_of_key : code.Section → List ℕ → Members → Option code_slip.Slip
slip_of_key section key table =
    if says key (codes "FILL IN") table then Some slip.FillIn
    else (if is_meant section key table then None else Some slip.Idle)
