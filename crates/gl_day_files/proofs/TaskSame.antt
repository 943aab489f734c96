-- A text has one task.
use Rattle.std.proofs.Common.{◌≡◌, ◌∙◌, refl, sym, ap, subst, ℕ, ◌≤◌, ◌<◌, false, List, [], ◌∷◌, length, map, Option, None, Some, pos}
use Rattle.std.specs.Prelude.{IsTrue, is_some, option_map, option_and_then, ◌≤ℤ◌}
use Rattle.std.specs.List.{list_all}
use Rattle.std.specs.Option.{ForSome}
use Rattle.std.proofs.Props.{props}
use mathlib.Core.HLevel.{is_prop→PathP}
use Rattle.toml.specs.Data.{Data, Members}
use Rattle.gl_sphere.specs.declared.place.Grid.{Grid}
use Rattle.gl_zone.specs.Limits.{greatest_length, least_length, most_parts, whole_turn}
use Rattle.gl_zone.specs.declared.line.Line.{Line}
use Rattle.gl_zone.specs.declared.zone.Cylinder.{Cylinder}
use Rattle.gl_zone.specs.declared.zone.Part.{Part}
use Rattle.gl_zone.specs.declared.zone.Part.TheVariants as zone_part
use Rattle.gl_zone.specs.declared.zone.Sector.{Sector}
use Rattle.gl_zone.specs.declared.zone.Zone.{Zone}
use Rattle.gl_task.specs.declared.day_type.Kind as code_kind
use Rattle.gl_task.specs.declared.day_type.Kind.TheVariants.{Racing, Area}
use Rattle.gl_task.specs.declared.day_type.Finish as code_finish
use Rattle.gl_task.specs.declared.day_type.Finish.TheVariants.{Ring, Gate}
use Rattle.gl_task.specs.declared.task.Entrant.{Entrant}
use Rattle.gl_task.specs.declared.task.LocalRules.{LocalRules}
use Rattle.gl_task.specs.declared.task.PilotStart.{PilotStart}
use Rattle.gl_task.specs.declared.task.Start.{Start}
use Rattle.gl_task.specs.declared.task.Task.{Task}
use Rattle.gl_text.specs.Forms.{is_file_name, is_number, is_name}
use Rattle.gl_task_file.specs.Keys.{table_of}
use Rattle.gl_task.specs.Limits.{first_day, greatest_altitude, greatest_handicap, greatest_noise, last_day, last_second, longest_wait, most_entrants, most_points, most_zones, widest_window}
use Rattle.gl_task_file.specs.Meaning.{Each, IsEntrant, IsFinishOf, IsKind, IsLine, IsPart, IsPilotStart, IsRulesOf, IsSector, IsStart, IsTask, IsZone}
use Rattle.gl_task.specs.Numbers.{none_repeats}
use Rattle.gl_task.specs.Ranges.{has_minimum, has_width_and_way, is_in_range, is_round_its_centre}
use Rattle.gl_task_file.specs.Reading.{IsReadFrom}
use Rattle.gl_task_file.specs.Table.{LineKeys, finish_key, finish_line, rules_key, start_key, start_line, table_under}
use Rattle.gl_day_files.proofs.Readings.{document_same}
use Rattle.gl_text.proofs.Lists.{one_some}

-- a key that isn't there says nothing
lacks : {X Y : Type 0} (o : Option Data) (wanted : Data → Option X) (f : X → Y) (y : Y) → is_some o ≡ false → option_map f (option_and_then wanted o) ≡ Some y → ⊥
lacks None wanted f y none says = cc
lacks (Some value) wanted f y none says = cc

-- as many things of as many values are one list, where each value has one
each_one : {A : Type 0} (Is : Data → A → Type 0) → ((value : Data) (a b : A) → Is value a → Is value b → a ≡ b) → (values : List Data) (xs ys : List A) → Each Is values xs → Each Is values ys
    → xs ≡ ys
each_one Is once [] [] [] is_x is_y = refl
each_one Is once [] [] (y ∷ ys) is_x is_y = absurd is_y
each_one Is once [] (x ∷ xs) ys is_x is_y = absurd is_x
each_one Is once (value ∷ values) [] ys is_x is_y = absurd is_x
each_one Is once (value ∷ values) (x ∷ xs) [] is_x is_y = absurd is_y
each_one Is once (value ∷ values) (x ∷ xs) (y ∷ ys) is_x is_y =
    let first = once value x y is_x.0 is_y.0 in
    let rest = each_one Is once values xs ys is_x.1 is_y.1 in
    λ i. first i ∷ rest i

line_one : (keys : LineKeys) (table : Members) (v w : Line) → IsLine keys table v → IsLine keys table w → v ≡ w
line_one keys table v w is_v is_w =
    let half = one_some _ v.half w.half is_v.half is_w.half in
    λ i. record {
      centre = one_some _ v.centre w.centre is_v.centre is_w.centre i;
      towards = one_some _ v.towards w.towards is_v.towards is_w.towards i;
      half = half i;
      half_at_most = is_prop→PathP (λ j. half j ≤ greatest_length) (λ j. hlevel props) v.half_at_most w.half_at_most i;
    }

pilot_start_one : (v w : PilotStart) → v.wait ≡ w.wait → v.width ≡ w.width → v ≡ w
pilot_start_one v w wait width = λ i. record {
  wait = wait i;
  width = width i;
  wait_at_least = is_prop→PathP (λ j. pos 0 ≤ℤ wait j) (λ j. hlevel props) v.wait_at_least w.wait_at_least i;
  wait_at_most = is_prop→PathP (λ j. wait j ≤ℤ pos longest_wait) (λ j. hlevel props) v.wait_at_most w.wait_at_most i;
  width_at_least = is_prop→PathP (λ j. pos 1 ≤ℤ width j) (λ j. hlevel props) v.width_at_least w.width_at_least i;
  width_at_most = is_prop→PathP (λ j. width j ≤ℤ pos widest_window) (λ j. hlevel props) v.width_at_most w.width_at_most i;
}

pilot_one : (table : Members) (v w : Option PilotStart) → IsPilotStart table v → IsPilotStart table w → v ≡ w
pilot_one table None None is_v is_w = refl
pilot_one table None (Some w) is_v is_w = absurd (lacks _ _ pos w.wait is_v is_w.0)
pilot_one table (Some v) None is_v is_w = absurd (lacks _ _ pos v.wait is_w is_v.0)
pilot_one table (Some v) (Some w) is_v is_w =
    ap Some (pilot_start_one v w (one_some _ v.wait w.wait is_v.0 is_w.0) (one_some _ v.width w.width is_v.1 is_w.1))

start_one : (file : Members) (v w : Start) → IsStart file v → IsStart file w → v ≡ w
start_one file v w is_v is_w =
    let line = line_one start_line (table_under start_key file) v.line w.line is_v.line is_w.line in
    let opens = one_some _ v.opens w.opens is_v.opens is_w.opens in
    let close = one_some _ v.close w.close is_v.close is_w.close in
    λ i. record {
      line = line i;
      opens = opens i;
      close = close i;
      pilot = pilot_one (table_under start_key file) v.pilot w.pilot is_v.pilot is_w.pilot i;
      line_in_range = is_prop→PathP (λ j. IsTrue (has_width_and_way (line j))) (λ j. hlevel props) v.line_in_range w.line_in_range i;
      opens_at_least = is_prop→PathP (λ j. pos 0 ≤ℤ opens j) (λ j. hlevel props) v.opens_at_least w.opens_at_least i;
      ordered = is_prop→PathP (λ j. opens j ≤ℤ close j) (λ j. hlevel props) v.ordered w.ordered i;
      close_at_most = is_prop→PathP (λ j. close j ≤ℤ pos last_second) (λ j. hlevel props) v.close_at_most w.close_at_most i;
    }

rules_one : (table : Members) (v w : LocalRules) → IsRulesOf table v → IsRulesOf table w → v ≡ w
rules_one table v w is_v is_w =
    let ceiling = is_v.ceiling ∙ sym is_w.ceiling in
    let level = is_v.engine_level ∙ sym is_w.engine_level in
    let points = is_v.engine_points ∙ sym is_w.engine_points in
    let loss = is_v.loss ∙ sym is_w.loss in
    let closing = is_v.closing ∙ sym is_w.closing in
    λ i. record {
      ceiling = ceiling i;
      engine_level = level i;
      engine_points = points i;
      loss = loss i;
      closing = closing i;
      ceiling_at_least = is_prop→PathP (λ j. ForSome (ceiling j) (λ metres. pos 0 ≤ℤ metres)) (λ j. hlevel props) v.ceiling_at_least w.ceiling_at_least i;
      ceiling_at_most = is_prop→PathP (λ j. ForSome (ceiling j) (λ metres. metres ≤ℤ pos greatest_altitude)) (λ j. hlevel props) v.ceiling_at_most w.ceiling_at_most i;
      level_at_most = is_prop→PathP (λ j. ForSome (level j) (λ noise. noise ≤ greatest_noise)) (λ j. hlevel props) v.level_at_most w.level_at_most i;
      points_at_most = is_prop→PathP (λ j. points j ≤ most_points) (λ j. hlevel props) v.points_at_most w.points_at_most i;
      loss_at_least = is_prop→PathP (λ j. pos 0 ≤ℤ loss j) (λ j. hlevel props) v.loss_at_least w.loss_at_least i;
      loss_at_most = is_prop→PathP (λ j. loss j ≤ℤ pos greatest_altitude) (λ j. hlevel props) v.loss_at_most w.loss_at_most i;
      closing_at_most = is_prop→PathP (λ j. closing j ≤ greatest_length) (λ j. hlevel props) v.closing_at_most w.closing_at_most i;
    }

cylinder_same : (v w : Cylinder) → v.centre ≡ w.centre → v.radius ≡ w.radius → v ≡ w
cylinder_same v w centre radius = λ i. record {
  centre = centre i;
  radius = radius i;
  radius_at_least = is_prop→PathP (λ j. least_length ≤ radius j) (λ j. hlevel props) v.radius_at_least w.radius_at_least i;
  radius_at_most = is_prop→PathP (λ j. radius j ≤ greatest_length) (λ j. hlevel props) v.radius_at_most w.radius_at_most i;
}

sector_one : (centre : Option Grid) (table : Members) (v w : Sector) → IsSector centre table v → IsSector centre table w → v ≡ w
sector_one centre table v w is_v is_w =
    let inner = is_v.inner ∙ sym is_w.inner in
    let outer = one_some _ v.outer w.outer is_v.outer is_w.outer in
    let from = one_some _ v.from w.from is_v.from is_w.from in
    let to = one_some _ v.to w.to is_v.to is_w.to in
    λ i. record {
      centre = one_some _ v.centre w.centre is_v.at is_w.at i;
      north = one_some _ v.north w.north is_v.north is_w.north i;
      east = one_some _ v.east w.east is_v.east is_w.east i;
      inner = inner i;
      outer = outer i;
      from = from i;
      to = to i;
      outer_at_least = is_prop→PathP (λ j. least_length ≤ outer j) (λ j. hlevel props) v.outer_at_least w.outer_at_least i;
      outer_at_most = is_prop→PathP (λ j. outer j ≤ greatest_length) (λ j. hlevel props) v.outer_at_most w.outer_at_most i;
      ordered = is_prop→PathP (λ j. inner j ≤ outer j) (λ j. hlevel props) v.ordered w.ordered i;
      from_in_turn = is_prop→PathP (λ j. from j < whole_turn) (λ j. hlevel props) v.from_in_turn w.from_in_turn i;
      to_in_turn = is_prop→PathP (λ j. to j < whole_turn) (λ j. hlevel props) v.to_in_turn w.to_in_turn i;
    }

part_one : (centre : Option Grid) (value : Data) (v w : Part) → IsPart centre value v → IsPart centre value w → v ≡ w
part_one centre value (zone_part.Cylinder v) (zone_part.Cylinder w) is_v is_w =
    ap zone_part.Cylinder (cylinder_same v w (one_some _ v.centre w.centre is_v.0 is_w.0) (one_some _ v.radius w.radius is_v.1 is_w.1))
part_one centre value (zone_part.Cylinder v) (zone_part.Sector w) is_v is_w = absurd (lacks _ _ _ _ is_w.0 is_v.1)
part_one centre value (zone_part.Sector v) (zone_part.Cylinder w) is_v is_w = absurd (lacks _ _ _ _ is_v.0 is_w.1)
part_one centre value (zone_part.Sector v) (zone_part.Sector w) is_v is_w = ap zone_part.Sector (sector_one centre (table_of value) v w is_v.1 is_w.1)

zone_one : (value : Data) (v w : Zone) → IsZone value v → IsZone value w → v ≡ w
zone_one value v w is_v is_w =
    let parts = each_one _ (part_one _) _ v.parts w.parts is_v.parts is_w.parts in
    λ i. record {
      centre = one_some _ v.centre w.centre is_v.centre is_w.centre i;
      parts = parts i;
      some_part = is_prop→PathP (λ j. 1 ≤ length (parts j)) (λ j. hlevel props) v.some_part w.some_part i;
      at_most_four = is_prop→PathP (λ j. length (parts j) ≤ most_parts) (λ j. hlevel props) v.at_most_four w.at_most_four i;
    }

kind_one : (file : Members) (v w : code_kind.Kind) → IsKind file v → IsKind file w → v ≡ w
kind_one file Racing Racing is_v is_w = refl
kind_one file Racing (Area minimum) is_v is_w = let no = one_some _ _ _ is_v is_w.0 in cc
kind_one file (Area minimum) Racing is_v is_w = let no = one_some _ _ _ is_v.0 is_w in cc
kind_one file (Area v) (Area w) is_v is_w = ap Area (one_some _ v w is_v.1 is_w.1)

finish_one : (table : Members) (v w : code_finish.Finish) → IsFinishOf table v → IsFinishOf table w → v ≡ w
finish_one table (Ring v r) (Ring w s) is_v is_w =
    let at = one_some _ v w is_v.0 is_w.0 in
    let radius = one_some _ r s is_v.1 is_w.1 in
    λ i. Ring (at i) (radius i)
finish_one table (Ring v r) (Gate w) is_v is_w = absurd (lacks _ _ _ _ is_w.0 is_v.1)
finish_one table (Gate v) (Ring w s) is_v is_w = absurd (lacks _ _ _ _ is_v.0 is_w.1)
finish_one table (Gate v) (Gate w) is_v is_w = ap Gate (line_one finish_line table v w is_v.1 is_w.1)

entrant_one : (value : Data) (v w : Entrant) → IsEntrant value v → IsEntrant value w → v ≡ w
entrant_one value v w is_v is_w =
    let number = one_some _ v.number w.number is_v.number is_w.number in
    let name = one_some _ v.name w.name is_v.name is_w.name in
    let handicap = one_some _ v.handicap w.handicap is_v.handicap is_w.handicap in
    let file = one_some _ v.file w.file is_v.file is_w.file in
    λ i. record {
      number = number i;
      name = name i;
      handicap = handicap i;
      file = file i;
      number_form = is_prop→PathP (λ j. IsTrue (is_number (number j))) (λ j. hlevel props) v.number_form w.number_form i;
      name_form = is_prop→PathP (λ j. IsTrue (is_name (name j))) (λ j. hlevel props) v.name_form w.name_form i;
      handicap_at_least = is_prop→PathP (λ j. 1 ≤ handicap j) (λ j. hlevel props) v.handicap_at_least w.handicap_at_least i;
      handicap_at_most = is_prop→PathP (λ j. handicap j ≤ greatest_handicap) (λ j. hlevel props) v.handicap_at_most w.handicap_at_most i;
      file_form = is_prop→PathP (λ j. IsTrue (is_file_name (file j))) (λ j. hlevel props) v.file_form w.file_form i;
    }

pub task_one : (file : Members) (v w : Task) → IsTask file v → IsTask file w → v ≡ w
task_one file v w is_v is_w =
    let date = one_some _ v.date w.date is_v.date is_w.date in
    let kind = kind_one file v.kind w.kind is_v.kind_is is_w.kind_is in
    let closes = one_some _ v.closes w.closes is_v.closes is_w.closes in
    let airspace = sym is_v.airspace ∙ is_w.airspace in
    let zones = each_one IsZone zone_one _ v.zones w.zones is_v.zones is_w.zones in
    let finish = finish_one (table_under finish_key file) v.finish w.finish is_v.finish is_w.finish in
    let entrants = each_one IsEntrant entrant_one _ v.entrants w.entrants is_v.entrants is_w.entrants in
    λ i. record {
      date = date i;
      kind = kind i;
      closes = closes i;
      airspace = airspace i;
      free = (is_v.free_asked ∙ sym is_w.free_asked) i;
      triangle = (is_v.triangle_asked ∙ sym is_w.triangle_asked) i;
      start = start_one file v.start w.start is_v.start is_w.start i;
      zones = zones i;
      finish = finish i;
      rules = rules_one (table_under rules_key file) v.rules w.rules is_v.rules is_w.rules i;
      entrants = entrants i;
      date_at_least = is_prop→PathP (λ j. pos first_day ≤ℤ date j) (λ j. hlevel props) v.date_at_least w.date_at_least i;
      date_at_most = is_prop→PathP (λ j. date j ≤ℤ pos last_day) (λ j. hlevel props) v.date_at_most w.date_at_most i;
      minimum_in_range = is_prop→PathP (λ j. IsTrue (has_minimum (kind j))) (λ j. hlevel props) v.minimum_in_range w.minimum_in_range i;
      closes_at_least = is_prop→PathP (λ j. pos 1 ≤ℤ closes j) (λ j. hlevel props) v.closes_at_least w.closes_at_least i;
      closes_at_most = is_prop→PathP (λ j. closes j ≤ℤ pos last_second) (λ j. hlevel props) v.closes_at_most w.closes_at_most i;
      airspace_form = is_prop→PathP (λ j. ForSome (airspace j) (λ file. IsTrue (is_file_name file))) (λ j. hlevel props) v.airspace_form w.airspace_form i;
      some_zone = is_prop→PathP (λ j. 1 ≤ length (zones j)) (λ j. hlevel props) v.some_zone w.some_zone i;
      at_most_eight_zones = is_prop→PathP (λ j. length (zones j) ≤ most_zones) (λ j. hlevel props) v.at_most_eight_zones w.at_most_eight_zones i;
      zones_round = is_prop→PathP (λ j. IsTrue (list_all is_round_its_centre (zones j))) (λ j. hlevel props) v.zones_round w.zones_round i;
      finish_in_range = is_prop→PathP (λ j. IsTrue (is_in_range (finish j))) (λ j. hlevel props) v.finish_in_range w.finish_in_range i;
      some_entrant = is_prop→PathP (λ j. 1 ≤ length (entrants j)) (λ j. hlevel props) v.some_entrant w.some_entrant i;
      at_most_200_entrants = is_prop→PathP (λ j. length (entrants j) ≤ most_entrants) (λ j. hlevel props) v.at_most_200_entrants w.at_most_200_entrants i;
      numbers_differ = is_prop→PathP (λ j. IsTrue (none_repeats (map (λ (entrant : Entrant). entrant.number) (entrants j)))) (λ j. hlevel props) v.numbers_differ w.numbers_differ i;
    }

-- a text has one task
pub task_same : (text : List ℕ) (v w : Task) → IsReadFrom text v → IsReadFrom text w → v ≡ w
task_same text v w is_v is_w =
    task_one is_w.file v w (subst (λ (file : Members). IsTask file v) (document_same text is_v.file is_w.file is_v.document is_w.document) is_v.says) is_w.says
