-- The parts of a zone that is read are round its centre.
use Rattle.std.proofs.Common.{◌≡◌, refl, ap, true, List, [], ◌∷◌, Option, Some, ℤ}
use Rattle.std.specs.Prelude.{IsTrue, option_map}
use Rattle.std.specs.List.{list_all}
use Rattle.std.specs.Ordering.{int_eq}
use Rattle.std.proofs.lemmas.Bool.{and_from}
use Rattle.std.proofs.lemmas.Bool.Decides.{Decides-int_eq}
use Rattle.toml.specs.Data.{Data}
use Rattle.gl_sphere.specs.Place.{written_vector}
use Rattle.gl_sphere.specs.declared.place.Grid.{Grid}
use Rattle.gl_sphere.specs.declared.place.Vec3.{Vec3}
use Rattle.gl_zone.specs.declared.zone.Part.{Part}
use Rattle.gl_zone.specs.declared.zone.Part.TheVariants as zone_part
use Rattle.gl_zone.specs.declared.zone.Zone.{Zone}
use Rattle.gl_task_file.specs.Meaning.{Each, IsPart, IsZone}
use Rattle.gl_task.specs.SamePoint.{is_same_vector}
use Rattle.gl_task.specs.Ranges.{is_round, is_round_its_centre}
use Rattle.gl_text.proofs.Lists.{one_some}

same_number : (a b : ℤ) → a ≡ b → int_eq a b ≡ true
same_number a b is = (Decides-int_eq a b).1 is

same_vector : (a b : Vec3) → a ≡ b → is_same_vector a b ≡ true
unfolding is_same_vector
same_vector a b is =
    and_from _ _ (and_from _ _ (same_number a.x b.x (ap (λ (v : Vec3). v.x) is)) (same_number a.y b.y (ap (λ (v : Vec3). v.y) is))) (same_number a.z b.z (ap (λ (v : Vec3). v.z) is))

part_is_round : (at : Option Grid) (centre : Vec3) (value : Data) (part : Part) → option_map written_vector at ≡ Some centre → IsPart at value part → is_round centre part ≡ true
part_is_round at centre value (zone_part.Cylinder cylinder) is says = same_vector centre cylinder.centre (one_some _ _ _ is says.0)
part_is_round at centre value (zone_part.Sector sector) is says = same_vector centre sector.centre (one_some _ _ _ is says.1.at)

parts_are_round : (at : Option Grid) (centre : Vec3) (values : List Data) (parts : List Part) → option_map written_vector at ≡ Some centre → Each (IsPart at) values parts
    → list_all (is_round centre) parts ≡ true
parts_are_round at centre [] [] is each = refl
parts_are_round at centre [] (part ∷ parts) is each = absurd each
parts_are_round at centre (value ∷ values) [] is each = absurd each
parts_are_round at centre (value ∷ values) (part ∷ parts) is each =
    and_from _ _ (part_is_round at centre value part is each.0) (parts_are_round at centre values parts is each.1)

zone_is_round : (value : Data) (zone : Zone) → IsZone value zone → is_round_its_centre zone ≡ true
zone_is_round value zone is = parts_are_round _ zone.centre _ zone.parts is.centre is.parts

pub zones_are_round : (values : List Data) (zones : List Zone) → Each IsZone values zones → IsTrue (list_all is_round_its_centre zones)
zones_are_round [] [] each = refl
zones_are_round [] (zone ∷ zones) each = absurd each
zones_are_round (value ∷ values) [] each = absurd each
zones_are_round (value ∷ values) (zone ∷ zones) each =
    and_from _ _ (zone_is_round value zone each.0) (zones_are_round values zones each.1)
