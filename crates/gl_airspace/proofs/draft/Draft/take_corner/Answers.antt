use Rattle.std.proofs.Common.{refl, ap, ◌∙◌, List}
use Rattle.std.specs.Prelude.{map}
use Rattle.gl_sphere.specs.declared.place.Grid.{Grid}
use Rattle.gl_sphere.specs.PlaceText.{place_of}
use Rattle.gl_airspace.proofs.Kept.{says_corner, map-snoc}
use Rattle.gl_airspace.proofs.draft.Draft.take_corner.Goals as goal

pub returns-clause-says : goal.returns-clause-says
returns-clause-says c = λ lines says _.
    says_corner c.args.self.now _ lines c.args.place says refl refl refl refl
    (ap (λ (places : List Grid). map place_of places) c.in_ok-push.ensures.items ∙ map-snoc place_of c.args.self.now.corners.items c.args.place)
