use Rattle.std.proofs.Common.{◌∙◌, sym, ap, subst, List, Some, map, arith}
use Rattle.gl_sphere.specs.PlaceText.{place_of}
use Rattle.gl_sphere.specs.declared.place.Grid.{Grid}
use Rattle.gl_igc.specs.Parts.{IsHeaded, IsRead}
use Rattle.gl_igc.specs.declared.declaration.Heading.{Heading}
use Rattle.gl_igc.proofs.DeclarationLemmas.{declared-whole, declared-short, declared-other}
use Rattle.gl_igc.proofs.declaration_steps.declared.Goals as goal
use Rattle.gl_igc.proofs.declaration_steps.declared.Goals.{in_default-via-in-Read+else-len-count, in_default-via-in_default}

pub returns-in-Read : goal.returns-in-Read
returns-in-Read c = λ lines of.
    let points = c.args.declaration.points.items in
    let read : IsRead c.in-Read.count.places lines points = subst (λ (heading : Heading). IsHeaded heading lines points) c.in-Read.is of in
    ap (λ (points : List Grid). Some (map place_of points)) c.from_vec.ensures ∙ sym (declared-whole c.in-Read.count.places lines points read (omega arith))

pub returns-in_default : goal.returns-in_default
returns-in_default c = λ lines of.
    let points = c.args.declaration.points.items in
    elim c.in_default.branch [
      | in_default-via-in-Read+else-len-count w ↦
          let read : IsRead w.in-Read.count.places lines points = subst (λ (heading : Heading). IsHeaded heading lines points) w.in-Read.is of in
          sym (declared-short w.in-Read.count.places lines points read (λ same. w.if-len-count.false (omega arith)))
      | in_default-via-in_default w ↦ sym (declared-other c.args.declaration.heading lines points w.in_default.not-Read of)
    ]
