use Rattle.std.proofs.Common.{◌∙◌, sym, ap, subst, List, [], ◌∷◌, ◌++◌, arith}
use Rattle.std.specs.Prelude.{option_map}
use Rattle.gl_sphere.specs.PlaceText.{place_of}
use Rattle.gl_sphere.specs.declared.place.Grid.{Grid}
use Rattle.gl_igc.specs.Parts.{IsHeaded, IsRead}
use Rattle.gl_igc.specs.declared.declaration.Heading.{Heading}
use Rattle.gl_igc.proofs.DeclarationLemmas.{read-over, read-more, read-stop}
use Rattle.gl_igc.proofs.declaration_steps.take_place.Goals as goal

pub returns-then-len-count : goal.returns-then-len-count
returns-then-len-count c = λ lines of.
    let points = c.args.declaration.now.points.items in
    let read : IsRead c.args.count.places lines points = subst (λ (heading : Heading). IsHeaded heading lines points) c.requires of in
    subst (λ (heading : Heading). IsHeaded heading (lines ++ c.args.line.now ∷ []) points) (sym c.requires) (read-over c.args.count.places lines points c.args.line.now read (omega arith))

pub returns-in_ok-push-in-Some : goal.returns-in_ok-push-in-Some
returns-in_ok-push-in-Some c = λ lines of.
    let points = c.args.declaration.now.points.items in
    let read : IsRead c.args.count.places lines points = subst (λ (heading : Heading). IsHeaded heading lines points) c.requires of in
    let reads = sym c.read_declared_place.ensures ∙ ap (option_map place_of) c.in-Some.is in
    let more = read-more c.args.count.places lines points c.args.line.now c.in-Some.place read (omega arith) reads in
    subst (λ (heading : Heading). IsHeaded heading (lines ++ c.args.line.now ∷ []) c.push.new.self.items) (sym c.requires)
    (subst (λ (points : List Grid). IsRead c.args.count.places (lines ++ c.args.line.now ∷ []) points) (sym c.in_ok-push-in-Some.ensures.items) more)

pub returns-in-None : goal.returns-in-None
returns-in-None c = λ lines of.
    let points = c.args.declaration.now.points.items in
    let read : IsRead c.args.count.places lines points = subst (λ (heading : Heading). IsHeaded heading lines points) c.requires of in
    read-stop c.args.count.places lines points c.args.line.now read (omega arith) (sym c.read_declared_place.ensures ∙ ap (option_map place_of) c.in-None.is)
