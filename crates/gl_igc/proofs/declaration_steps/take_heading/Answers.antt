use Rattle.std.proofs.Common.{◌≡◌, ◌∙◌, sym, ap, subst, ℕ, List, [], ◌∷◌, ◌++◌}
use Rattle.std.specs.Prelude.{option_map}
use Rattle.gl_igc.specs.Parts.{IsHeaded}
use Rattle.gl_igc.specs.declared.declaration.Count.{Count}
use Rattle.gl_igc.specs.declared.declaration.Heading.{Heading}
use Rattle.gl_igc.specs.declared.declaration.Heading.TheVariants.{Awaited}
use Rattle.gl_sphere.specs.declared.place.Grid.{Grid}
use Rattle.gl_igc.proofs.DeclarationLemmas.{Lines, read-first, declared-damaged, none_before}
use Rattle.gl_igc.proofs.declaration_steps.take_heading.Goals as goal
use Rattle.gl_igc.proofs.declaration_steps.take_heading.Goals.{in-Some, in-None}

-- the heading is the first line
first : (old new : Heading) (lines : Lines) (line : List ℕ) (points : List Grid) → old ≡ Awaited → IsHeaded old lines points → IsHeaded new (line ∷ []) [] → IsHeaded new (lines ++ line ∷ []) points
first old new lines line points awaited of is =
    let none = none_before old lines points awaited of in
    subst (λ (lines : Lines). IsHeaded new (lines ++ line ∷ []) points) (sym none.0) (subst (λ (points : List Grid). IsHeaded new (line ∷ []) points) (sym none.1) is)

pub returns : goal.returns
returns c = λ lines of.
    first c.args.declaration.now.heading c.match-read_count.declaration lines c.args.line.now c.args.declaration.now.points.items c.requires of
    (elim c.match-read_count.branch [
      | in-Some w ↦ subst (λ (heading : Heading). IsHeaded heading (c.args.line.now ∷ []) []) (sym w.declaration-is)
          (read-first w.in-Some.count.places c.args.line.now (sym c.read_count.ensures ∙ ap (option_map (λ (count : Count). count.places)) w.in-Some.is))
      | in-None w ↦ subst (λ (heading : Heading). IsHeaded heading (c.args.line.now ∷ []) []) (sym w.declaration-is)
          (λ more. declared-damaged c.args.line.now more (sym c.read_count.ensures ∙ ap (option_map (λ (count : Count). count.places)) w.in-None.is))
    ])
