use Rattle.std.proofs.Common.{◌≡◌, ◌∙◌, refl, subst, true, drop, List, arith}
use Rattle.std.proofs.lemmas.Grind.{common_steps}
use Rattle.gl_airspace.specs.declared.step.Step.{Step}
use Rattle.gl_airspace.specs.declared.step.Step.TheVariants.{Begins, Fits}
use Rattle.gl_airspace.specs.declared.part.Part.{Part}
use Rattle.gl_airspace.specs.Code.Parts.{Says, IsStep, SaysAfter}
use Rattle.gl_airspace.specs.Line.{reading_of}
use Rattle.gl_airspace.specs.Code.Going.{IsGoing}
use Rattle.gl_airspace.specs.Volumes.{Reading, begins, readings_of}
use Rattle.gl_airspace.proofs.Goings.{corners_said, going_on, over_at_next, readings_on, same_going}
use Rattle.gl_airspace.proofs.part.read_part.Goals as goal

pub returns-in-Begins-clause-goes : goal.returns-in-Begins-clause-goes
returns-in-Begins-clause-goes c =
    let going = c.lines.invariant.going in
    let line = reading_of (Rattle.std.specs.List.slice_range c.args.text.now c.in-Some.line.from c.in-Some.line.to) in
    let after : Part = record c.lines.part { draft = c.take_step.new.draft } in
    let is : c.in_ok-take_step.field-0 ≡ Begins = c.in-Begins.is in
    let begun : begins line ≡ true = subst (λ (s : Step). IsStep going.gone line s) is (c.in_ok-take_step.ensures.step going.gone going.says) in
    let says = λ (gone : List Reading) (told : Says c.lines.part.draft gone). subst (λ (s : Step). SaysAfter c.take_step.new.draft gone line s) is (c.in_ok-take_step.ensures.says gone told) in
    over_at_next c.args.text.now _ (readings_of (drop c.args.at c.args.text.now)) c.args.room c.in-Some.line.next after c.lines.invariant.within c.in-Some.ensures.line begun
    (same_going _ _ c.args.room c.lines.part after says refl refl refl going)

pub lines-preserved : goal.lines-preserved
lines-preserved c =
    let going = c.lines.invariant.going in
    let line = reading_of (Rattle.std.specs.List.slice_range c.args.text.now c.in-Some.line.from c.in-Some.line.to) in
    let is : c.in_ok-take_step.field-0 ≡ Fits = c.in-Fits.is in
    let step = λ (gone : List Reading) (told : Says c.lines.part.draft gone). subst (λ (s : Step). IsStep gone line s) is (c.in_ok-take_step.ensures.step gone told) in
    let says = λ (gone : List Reading) (told : Says c.lines.part.draft gone). subst (λ (s : Step). SaysAfter c.take_step.new.draft gone line s) is (c.in_ok-take_step.ensures.says gone told) in
    record {
      within = grind (arith, common_steps);
      counted = grind (arith, common_steps);
      going =
          going_on (readings_of (drop c.args.at c.args.text.now)) (readings_of (drop c.in-Some.line.next c.args.text.now)) line c.args.room c.len-corners.result c.len-after.result c.lines.part _
          (step going.gone going.says).0 (λ gone told. (step gone told).1) says
          (λ gone told. c.len-corners.ensures ∙ corners_said c.lines.part.draft gone told)
          (λ gone told. c.len-after.ensures ∙ corners_said c.take_step.new.draft gone told)
          refl refl c.surplus_after-part.ensures
          (subst (λ (rest : List Reading). IsGoing (readings_of (drop c.args.at c.args.text.now)) rest c.args.room c.lines.part)
          (readings_on c.args.text.now _ c.lines.part.next c.in-Some.line.next c.in-Some.ensures.line) going);
    }
