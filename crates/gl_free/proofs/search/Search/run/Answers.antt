use Rattle.std.proofs.Common.{◌∙◌, ap, ◌-◌, ℕ, ℤ, pos, ◌-ℤ◌, w32, refl, sym, subst, length, List, None, Some, arith, rules}
use Rattle.std.specs.Prelude.{FitsSigned}
use Rattle.std.specs.Int.{int_min}
use Rattle.std.proofs.lemmas.Int.{to_z-of_z}
use Rattle.gl_igc.specs.declared.fix.Fix.{Fix}
use Rattle.gl_free.specs.Code.Search.{IsHalted, IsOver}
use Rattle.gl_free.proofs.RangeLemmas.{run-over, starts-found}
use Rattle.gl_free.proofs.search.Search.run.Goals as goal

pub middle-requires-clause-found : goal.middle-requires-clause-found
middle-requires-clause-found c =
    starts-found c.args.hulls.now c.sides_of-sides.result (0, c.len.result - 1) c.args.self.now.best.total c.start.new.self.candidates.items c.start-2.new.self.candidates.items c.in_ok-before.before
    c.in_ok-after.after c.in_ok-before.ensures.starts c.in_ok-after.ensures.starts

pub returns-in-Done-clause-run : goal.returns-in-Done-clause-run
returns-in-Done-clause-run c =
    let fixes = c.args.hulls.now in
    let sides = c.sides_of-sides.ensures in
    let whole : ℕ × ℕ = (0, c.len.result - 1) in
    let fits : FitsSigned w32 c.loss.result = search rules in
    let loss = to_z-of_z w32 c.loss.result fits ∙ c.loss.ensures.value in
    let reach = sides.reach ∙ ap (λ (z : ℤ). c.args.range.lowest -ℤ int_min z (pos 50000)) loss in
    let none = subst (IsHalted fixes c.sides_of-sides.result whole c.args.goal.now.loss c.middle.new.self.best.total) c.in-Done.is c.in_ok-middle.ensures.halted in
    run-over fixes c.sides_of-sides.result whole c.args.goal.now.loss c.args.range c.middle.new.self.best.total None sides.sides sides.lowest sides.highest reach sides.any refl
    (omega (arith, c.len.ensures, c.requires.some)) none

pub returns-in_ok-low-in-GivenUp-clause-run : goal.returns-in_ok-low-in-GivenUp-clause-run
returns-in_ok-low-in-GivenUp-clause-run c =
    let fixes = c.args.hulls.now in
    let loss = c.args.goal.now.loss in
    let sides = c.sides_of-sides.ensures in
    let whole : ℕ × ℕ = (0, length fixes - 1) in
    let fits : FitsSigned w32 c.loss.result = search rules in
    let given = to_z-of_z w32 c.loss.result fits ∙ c.loss.ensures.value in
    let reach = sides.reach ∙ ap (λ (z : ℤ). c.args.range.lowest -ℤ int_min z (pos 50000)) given in
    let best = c.search_by_place.new.best in
    let over = subst (λ (list : List Fix). IsOver list c.sides_of-sides.result (0, length list - 1) loss best.total c.in_ok-low-in-GivenUp.low)
    (sym c.requires.same) c.in_ok-low-in-GivenUp.ensures.over in
    run-over fixes c.sides_of-sides.result whole loss c.args.range best.total c.in_ok-low-in-GivenUp.low sides.sides sides.lowest sides.highest reach sides.any refl
    (omega (arith, c.requires.some)) over

pub middle-requires-clause-same : goal.middle-requires-clause-same
middle-requires-clause-same c = c.requires.same

pub middle-requires-clause-valid : goal.middle-requires-clause-valid
middle-requires-clause-valid c = c.requires.valid

pub middle-requires-clause-sides : goal.middle-requires-clause-sides
middle-requires-clause-sides c = c.sides_of-sides.ensures.sides

pub middle-requires-clause-flanks : goal.middle-requires-clause-flanks
middle-requires-clause-flanks c =
    record { before = c.in_ok-before.ensures.flank; after = c.in_ok-after.ensures.flank }

pub middle-requires-clause-part_before : goal.middle-requires-clause-part_before
middle-requires-clause-part_before c = c.in_ok-before.ensures.starts.is_part

pub middle-requires-clause-part_after : goal.middle-requires-clause-part_after
middle-requires-clause-part_after c = c.in_ok-after.ensures.starts.is_part

pub middle-requires-clause-below : goal.middle-requires-clause-below
middle-requires-clause-below c =
    λ better. (
      c.in_ok-before.ensures.starts.shorter better.second better.first better.third better.before,
      c.in_ok-after.ensures.starts.shorter better.fourth better.last better.third better.after,
    )

pub search_by_place-requires-clause-sides : goal.search_by_place-requires-clause-sides
search_by_place-requires-clause-sides c = c.sides_of-sides.ensures.sides

pub search_by_place-requires-clause-valid : goal.search_by_place-requires-clause-valid
search_by_place-requires-clause-valid c = c.in_ok-middle.ensures.valid

pub returns-in-Done-clause-valid : goal.returns-in-Done-clause-valid
returns-in-Done-clause-valid c = c.in_ok-middle.ensures.valid

pub returns-in-Done-clause-raised : goal.returns-in-Done-clause-raised
returns-in-Done-clause-raised c = c.in_ok-middle.ensures.raised

pub returns-in-Done-clause-flanks : goal.returns-in-Done-clause-flanks
returns-in-Done-clause-flanks c = c.in_ok-middle.ensures.flanks

pub returns-in-Low-clause-valid : goal.returns-in-Low-clause-valid
returns-in-Low-clause-valid c = c.in_ok-middle.ensures.valid

pub returns-in-Low-clause-raised : goal.returns-in-Low-clause-raised
returns-in-Low-clause-raised c = c.in_ok-middle.ensures.raised

pub returns-in-Low-clause-flanks : goal.returns-in-Low-clause-flanks
returns-in-Low-clause-flanks c = c.in_ok-middle.ensures.flanks

pub returns-in-Low-clause-run : goal.returns-in-Low-clause-run
returns-in-Low-clause-run c =
    let fixes = c.args.hulls.now in
    let sides = c.sides_of-sides.ensures in
    let whole : ℕ × ℕ = (0, c.len.result - 1) in
    let fits : FitsSigned w32 c.loss.result = search rules in
    let loss = to_z-of_z w32 c.loss.result fits ∙ c.loss.ensures.value in
    let reach = sides.reach ∙ ap (λ (z : ℤ). c.args.range.lowest -ℤ int_min z (pos 50000)) loss in
    let low = subst (IsHalted fixes c.sides_of-sides.result whole c.args.goal.now.loss c.middle.new.self.best.total) c.in-Low.is c.in_ok-middle.ensures.halted in
    run-over fixes c.sides_of-sides.result whole c.args.goal.now.loss c.args.range c.middle.new.self.best.total (Some c.in-Low.pair) sides.sides sides.lowest sides.highest reach sides.any refl
    (omega (arith, c.len.ensures, c.requires.some)) low

pub returns-in_ok-low-in-GivenUp-clause-valid : goal.returns-in_ok-low-in-GivenUp-clause-valid
returns-in_ok-low-in-GivenUp-clause-valid c = c.in_ok-low-in-GivenUp.ensures.valid

pub returns-in_ok-low-in-GivenUp-clause-raised : goal.returns-in_ok-low-in-GivenUp-clause-raised
returns-in_ok-low-in-GivenUp-clause-raised c =
    omega (arith, c.in_ok-middle.ensures.raised, c.in_ok-low-in-GivenUp.ensures.raised)

pub returns-in_ok-low-in-GivenUp-clause-flanks : goal.returns-in_ok-low-in-GivenUp-clause-flanks
returns-in_ok-low-in-GivenUp-clause-flanks c =
    record { before = c.in_ok-middle.ensures.flanks.before; after = c.in_ok-middle.ensures.flanks.after }

pub start-requires-clause-flank : goal.start-requires-clause-flank
start-requires-clause-flank c = c.requires.flanks.before

pub start-requires-2-clause-flank : goal.start-requires-2-clause-flank
start-requires-2-clause-flank c = c.requires.flanks.after
