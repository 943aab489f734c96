use Rattle.std.proofs.Common.{◌≡◌, ◌∙◌, ℕ, List, length, slice_get, ap, sym, subst, w32, to_z, of_z, pos, arith}
use Rattle.std.specs.Prelude.{◌≤ℤ◌}
use Rattle.std.proofs.lemmas.Int.{ints}
use Rattle.gl_igc.specs.declared.fix.Fix.{Fix}
use Rattle.gl_goal.specs.Chain.{fixes_at}
use Rattle.gl_goal.specs.Free.{numbers_between}
use Rattle.gl_goal.specs.Lists.{AreNamed}
use Rattle.gl_goal.specs.Lemmas.Free.{free_goal-is_goal, length-numbers_between, numbers_between-named}
use Rattle.gl_goal.proofs.FreeLosses.{filter_map-found, stay_legal}
use Rattle.gl_goal.proofs.free.FreeGoal.new.Goals as goal
use Rattle.gl_goal.proofs.free.FreeGoal.new.Goals.{After-as_slice}

-- the numbers that the hulls are made over
numbers-are : (c : After-as_slice) → c.as_slice.result.now ≡ numbers_between c.args.first c.args.last
numbers-are c = c.as_slice.ensures.value ∙ c.in_ok-numbers.ensures

pub new-requires-clause-most : goal.new-requires-clause-most
new-requires-clause-most c =
    omega (arith, ap length (numbers-are c), length-numbers_between c.args.first c.args.last)

pub new-requires-clause-named : goal.new-requires-clause-named
new-requires-clause-named c =
    let P : List ℕ → Type 0 = AreNamed c.args.fixes.now in
    subst P (sym (numbers-are c)) (numbers_between-named c.args.fixes.now c.args.first c.args.last c.requires.order c.requires.within)

pub invariant_of-result : goal.invariant_of-result
invariant_of-result c =
    let same = c.in_ok-from_slice.ensures.items in
    let numbers = c.as_slice.ensures.value ∙ c.in_ok-numbers.ensures in
    let found = filter_map-found (slice_get c.args.fixes.now) c.as_slice.result.now c.in_ok-new.field-0 c.in_ok-new.ensures in
    record {
      in_order = c.requires.order;
      within = omega (arith, c.requires.within, ap length same);
      at_most_90000 = omega (arith, c.requires.most, ap length same);
      loss_from_zero = omega (arith, ints);
      hulled = found ∙ ap (fixes_at c.args.fixes.now) numbers ∙ ap (λ (fixes : List Fix). fixes_at fixes (numbers_between c.args.first c.args.last)) (sym same);
    }

pub returns-clause-well_formed : goal.returns-clause-well_formed
returns-clause-well_formed c =
    free_goal-is_goal _ _ _ _ c.requires.order (omega (arith, c.requires.within, ap length c.in_ok-from_slice.ensures.items))

pub returns-clause-legal : goal.returns-clause-legal
returns-clause-legal c =
    let low : pos 0 ≤ℤ to_z w32 (of_z w32 c.args.loss) = omega (arith, ints) in
    stay_legal c.in_ok-from_slice.field-0.items c.args.first c.args.last (to_z w32 (of_z w32 c.args.loss))
    (omega (arith, c.requires.order, c.requires.within, ap length c.in_ok-from_slice.ensures.items)) low
