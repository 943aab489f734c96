use Rattle.std.proofs.Common.{◌≡◌, ◌∙◌, ℕ, List, length, ap, sym, subst, arith}
use Rattle.gl_goal.specs.Free.{numbers_from}
use Rattle.gl_goal.specs.Lists.{AreNamed}
use Rattle.gl_goal.specs.Lemmas.Free.{length-numbers_from}
use Rattle.gl_badge.specs.Gain.{gain_goal}
use Rattle.gl_badge.specs.Lemmas.Gain.{all-named, gain_goal-is_goal}
use Rattle.gl_badge.proofs.Pairs.{picked-all, stay_legal}
use Rattle.gl_badge.proofs.gain.GainGoal.new.Goals as goal
use Rattle.gl_badge.proofs.gain.GainGoal.new.Goals.{After-as_slice}

-- the numbers that the hulls are made over
numbers-are : (c : After-as_slice) → c.as_slice.result.now ≡ numbers_from 0 (length c.args.fixes.now)
numbers-are c =
    c.as_slice.ensures.value ∙ c.in_ok-numbers.ensures ∙ ap (numbers_from 0) (omega (arith, c.requires.most))

pub new-requires-clause-most : goal.new-requires-clause-most
new-requires-clause-most c =
    omega (arith, ap length (numbers-are c), length-numbers_from 0 (length c.args.fixes.now), c.requires.most)

pub new-requires-clause-named : goal.new-requires-clause-named
new-requires-clause-named c =
    let P : List ℕ → Type 0 = AreNamed c.args.fixes.now in
    subst P (sym (numbers-are c)) (all-named c.args.fixes.now)

pub invariant_of-result : goal.invariant_of-result
invariant_of-result c =
    let hulls = picked-all c.args.fixes.now _ _ _ c.in_ok-new.ensures (c.as_slice.ensures.value ∙ c.in_ok-numbers.ensures) (omega (arith, c.requires.most)) in
    record {
      some_fix = omega (arith, c.requires.some, ap length hulls);
      at_most_90000 = omega (arith, c.requires.most, ap length hulls);
    }

pub returns-clause-rule : goal.returns-clause-rule
returns-clause-rule c =
    ap gain_goal (picked-all c.args.fixes.now _ _ _ c.in_ok-new.ensures (c.as_slice.ensures.value ∙ c.in_ok-numbers.ensures) (omega (arith, c.requires.most)))

pub returns-clause-well_formed : goal.returns-clause-well_formed
returns-clause-well_formed c =
    let hulls = picked-all c.args.fixes.now _ _ _ c.in_ok-new.ensures (c.as_slice.ensures.value ∙ c.in_ok-numbers.ensures) (omega (arith, c.requires.most)) in
    gain_goal-is_goal _ (omega (arith, c.requires.some, ap length hulls))

pub returns-clause-legal : goal.returns-clause-legal
returns-clause-legal c =
    let hulls = picked-all c.args.fixes.now _ _ _ c.in_ok-new.ensures (c.as_slice.ensures.value ∙ c.in_ok-numbers.ensures) (omega (arith, c.requires.most)) in
    stay_legal _ (omega (arith, c.requires.some, ap length hulls))
