use Rattle.std.proofs.Common.{◌≡◌, ◌∙◌, ap, refl, ℕ, ◌+◌, arith}
use Rattle.gl_goal.specs.Chain.{greatest_legs}
use Rattle.gl_goal.specs.Free.{free_goal}
use Rattle.gl_goal.proofs.FreeHulls.{hull-fits, hulls_of-five}
use Rattle.gl_goal.proofs.free_goal.FreeGoalGoal.bound_by.Goals as goal

pub most_by-first-requires-clause-from : goal.most_by-first-requires-clause-from
unfolding free_goal
most_by-first-requires-clause-from c = hull-fits c.args.self.now c.args.cell.now 0 _ c.requires.covers (omega arith)

pub most_by-first-requires-clause-to : goal.most_by-first-requires-clause-to
unfolding free_goal
most_by-first-requires-clause-to c = hull-fits c.args.self.now c.args.cell.now 1 _ c.requires.covers (omega arith)

pub most_by-second-requires-clause-from : goal.most_by-second-requires-clause-from
unfolding free_goal
most_by-second-requires-clause-from c = hull-fits c.args.self.now c.args.cell.now 1 _ c.requires.covers (omega arith)

pub most_by-second-requires-clause-to : goal.most_by-second-requires-clause-to
unfolding free_goal
most_by-second-requires-clause-to c = hull-fits c.args.self.now c.args.cell.now 2 _ c.requires.covers (omega arith)

pub most_by-third-requires-clause-from : goal.most_by-third-requires-clause-from
unfolding free_goal
most_by-third-requires-clause-from c = hull-fits c.args.self.now c.args.cell.now 2 _ c.requires.covers (omega arith)

pub most_by-third-requires-clause-to : goal.most_by-third-requires-clause-to
unfolding free_goal
most_by-third-requires-clause-to c = hull-fits c.args.self.now c.args.cell.now 3 _ c.requires.covers (omega arith)

pub most_by-fourth-requires-clause-from : goal.most_by-fourth-requires-clause-from
unfolding free_goal
most_by-fourth-requires-clause-from c = hull-fits c.args.self.now c.args.cell.now 3 _ c.requires.covers (omega arith)

pub most_by-fourth-requires-clause-to : goal.most_by-fourth-requires-clause-to
unfolding free_goal
most_by-fourth-requires-clause-to c = hull-fits c.args.self.now c.args.cell.now 4 _ c.requires.covers (omega arith)

four_legs : (a b c d p q r s : ℕ) → a ≡ p → b ≡ q → c ≡ r → d ≡ s → a + b + c + d ≡ p + (q + (r + (s + 0)))
four_legs a b c d p q r s ap_is bq cr ds = omega arith

pub returns-clause-bound : goal.returns-clause-bound
unfolding free_goal
returns-clause-bound c =
    let g = c.args.self.now in
    let cell = c.args.cell.now in
    let hulls = hulls_of-five g cell c.index-cell-0.result c.index-cell-1.result c.index-cell-2.result c.index-cell-3.result c.index-cell-4.result _ _ _ _ _ c.requires.covers refl refl refl refl refl
    in
    four_legs _ _ _ _ _ _ _ _ c.most_by-first.ensures.value c.most_by-second.ensures.value c.most_by-third.ensures.value c.most_by-fourth.ensures.value ∙ ap greatest_legs hulls
