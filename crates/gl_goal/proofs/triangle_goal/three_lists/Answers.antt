use Rattle.std.proofs.Common.{◌≡◌, ap, sym, subst, ◌∷◌, [], ℕ, suc, ◌-◌, length, List, arith}
use Rattle.std.specs.Prelude.{IfOk}
use Rattle.std.specs.List.Sorted.{IsStrictlyIncreasing}
use Rattle.gl_goal.specs.Lists.{AreNamed}
use Rattle.gl_goal.specs.Lemmas.Free.{length-numbers_between, numbers_between-named, numbers_from-rises}
use Rattle.gl_goal.proofs.triangle_goal.three_lists.Goals as goal

pub thrice-requires-clause-some : goal.thrice-requires-clause-some
thrice-requires-clause-some c =
    omega (arith, ap length c.in_ok-numbers.ensures, length-numbers_between c.args.first c.args.last)

pub thrice-requires-clause-rising : goal.thrice-requires-clause-rising
thrice-requires-clause-rising c =
    subst IsStrictlyIncreasing (sym c.in_ok-numbers.ensures) (numbers_from-rises c.args.first (suc (c.args.last - c.args.first)))

pub thrice-requires-clause-named : goal.thrice-requires-clause-named
thrice-requires-clause-named c =
    let P : List ℕ → Type 0 = AreNamed c.args.fixes.now in
    subst P (sym c.in_ok-numbers.ensures) (numbers_between-named c.args.fixes.now c.args.first c.args.last c.requires.order c.requires.within)

pub returns-clause-lists : goal.returns-clause-lists
returns-clause-lists c =
    let P : List ℕ → Type 0 = λ all. IfOk c.thrice.result (λ lists. lists.lists ≡ all ∷ all ∷ all ∷ []) in
    subst P c.in_ok-numbers.ensures c.thrice.ensures.lists
