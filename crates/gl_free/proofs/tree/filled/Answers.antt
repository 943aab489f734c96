use Rattle.std.proofs.Common.{◌≡◌, sym, subst, length, drop, List, arith}
use Rattle.std.specs.Prelude.{All}
use Rattle.gl_free.specs.declared.branch.Branch.{Branch}
use Rattle.gl_free.specs.Code.Ways.{IsBranch}
use Rattle.gl_free.proofs.WayLemmas.{branches-back}
use Rattle.gl_free.proofs.tree.filled.Goals as goal

pub fill-requires-clause-branches : goal.fill-requires-clause-branches
fill-requires-clause-branches c =
    subst (λ (bs : List Branch). All (IsBranch c.args.numbers.now c.args.ways.now) bs) (sym c.as_mut_slice.ensures.value) c.requires.branches

pub returns-clause-branches : goal.returns-clause-branches
returns-clause-branches c =
    let len : c.args.branches.len ≡ length c.fill.new.branches = omega (arith, c.fill.ensures.sized, c.requires.sized, c.args.branches.ok.0) in
    branches-back c.args.numbers.now c.args.ways.now c.fill.new.branches (drop (length c.fill.new.branches) c.args.branches.items) c.args.branches.len len c.fill.ensures.branches
