use Rattle.std.proofs.Common.{ap, arith, rules}
use Rattle.std.proofs.lemmas.List.Elements.{All-set}
use Rattle.gl_box.specs.declared.span.Span.{Span}
use Rattle.gl_free.specs.Code.Ways.{IsBranch}
use Rattle.gl_free.proofs.WayLemmas.{branch-joined}
use Rattle.gl_free.proofs.tree.+fill.Goals as goal

pub returns-then-span-clause-branch : goal.returns-then-span-clause-branch
returns-then-span-clause-branch t c = search rules

pub returns-then-span-clause-branches : goal.returns-then-span-clause-branches
returns-then-span-clause-branches t c =
    All-set (IsBranch c.args.numbers.now c.args.ways.now) c.args.branches.now c.slot_of.result _ (returns-then-span-clause-branch t c) c.requires.branches

pub returns-clause-branch : goal.returns-clause-branch
returns-clause-branch t c =
    let low = c.fill-low.ensures.span in
    let high = c.fill-high.ensures.span in
    let all = c.join-branch.ensures.span in
    let parts = c.halves.ensures in
    branch-joined c.args.numbers.now c.args.ways.now c.fill-low.result c.fill-high.result c.join-branch.result
    (omega (arith, ap (λ (s : Span). s.lo) low, ap (λ (s : Span). s.lo) all, parts.first))
    (omega (arith, ap (λ (s : Span). s.lo) high, ap (λ (s : Span). s.hi) low, parts.next))
    (omega (arith, ap (λ (s : Span). s.hi) high, ap (λ (s : Span). s.hi) all, parts.last))
    c.fill-low.ensures.branch c.fill-high.ensures.branch c.join-branch.ensures.lower_lo c.join-branch.ensures.upper_lo c.join-branch.ensures.lower_hi c.join-branch.ensures.upper_hi
    c.join-branch.ensures.lower_most c.join-branch.ensures.upper_most

pub returns-clause-branches : goal.returns-clause-branches
returns-clause-branches t c =
    All-set (IsBranch c.args.numbers.now c.args.ways.now) c.fill-high.new.branches c.slot_of-2.result _ (returns-clause-branch t c) c.fill-high.ensures.branches
