use Rattle.std.proofs.Common.{◌-◌, subst, arith}
use Rattle.gl_box.specs.declared.span.Span.{Span}
use Rattle.gl_box.specs.Cell.{ends}
use Rattle.gl_free.specs.Code.Reach.{Raises}
use Rattle.gl_free.proofs.ReachLemmas.{farthest-found, farthest-none}
use Rattle.gl_free.proofs.far.farthest.Goals as goal

pub returns-then-found-eq0 : goal.returns-then-found-eq0
returns-then-found-eq0 c =
    let P : Span → Type 0 = λ s. Raises c.args.hulls.now c.args.allowed.now (0, c.len.result - 1) (ends s) c.guessed-found.result c.search.new.found in
    farthest-none c.args.hulls.now c.args.allowed.now (0, c.len.result - 1) (ends c.args.span) _ c.search.new.found (subst P c.new-of.ensures.span c.search.ensures.raises) (omega arith)
    (omega (arith, c.len.ensures)) c.if-found-eq0.true

pub returns : goal.returns
returns c =
    let P : Span → Type 0 = λ s. Raises c.args.hulls.now c.args.allowed.now (0, c.len.result - 1) (ends s) c.guessed-found.result c.search.new.found in
    farthest-found c.args.hulls.now c.args.allowed.now (0, c.len.result - 1) (ends c.args.span) _ c.search.new.found c.dist.result (subst P c.new-of.ensures.span c.search.ensures.raises) (omega arith)
    (omega (arith, c.len.ensures)) (omega arith) c.dist.ensures.value c.dist.ensures.bound
