use Rattle.std.proofs.Common.{◌∙◌, ap, [], ◌∷◌, ◌++◌, List, arith}
use Rattle.gl_free.specs.declared.candidate.Candidate.{Candidate}
use Rattle.gl_free.proofs.SiftLemmas.{starts-whole}
use Rattle.gl_free.proofs.flank.Flank.start.Goals as goal

pub returns-clause-starts : goal.returns-clause-starts
returns-clause-starts c =
    let candidate : Candidate = record { span = c.args.whole; far = c.farthest-far.result; most = 2199023255552 } in
    let before = (λ i. (c.farthest-far.ensures.candidates i).items) ∙ c.clear.ensures.items in
    starts-whole c.args.hulls.now c.args.allowed.now candidate c.push.new.self.items (c.in_ok-push.ensures.items
    ∙ ap (λ (list : List Candidate). list ++ candidate ∷ []) before) c.requires.first c.requires.last (omega arith) c.farthest-far.ensures.farthest (omega arith)
