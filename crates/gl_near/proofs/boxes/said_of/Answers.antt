use Rattle.std.proofs.Common.{◌≡◌, ◌∙◌, sym, ap, subst, ◌+◌, [], ◌∷◌, ◌++◌, List, Option, map, take, arith}
use Rattle.std.proofs.lemmas.List.{map-append, take_all, take_more}
use Rattle.gl_near.specs.declared.found.NearBest.{NearBest}
use Rattle.gl_near.specs.declared.found.NearClosed.{NearClosed}
use Rattle.gl_near.specs.Certificate.{box_of}
use Rattle.gl_near.specs.Pairs.{pairing_of}
use Rattle.gl_near.specs.Testing.{HasTaken}
use Rattle.gl_near.specs.Verdict.{AreSaid}
use Rattle.gl_near.proofs.boxes.said_of.Goals as goal

pub loop-next-preserved : goal.loop-next-preserved
loop-next-preserved c =
    let l = c.loop-next in
    let cells = c.args.cells.now in
    let next = c.next-item.result in
    let more : take (l.next-index + 1) cells ≡ take l.next-index cells ++ next ∷ [] =
    take_more cells l.next-index next c.loop-next-test.true ∙ ap (λ (closed : NearClosed). take l.next-index cells ++ closed ∷ []) (sym c.next-item.is) in
    record {
      pairs = ap (λ t. t.pairs.now) c.in_ok-take.ensures.test ∙ l.invariant.pairs;
      best = ap (λ t. t.best) c.in_ok-take.ensures.test ∙ l.invariant.best;
      taken = subst (λ boxes. HasTaken boxes c.take.new.self) (sym (ap (map box_of) more ∙ map-append box_of (take l.next-index cells) (next ∷ [])))
          (c.in_ok-take.ensures.takes (map box_of (take l.next-index cells)) l.invariant.taken);
    }

pub returns : goal.returns
returns c =
    let l = c.loop-next in
    let cells = c.args.cells.now in
    let test = l.check.test in
    let all : take l.next-index cells ≡ cells = take_all l.next-index cells (omega (arith, c.loop-next-test.false)) in
    subst (λ (boxes : List NearClosed). AreSaid (pairing_of c.args.pairs.now) c.args.best (map box_of boxes) c.said.result) all
    (subst (λ pairs. AreSaid (pairing_of pairs) c.args.best (map box_of (take l.next-index cells)) c.said.result) l.invariant.pairs
    (subst (λ (best : Option NearBest). AreSaid (pairing_of test.pairs.now) best (map box_of (take l.next-index cells)) c.said.result) l.invariant.best
    (c.said.ensures (map box_of (take l.next-index cells)) l.invariant.taken)))
