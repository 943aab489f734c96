use Rattle.std.proofs.Common.{◌≡◌, ◌∙◌, ap, List, [], ◌∷◌, ◌++◌, map}
use Rattle.gl_box.specs.declared.cell.Cell.{Cell}
use Rattle.gl_near.specs.Pairs.{pairing_of, pairs_are}
use Rattle.gl_near.specs.Search.{near_reason_of}
use Rattle.gl_near.proofs.Least.{certificate_least}
use Rattle.gl_near.proofs.Stack.{certified, none_exactly, two_spans_each, under_way_start}
use Rattle.gl_near.proofs.search.search_near.Goals as goal

pub run-requires : goal.run-requires
run-requires c =
    let one : c.push.new.self.items ≡ c.whole.result ∷ [] = c.in_ok-push.ensures.items ∙ ap (λ (cells : List Cell). cells ++ c.whole.result ∷ []) c.in_ok-cells.ensures.items in
    under_way_start (pairing_of c.args.p.now) c.in_ok-best.best c.push.new.self.items c.whole.result (map near_reason_of c.in_ok-turns.turns.items) c.in_ok-best.ensures
    (ap (map near_reason_of) c.in_ok-turns.ensures.items) one c.whole.ensures

pub returns-clause-certificate : goal.returns-clause-certificate
returns-clause-certificate c =
    certified (pairing_of c.args.p.now) c.run.new.best c.push-2.new.self.items c.whole-2.result (map near_reason_of c.run.new.turns.items)
    (c.in_ok-push-2.ensures.items ∙ ap (λ (cells : List Cell). cells ++ c.whole-2.result ∷ []) c.clear.ensures.items) c.whole-2.ensures c.in_ok-run.ensures

pub returns-clause-axes : goal.returns-clause-axes
returns-clause-axes c =
    two_spans_each (pairing_of c.args.p.now) c.run.new.best c.push-2.new.self.items c.whole-2.result (map near_reason_of c.run.new.turns.items)
    (c.in_ok-push-2.ensures.items ∙ ap (λ (cells : List Cell). cells ++ c.whole-2.result ∷ []) c.clear.ensures.items) c.whole-2.ensures c.in_ok-run.ensures

pub returns-clause-least : goal.returns-clause-least
returns-clause-least c = certificate_least (pairing_of c.args.p.now) _ _ (pairs_are c.args.p.now) (returns-clause-certificate c)

pub returns-clause-none : goal.returns-clause-none
returns-clause-none c = none_exactly (pairing_of c.args.p.now) _ (returns-clause-least c)
