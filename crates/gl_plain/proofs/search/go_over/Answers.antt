use Rattle.std.proofs.Common.{◌≡◌, ◌∙◌, sym, ap, subst, ℕ, ◌+◌, List, [], ◌∷◌, ◌++◌, map, Option, Some}
use Rattle.gl_box.specs.declared.closed.Why.{Why}
use Rattle.gl_box.specs.declared.cell.Cell.{Cell}
use Rattle.gl_box.specs.Frontier.{IsNode}
use Rattle.gl_box.specs.Turns.{boxes_from, reason_of}
use Rattle.gl_box.specs.Walk.{ComesTo, open_cells}
use Rattle.gl_box.proofs.Turns.{turn_added}
use Rattle.gl_goal.specs.Goal.{whole_cell}
use Rattle.gl_goal.specs.declared.best.Best.{Best}
use Rattle.gl_goal.proofs.Totals.{either_sound}
use Rattle.gl_plain.specs.Parts.{cell_of}
use Rattle.gl_plain.proofs.GivenWay.{HasGiven, given_all, given_done, given_none, given_open, part_node}
use Rattle.gl_plain.proofs.search.go_over.Goals as goal
use Rattle.gl_plain.proofs.search.go_over.Goals.{in-Open+in_ok-search_cell-in-Open, in-Done+in_ok-push-in-Done}

pub search_cell-requires-clause-node : goal.search_cell-requires-clause-node
search_cell-requires-clause-node g c =
    let rule = g.G.Goal.rule c.args.goal.now in
    subst (λ part. IsNode (whole_cell rule.axes) (cell_of part)) c.in-Open.is (part_node rule c.args.parts.now c.loop-part.part-index c.part-item.result c.loop-part-test.true c.part-item.is c.requires.parted)

pub loop-part-init : goal.loop-part-init
loop-part-init g c =
    let rule = g.G.Goal.rule c.args.goal.now in
    let sound = either_sound rule c.args.known c.args.warm c.better-best.result c.better-best.ensures.either c.requires.known c.requires.warm in
    record {
      given = given_none rule c.args.parts.now c.args.known c.better-best.result c.push.new.self.items c.whole.result (map reason_of c.in_ok-turns.turns.items)
          (ap (map reason_of) c.in_ok-turns.ensures.items) (c.in_ok-push.ensures.items ∙ ap (λ (cells : List Cell). cells ++ c.whole.result ∷ []) c.in_ok-opened.ensures.items) c.whole.ensures
          sound c.better-best.ensures.no_less c.requires.parted;
      legs = c.requires.legs;
    }

pub loop-part-preserved : goal.loop-part-preserved
loop-part-preserved g c =
    let rule = g.G.Goal.rule c.args.goal.now in
    let parts = c.args.parts.now in
    let part = c.part-item.result in
    let l = c.loop-part in
    let left = c.come_to.new.opened.items in
    let turns = map reason_of l.turns.items in
    let cuts = map reason_of c.come_to.new.turns.items in
    let there = c.in_ok-come_to.ensures.there c.if-not-branch.false in
    let come = subst (λ (x : List (ℕ × ℕ)). ComesTo (open_cells l.opened.items) x there.0 (open_cells left)) c.cell.ensures there.1 in
    let P : Option Best → List (Option Why) → Type 0 = λ best after. HasGiven rule parts (l.part-index + 1) c.args.known best left after in
    elim c.match-part.branch [
      | in-Open+in_ok-search_cell-in-Open w ↦
          let done = w.in_ok-search_cell-in-Open.ensures in
          let after = map reason_of w.search_cell.new.turns.items in
          let made : P w.search_cell.new.best after = given_open rule parts l.part-index part w.in-Open.cell c.args.known l.best w.search_cell.new.best l.opened.items left turns cuts after there.0
          c.loop-part-test.true c.part-item.is w.in-Open.is l.invariant.given come there.2 done.sound done.grows done.searched in
          record {
            given = subst (λ (ts : List (Option Why)). P c.match-part.best ts) (ap (λ ts. map reason_of ts.items) (sym w.turns-is)) (subst (λ (best : Option Best). P best after) (sym w.best-is) made);
            legs = subst (g.G.Goal.are_legs c.args.goal.now) (sym w.legs-is) done.legs;
          }
      | in-Done+in_ok-push-in-Done w ↦
          let after = map reason_of w.push-in-Done.new.self.items in
          let closes : after ≡ cuts ++ Some w.in-Done.done.why ∷ [] =
          turn_added reason_of c.come_to.new.turns.items w.push-in-Done.new.self.items w.close.result (Some w.in-Done.done.why) w.in_ok-push-in-Done.ensures.items w.close.ensures in
          let made : P l.best after = given_done rule parts l.part-index part w.in-Done.done c.args.known l.best l.opened.items left turns cuts after there.0 c.loop-part-test.true c.part-item.is
          w.in-Done.is c.requires.done l.invariant.given come there.2 closes in
          record {
            given = subst (λ (ts : List (Option Why)). P c.match-part.best ts) (ap (λ ts. map reason_of ts.items) (sym w.turns-is)) (subst (λ (best : Option Best). P best after) (sym w.best-is) made);
            legs = subst (g.G.Goal.are_legs c.args.goal.now) (sym w.legs-is) l.invariant.legs;
          }
    ]

pub returns : goal.returns
returns g c =
    let rule = g.G.Goal.rule c.args.goal.now in
    let l = c.loop-part in
    let turns = map reason_of l.turns.items in
    let whole : open_cells c.push-2.new.self.items ≡ whole_cell rule.axes ∷ [] =
    ap open_cells (c.in_ok-push-2.ensures.items ∙ ap (λ (cells : List Cell). cells ++ c.whole-2.result ∷ []) c.clear.ensures.items) ∙ ap (λ (x : List (ℕ × ℕ)). x ∷ []) c.whole-2.ensures in
    given_all rule c.args.parts.now l.part-index c.args.known _ l.opened.items turns c.loop-part-test.false l.invariant.given (ap (λ (cells : List (List (ℕ × ℕ))). boxes_from cells turns) whole)
