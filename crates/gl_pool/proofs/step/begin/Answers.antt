use Rattle.std.proofs.Common.{◌≡◌, ◌∙◌, sym, ap, refl, subst, true≢false, ℕ, List, [], ◌∷◌, ◌++◌}
use Rattle.gl_box.specs.declared.cell.Cell.{Cell}
use Rattle.gl_box.specs.Cell.{Covers, spans_of}
use Rattle.gl_goal.specs.Goal.{whole_cell}
use Rattle.gl_pool.specs.declared.bench.Bench.{Bench}
use Rattle.gl_pool.specs.Code.Trail.{IsTrail}
use Rattle.gl_pool.proofs.Going.{going_inside, going_outside}
use Rattle.gl_pool.proofs.step.begin.Goals as goal

pub returns-in_ok-push-clause-on : goal.returns-in_ok-push-clause-on
returns-in_ok-push-clause-on g c word place next seat moves call way =
    let rule = g.G.Goal.rule c.args.goal.now in
    let bench = c.args.bench.now in
    let cell = c.args.cell in
    let after : Bench = record {
      cells = c.push.new.self;
      legs = bench.legs;
      seen = bench.seen;
      share =
          record { kept = bench.share.kept; closed = c.come_to.new.trail; strange = bench.share.strange };
    } in
    let inside : Covers (whole_cell rule.axes) (spans_of cell) = subst (λ (outer : List (ℕ × ℕ)). Covers outer (spans_of cell)) c.whole-all.ensures (c.covers.ensures.0 c.if-covers.true) in
    let one : after.cells.items ≡ cell ∷ [] = c.in_ok-push.ensures.items ∙ ap (λ (cells : List Cell). cells ++ cell ∷ []) c.requires.none in
    going_inside rule word call place seat bench after way next cell moves inside c.requires.none one c.in_ok-come_to.ensures.boxes refl refl refl

pub returns-in_ok-push-2-clause-on : goal.returns-in_ok-push-2-clause-on
returns-in_ok-push-2-clause-on g c word place next seat moves call way =
    let rule = g.G.Goal.rule c.args.goal.now in
    let bench = c.args.bench.now in
    let cell = c.args.cell in
    let after : Bench = record {
      cells = bench.cells;
      legs = bench.legs;
      seen = bench.seen;
      share =
          record { kept = bench.share.kept; closed = bench.share.closed; strange = c.push-else-covers.new.self };
    } in
    let outside : Covers (whole_cell rule.axes) (spans_of cell) → ⊥ = λ covers.
    let held = c.covers.ensures.1 (subst (λ (outer : List (ℕ × ℕ)). Covers outer (spans_of cell)) (sym c.whole-all.ensures) covers) in
    absurd (true≢false (sym held ∙ c.if-covers.false)) in
    going_outside rule word call place seat bench after way next cell moves outside c.requires.none refl refl c.in_ok-push-2.ensures.items refl refl

pub returns-in_ok-push-clause-trail : goal.returns-in_ok-push-clause-trail
returns-in_ok-push-clause-trail g c =
    let one : c.push.new.self.items ≡ c.args.cell ∷ [] = c.in_ok-push.ensures.items ∙ ap (λ (cells : List Cell). cells ++ c.args.cell ∷ []) c.requires.none in
    subst (IsTrail c.come_to.new.trail) (sym one) c.in_ok-come_to.ensures.trail

pub returns-in_ok-push-2-clause-trail : goal.returns-in_ok-push-2-clause-trail
returns-in_ok-push-2-clause-trail g c = subst (IsTrail c.args.bench.now.share.closed) (sym c.requires.none) c.requires.trail
