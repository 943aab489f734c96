use Rattle.std.proofs.Common.{◌≡◌, ◌∙◌, sym, ap, refl, ◌<◌, List, [], ◌∷◌, length, get_or, arith}
use Rattle.std.specs.List.{remove}
use Rattle.gl_box.specs.declared.cell.Cell.{Cell}
use Rattle.gl_deal.specs.declared.place.Place.{Place}
use Rattle.gl_pool.specs.Taken.{Moves}
use Rattle.gl_pool.proofs.Going.{going_put}
use Rattle.gl_pool.proofs.Moving.{moves_by_put}
use Rattle.gl_pool.proofs.Trails.{put_on}
use Rattle.gl_pool.proofs.step.put_oldest.Goals as goal

-- the first element and the rest
first_and_rest : (cells : List Cell) (first : Cell) → 0 < length cells → first ≡ get_or cells 0 first → cells ≡ first ∷ remove cells 0
first_and_rest [] first some is = absurd (omega arith)
first_and_rest (cell ∷ cells) first some is = ap (λ (c : Cell). c ∷ cells) (sym is)

pub returns-in_ok-push-in-Ok-clause-on : goal.returns-in_ok-push-in-Ok-clause-on
returns-in_ok-push-in-Ok-clause-on c rule word seat call way =
    let bench = c.args.bench.now in
    let place = c.args.place.now in
    let cell = c.remove-oldest.result in
    let next : Place = record { hand = c.put.new.self; passes = place.passes } in
    let moves : Moves place next [] (cell ∷ []) = moves_by_put place next cell refl c.put.ensures.deque c.in-Ok.ensures.view in
    let many : 1 < length bench.cells.items = omega (arith, c.if-len-gt-KEPT_CELLS.true, c.len.ensures, bench.cells.ok.0) in
    let first : bench.cells.items ≡ cell ∷ c.remove-oldest.new.self.items = first_and_rest bench.cells.items cell (omega arith) c.remove-oldest.ensures.value
    ∙ ap (λ (cells : List Cell). cell ∷ cells) (sym c.remove-oldest.ensures.items) in
    going_put rule word call place seat bench _ way next cell moves first many refl refl refl refl

pub returns-in_ok-push-in-Ok-clause-trail : goal.returns-in_ok-push-in-Ok-clause-trail
returns-in_ok-push-in-Ok-clause-trail c way =
    let bench = c.args.bench.now in
    let cell = c.remove-oldest.result in
    let many : 1 < length bench.cells.items = omega (arith, c.if-len-gt-KEPT_CELLS.true, c.len.ensures, bench.cells.ok.0) in
    let first : bench.cells.items ≡ cell ∷ c.remove-oldest.new.self.items = first_and_rest bench.cells.items cell (omega arith) c.remove-oldest.ensures.value
    ∙ ap (λ (cells : List Cell). cell ∷ cells) (sym c.remove-oldest.ensures.items) in
    record {
      passed = way.passed;
      leads = put_on bench.share.closed bench.cells.items c.remove-oldest.new.self.items _ cell way first c.in_ok-push-in-Ok.ensures.items;
    }
