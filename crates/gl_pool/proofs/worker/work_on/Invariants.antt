use Rattle.std.proofs.Common.{◌≡◌, [], ◌∷◌}
use Rattle.gl_deal.specs.declared.place.Place.{Place}
use Rattle.gl_pool.specs.Taken.{Moves}
use Rattle.gl_pool.specs.Code.Trail.{IsTrail}
use Rattle.gl_pool.specs.Code.UnderWay.{IsUnderWay}
use Rattle.gl_pool.proofs.worker.work_on.Given as goal

-- the cell in hand was taken since the worker was under way at a place
abbrev pub invariant-loop : goal.invariant-loop
invariant-loop g l = record {
  before : Place;
  on : IsUnderWay (g.G.Goal.rule l.goal) l.word (record { place = l.fn.place; seat = l.fn.seat }) before l.seat l.bench;
  moved : Moves before l.place (l.next ∷ []) [];
  none : l.bench.cells.items ≡ [];
  legs : g.G.Goal.are_legs l.goal l.bench.legs.items;
  trail : IsTrail l.bench.share.closed [];
}
