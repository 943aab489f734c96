use Rattle.std.proofs.Common.{◌∙◌, ap, subst, List, [], ◌∷◌, ◌++◌, Result, Some}
use Rattle.std.specs.declared.alloc.AllocError.{AllocError}
use Rattle.std.proofs.lemmas.List.Elements.{All-pop}
use Rattle.gl_deal.specs.declared.place.Place.{Place}
use Rattle.gl_pool.specs.declared.crew.Worker.{Worker}
use Rattle.gl_pool.specs.Code.Crew.{has_seat}
use Rattle.gl_pool.proofs.Collecting.{collecting_more, collecting_start}
use Rattle.gl_pool.proofs.crew.collected.Goals as goal

pub others-init : goal.others-init
others-init c =
    let last = c.in_ok-place.field-0 in
    let all = All-pop (has_seat c.args.word.now) c.args.workers.items c.pop.new.self.items (Some c.in-Some.last) c.in-Some.ensures.items c.requires.seats in
    record {
      seats = all.0;
      seat = subst (has_seat c.args.word.now) c.in_ok-place.was all.1;
      so_far = collecting_start c.args.word.now c.args.workers.items c.pop.new.self.items c.push.new.self.items last
          (c.in-Some.ensures.items ∙ ap (λ (r : Result Worker AllocError). c.pop.new.self.items ++ r ∷ []) c.in_ok-place.was)
          (c.in_ok-push.ensures.items ∙ ap (λ (l : List Place). l ++ last.place ∷ []) c.in_ok-places.ensures.items);
    }

pub gather-requires-clause-other : goal.gather-requires-clause-other
gather-requires-clause-other c =
    let all = All-pop (has_seat c.args.word.now) c.others.workers.items c.pop-in-others.new.self.items (Some c.in-Some-pop.worker) c.in-Some-pop.ensures.items c.others.invariant.seats in
    subst (has_seat c.args.word.now) c.in_ok-place-2.was all.1

pub others-preserved : goal.others-preserved
others-preserved c =
    let worker = c.in_ok-place-2.field-0 in
    let all = All-pop (has_seat c.args.word.now) c.others.workers.items c.pop-in-others.new.self.items (Some c.in-Some-pop.worker) c.in-Some-pop.ensures.items c.others.invariant.seats in
    record {
      seats = all.0;
      seat = c.in_ok-gather.ensures.is_seat;
      so_far = collecting_more c.args.word.now c.args.workers.items c.others.workers.items c.pop-in-others.new.self.items c.others.places.items c.push-in-Some-pop.new.self.items c.others.tally
          c.gather.new.tally worker
          (c.in-Some-pop.ensures.items ∙ ap (λ (r : Result Worker AllocError). c.pop-in-others.new.self.items ++ r ∷ []) c.in_ok-place-2.was)
          c.in_ok-push-2.ensures.items
          c.in_ok-gather.ensures c.others.invariant.so_far;
    }
