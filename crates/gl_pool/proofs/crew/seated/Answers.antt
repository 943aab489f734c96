use Rattle.std.proofs.Common.{◌≡◌, ◌∙◌, sym, ap, refl, [], ◌∷◌, ◌++◌, ◌<◌, List, length, map, arith}
use Rattle.std.proofs.lemmas.List.{length-append, length-map, nil_from_length}
use Rattle.gl_best.specs.declared.word.BestWord.{BestWord}
use Rattle.gl_deal.specs.declared.place.Place.{Place}
use Rattle.gl_pool.specs.declared.crew.Worker.{Worker}
use Rattle.gl_pool.specs.declared.tally.Tally.{Tally}
use Rattle.gl_pool.proofs.Seating.{Seating, seated_all, seating_more, seating_start}
use Rattle.gl_pool.proofs.crew.seated.Goals as goal

-- no more workers have seats than there are places
seats_few : (word : BestWord) (places rest : List Place) (last : Place) (before tally : Tally) (workers : List Worker) → Seating word places rest last before tally workers
    → length workers < length places
seats_few word places rest last before tally workers so_far =
    let places_in : Worker → Place = λ worker. worker.place in
    omega (arith, ap length so_far.places_are, length-append (map places_in workers) (rest ++ last ∷ []), length-append rest (last ∷ []), length-map workers places_in)

pub loop-place-init : goal.loop-place-init
loop-place-init c = seating_start c.args.word.now c.args.places.items _ c.in-Some.last c.args.tally c.in_ok-workers.workers.items (c.in-Some.ensures.items
    ∙ ap (λ (l : List Place). l ++ c.in-Some.last ∷ []) (sym c.into_iter-place-iterator.ensures.into_iter_gives.0)) c.in_ok-workers.ensures.items c.requires.seat c.requires.enough

pub share-requires-clause-seat : goal.share-requires-clause-seat
share-requires-clause-seat c = c.loop-place.invariant.still.is_seat

pub share-requires-clause-two : goal.share-requires-clause-two
share-requires-clause-two c = omega (arith, c.loop-place.invariant.enough, ap length c.in-Some-place.ensures.steps.0)

pub loop-place-preserved : goal.loop-place-preserved
loop-place-preserved c =
    seating_more c.args.word.now c.args.places.items c.loop-place.place-iterator.rest.items c.next.new.self.rest.items c.in-Some.last c.args.tally c.loop-place.tally _ c.loop-place.workers.items
    c.push.new.self.items _ c.requires.ready (omega (arith, c.len-in-loop-place.ensures, c.loop-place.workers.ok.0)) c.in-Some-place.ensures.steps.0 c.in_ok-push.ensures.items c.share.ensures.seats.0
    (record { is_seat = c.share.ensures.seats.1; none = refl; raised = ap (λ v. v.raised) c.share.ensures.given; nothing = c.new.ensures.items })
    refl refl c.share.ensures.kept c.share.ensures.given c.share.ensures.fewer c.loop-place.invariant

pub returns : goal.returns
returns c =
    let rest = c.loop-place.place-iterator.rest in
    let none : rest.items ≡ [] = nil_from_length rest.items (omega (arith, c.in-None.ensures.steps.0, rest.ok.0)) in
    seated_all c.args.word.now c.args.places.items rest.items c.in-Some.last c.args.tally c.loop-place.tally c.loop-place.workers.items c.push-2.new.self.items _ c.requires.ready (omega (arith, c.len-2.ensures, c.loop-place.workers.ok.0)) none refl refl
    c.in_ok-push-2.ensures.items c.loop-place.invariant
