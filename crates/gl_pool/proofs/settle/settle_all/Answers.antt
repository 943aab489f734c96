use Rattle.std.proofs.Common.{◌≡◌, ◌∙◌, sym, ap, subst, refl, [], ◌<◌, List, length, map, get_or, slice_set, Vec, Global, arith}
use Rattle.std.proofs.lemmas.List.{get_or_default}
use Rattle.gl_deal.specs.declared.pass.Pass.{Pass}
use Rattle.gl_deal.specs.declared.place.Place.{Place}
use Rattle.gl_deal.specs.declared.view.PassView.{PassView}
use Rattle.gl_deal.specs.Tokens.{Deque, end_of}
use Rattle.gl_pool.specs.Code.Settle.{ArePassesOf, Settles}
use Rattle.gl_pool.specs.Taken.{ends_of}
use Rattle.gl_pool.proofs.SettlingAll.{all_more, all_start, passes_ready, settles_all}
use Rattle.gl_pool.proofs.settle.settle_all.Goals as goal

pub settle-requires-clause-passes : goal.settle-requires-clause-passes
settle-requires-clause-passes c =
    let l = c.loop-worker in
    let old : Place = get_or l.places l.worker c.index-places-worker.result in
    let new : Place = record { hand = old.hand; passes = c.replace-passes.new.dest } in
    let inside : l.worker < length l.places = omega (arith, c.loop-worker-test.true, l.auto.places) in
    let own : ends_of old ≡ map end_of c.replace-passes.result.items = ap (λ (v : Vec Pass Global). map end_of v.items) (sym c.replace-passes.ensures.value) in
    subst (λ (passes : List (Deque × PassView)). ArePassesOf (slice_set l.places l.worker new) l.worker passes) own
    (passes_ready c.args.places.now l.places l.worker old new c.requires l.invariant inside refl (λ e. get_or_default l.places l.worker e c.index-places-worker.result inside))

pub loop-worker-preserved : goal.loop-worker-preserved
loop-worker-preserved c =
    let l = c.loop-worker in
    let old : Place = get_or l.places l.worker c.index-places-worker.result in
    let new : Place = record { hand = old.hand; passes = c.replace-passes.new.dest } in
    let inside : l.worker < length l.places = omega (arith, c.loop-worker-test.true, l.auto.places) in
    let own : map end_of c.replace-passes.result.items ≡ ends_of old = ap (λ (v : Vec Pass Global). map end_of v.items) c.replace-passes.ensures.value in
    let none : ends_of new ≡ [] = ap (λ (v : Vec Pass Global). map end_of v.items) c.replace-passes.ensures.after ∙ ap (map end_of) c.new.ensures.items in
    all_more c.args.places.now l.places c.settle.new.places l.worker old new l.invariant inside refl none (λ e. get_or_default l.places l.worker e c.index-places-worker.result inside)
    (subst (λ (passes : List (Deque × PassView)). Settles (slice_set l.places l.worker new) c.settle.new.places l.worker passes) own c.settle.ensures)

pub loop-worker-init : goal.loop-worker-init
loop-worker-init c = all_start c.args.places.now

pub returns : goal.returns
returns c = settles_all c.args.places.now c.loop-worker.places c.loop-worker.worker c.requires (omega (arith, c.loop-worker-test.false)) c.loop-worker.invariant
