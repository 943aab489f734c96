use Rattle.std.proofs.Common.{◌∙◌, sym, ap, subst, List, Option, Vec, Global}
use Rattle.std.specs.Prelude.{IfSome}
use Rattle.gl_best.specs.declared.rule.View.{View}
use Rattle.gl_deal.specs.declared.place.Place.{Place}
use Rattle.gl_pool.specs.Code.Many.{IsDealt}
use Rattle.gl_pool.specs.Code.Settle.{SettlesAll, StandReady}
use Rattle.gl_pool.proofs.Answering.{has_all}
use Rattle.gl_pool.proofs.Dealing.{is_left, still_ready}
use Rattle.gl_pool.proofs.many.search_many.Goals as goal

pub work_all-requires-clause-ready : goal.work_all-requires-clause-ready
work_all-requires-clause-ready g c κs within =
    let rule = g.G.Goal.rule c.args.goal.now in
    let start : IsDealt rule c.in-Some.places.items = subst (λ (o : Option (Vec Place Global)). IfSome o (λ places. IsDealt rule places.items)) c.in-Some.is c.in_ok-places.ensures.dealt in
    start.ready

pub settle_all-requires : goal.settle_all-requires
settle_all-requires g c =
    let rule = g.G.Goal.rule c.args.goal.now in
    let start : IsDealt rule c.in-Some.places.items = subst (λ (o : Option (Vec Place Global)). IfSome o (λ places. IsDealt rule places.items)) c.in-Some.is c.in_ok-places.ensures.dealt in
    let worked = c.in_ok-places-2.ensures.worked in
    subst StandReady (sym c.as_mut_slice-settled.ensures.value) (still_ready c.in-Some.places.items c.in_ok-places-2.places.items worked.taken worked.put worked.moves start.ready)

pub finish-requires-clause-left : goal.finish-requires-clause-left
finish-requires-clause-left g c =
    let rule = g.G.Goal.rule c.args.goal.now in
    let start : IsDealt rule c.in-Some.places.items = subst (λ (o : Option (Vec Place Global)). IfSome o (λ places. IsDealt rule places.items)) c.in-Some.is c.in_ok-places.ensures.dealt in
    is_left rule c.in-Some.places.items c.in_ok-places-2.places.items c.settle_all.new.places c.first_tally-tally.result c.in_ok-places-2.tally start c.in_ok-places-2.ensures.worked
    (subst (λ (places : List Place). SettlesAll places c.settle_all.new.places) c.as_mut_slice-settled.ensures.value c.settle_all.ensures)

pub answer-requires-clause-numbers : goal.answer-requires-clause-numbers
answer-requires-clause-numbers g c =
    has_all (g.G.Goal.rule c.args.goal.now) c.in-Some.places.items c.in_ok-places-2.places.items c.first_tally-tally.result c.in_ok-places-2.tally c.finish.new.tally
    (c.first_tally-tally.ensures.numbers ∙ ap (λ (v : View). v.numbers) c.in_ok-word.ensures.view) c.in_ok-places-2.ensures.worked c.in_ok-finish.ensures.numbers
