use Rattle.std.specs.Vec.{with_items}
use Rattle.std.proofs.lemmas.List.{with_items_is}
use Rattle.std.proofs.Common.{◌≡◌, sym, ap, subst, arith, length, List, [], ◌∷◌, Option, Some, None, MatchOption, map}
use Rattle.gl_box.specs.declared.cell.Cell.{Cell}
use Rattle.gl_deal.specs.declared.pass.Pass.{Pass}
use Rattle.gl_deal.specs.declared.place.Place.{Place}
use Rattle.gl_deal.specs.Rule.{HasSettledAll, TookAllItPut}
use Rattle.gl_deal.specs.Tokens.{end_of, hand_deque, hand_view}
use Rattle.gl_pool.specs.Code.Taken.{FindsNone, Steals}
use Rattle.gl_pool.specs.Taken.{Moves, ends_of}
use Rattle.gl_pool.proofs.Moving.{moves_by_steal}
use Rattle.gl_pool.proofs.taking.next_cell.Goals as goal

-- what a round over the passes gave, where the hand's deque was empty
after_round : (before after : Place) (result : Option Cell) → hand_deque after.hand ≡ hand_deque before.hand → hand_view after.hand ≡ hand_view before.hand
    → (HasSettledAll (hand_view after.hand) → TookAllItPut (hand_view after.hand)) → MatchOption result (ends_of after ≡ ends_of before) (Steals (ends_of before) (ends_of after))
    → MatchOption result (FindsNone before after) (λ cell. Moves before after (cell ∷ []) [])
after_round before after None deque hand all same = record { deque = deque; hand = hand; passes = same; all_put = all }
after_round before after (Some cell) deque hand all stolen = moves_by_steal before after cell stolen deque hand

pub returns-in-Some-steal : goal.returns-in-Some-steal
returns-in-Some-steal g c =
    let place = c.args.place.now in
    let passes = c.steal.new.passes in
    let next : Place = record { hand = c.take.new.self; passes = with_items place.passes passes } in
    let lent : c.as_mut_slice.result.now ≡ place.passes.items = c.as_mut_slice.ensures.value in
    let same : next.passes.items ≡ passes = with_items_is place.passes passes (omega (arith, c.steal.auto.passes, ap length lent, place.passes.ok.0)) in
    let before = subst (λ (old : List Pass). Steals (map end_of old) (map end_of passes) c.in-Some-steal.stolen) lent c.in-Some-steal.ensures in
    let round = subst (λ (new : List Pass). Steals (ends_of place) (map end_of new) c.in-Some-steal.stolen) (sym same) before in
    after_round place next (Some c.in-Some-steal.stolen) c.in-None.ensures.deque c.in-None.ensures.view c.in-None.ensures.all round

pub returns-in-None-steal : goal.returns-in-None-steal
returns-in-None-steal g c =
    let place = c.args.place.now in
    let passes = c.steal.new.passes in
    let next : Place = record { hand = c.take.new.self; passes = with_items place.passes passes } in
    let lent : c.as_mut_slice.result.now ≡ place.passes.items = c.as_mut_slice.ensures.value in
    let same : next.passes.items ≡ passes = with_items_is place.passes passes (omega (arith, c.steal.auto.passes, ap length lent, place.passes.ok.0)) in
    let before = subst (λ (old : List Pass). map end_of passes ≡ map end_of old) lent c.in-None-steal.ensures in
    let round = subst (λ (new : List Pass). map end_of new ≡ ends_of place) (sym same) before in
    after_round place next None c.in-None.ensures.deque c.in-None.ensures.view c.in-None.ensures.all round
