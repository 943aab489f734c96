use Rattle.std.proofs.Common.{◌≡◌, ◌∙◌, sym, ap, ◌≤◌, subst, drop, take, length, arith}
use Rattle.std.specs.Prelude.{All, min, sum_by}
use Rattle.std.proofs.lemmas.List.Elements.{All-drop, All-take}
use Rattle.gl_series.specs.declared.scored.Scored.{Scored}
use Rattle.gl_series.specs.Code.Tallies.{days_of}
use Rattle.gl_series.proofs.Least.{back_few, front_few, scored_few, tally_of}
use Rattle.gl_series.proofs.scored.sums_of.Goals as goal

pub sum-requires-clause-low : goal.sum-requires-clause-low
sum-requires-clause-low c =
    subst (All (λ (one : Scored). one.points ≤ 1_000)) (sym (c.split_at.ensures.back ∙ ap (drop c.min-cut.result) c.deref.ensures.value))
    (All-drop (λ (one : Scored). one.points ≤ 1_000) c.min-cut.result c.in_ok-scored.scored.items c.in_ok-scored.ensures.low)

pub sum-requires-2-clause-low : goal.sum-requires-2-clause-low
sum-requires-2-clause-low c =
    subst (All (λ (one : Scored). one.points ≤ 1_000)) (sym (c.split_at.ensures.front ∙ ap (take c.min-cut.result) c.deref.ensures.value))
    (All-take (λ (one : Scored). one.points ≤ 1_000) c.min-cut.result c.in_ok-scored.scored.items c.in_ok-scored.ensures.low)

pub returns-clause-tally : goal.returns-clause-tally
returns-clause-tally c =
    let scored = c.in_ok-scored.scored.items in
    let cut : c.min-cut.result ≡ min (length scored) c.args.drop = omega (arith, c.min-cut.ensures, c.len.ensures, c.deref.ensures.len, ap length c.deref.ensures.value) in
    tally_of (days_of c.args.days.now) c.args.drop c.args.number.now scored c.min-cut.result c.sum.result c.sum-2.result c.in_ok-scored.ensures cut
    (c.sum.ensures.value ∙ ap (sum_by (λ (one : Scored). one.points)) (c.split_at.ensures.back ∙ ap (drop c.min-cut.result) c.deref.ensures.value))
    (c.sum-2.ensures.value ∙ ap (sum_by (λ (one : Scored). one.points)) (c.split_at.ensures.front ∙ ap (take c.min-cut.result) c.deref.ensures.value))

pub sum-requires-clause-few : goal.sum-requires-clause-few
sum-requires-clause-few c =
    let s = c.in_ok-scored.scored.items in
    back_few s c.split_at.result.1.now c.min-cut.result (c.split_at.ensures.back
    ∙ ap (drop c.min-cut.result) c.deref.ensures.value) (scored_few (days_of c.args.days.now) s c.in_ok-scored.ensures.days_are c.requires.few)

pub sum-requires-2-clause-few : goal.sum-requires-2-clause-few
sum-requires-2-clause-few c =
    let s = c.in_ok-scored.scored.items in
    front_few s c.split_at.result.0.now c.min-cut.result (c.split_at.ensures.front
    ∙ ap (take c.min-cut.result) c.deref.ensures.value) (scored_few (days_of c.args.days.now) s c.in_ok-scored.ensures.days_are c.requires.few)
