use Rattle.std.proofs.Common.{Result, Ok, Err}
use Rattle.std.specs.Prelude.{OnOk}
use Rattle.std.proofs.lemmas.Result.{on_ok_weaker}
use Rattle.gl_pool.proofs.Tallies.{tally_on, turns_on}
use Rattle.gl_pool.proofs.tally.take_turn.Goals as goal

-- what follows from two facts holds where both do
on_ok_both : {A E X Y Z : Type 0} (r : Result A E) → (X → Y → Z) → OnOk r X → OnOk r Y → OnOk r Z
on_ok_both (Ok a) f x y = f x y
on_ok_both (Err e) f x y = tt

pub returns-clause-tally : goal.returns-clause-tally
returns-clause-tally g c =
    on_ok_both c.add_trail.result
    (λ closed passed. tally_on (g.G.Goal.rule c.args.goal.now) c.args.word.now c.args.place.now c.work_on.new.place c.args.tally.now _ c.in_ok-kept.field-0 c.requires c.in_ok-kept.ensures.hauled
    c.or-tally.ensures closed passed)
    c.add_trail.ensures.boxes c.add_trail.ensures.passed

pub returns-clause-turn : goal.returns-clause-turn
returns-clause-turn g c =
    on_ok_weaker c.add_trail.result
    (λ closed. turns_on (g.G.Goal.rule c.args.goal.now) c.args.word.now c.args.place.now c.work_on.new.place c.args.tally.now _ c.in_ok-kept.field-0 c.in_ok-kept.ensures.hauled closed)
    c.add_trail.ensures.boxes
