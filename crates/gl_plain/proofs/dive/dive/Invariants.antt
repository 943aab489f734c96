use Rattle.gl_plain.specs.Code.Steps.{AreWithin}
use Rattle.gl_goal.specs.Best.{IsSound}
use Rattle.gl_plain.proofs.dive.dive.Given as goal

abbrev pub invariant-loop : goal.invariant-loop
invariant-loop g l =
    let rule = g.G.Goal.rule l.goal in
    record { sound : IsSound rule l.best; within : AreWithin rule l.candidates.items; legs : g.G.Goal.are_legs l.goal l.legs }
