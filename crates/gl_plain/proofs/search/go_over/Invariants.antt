use Rattle.std.specs.Prelude.{map}
use Rattle.gl_box.specs.Turns.{reason_of}
use Rattle.gl_plain.proofs.GivenWay.{HasGiven}
use Rattle.gl_plain.proofs.search.go_over.Given as goal

-- the parts so far gave way
abbrev pub invariant-loop-part : goal.invariant-loop-part
invariant-loop-part g l = record {
  given : HasGiven (g.G.Goal.rule l.goal) l.parts l.part-index l.fn.known l.best l.opened.items (map reason_of l.turns.items);
  legs : g.G.Goal.are_legs l.goal l.legs;
}
