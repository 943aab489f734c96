use Rattle.std.proofs.Common.{sym, subst, List, Vec, Global}
use Rattle.gl_goal.specs.declared.leg.Leg.{Leg}
use Rattle.gl_goal.specs.Best.{IsSound}
use Rattle.gl_plain.specs.declared.dive.Candidate.{Candidate}
use Rattle.gl_plain.specs.Code.Steps.{AreWithin}
use Rattle.gl_plain.proofs.Places.{within_popped}
use Rattle.gl_plain.proofs.dive.dive.Goals as goal
use Rattle.gl_plain.proofs.dive.dive.Goals.{then-beats+in_ok-look, else-beats}

pub look-requires-clause-covers : goal.look-requires-clause-covers
look-requires-clause-covers g c =
    (within_popped (g.G.Goal.rule c.args.goal.now) c.loop.candidates.items c.pop.new.self.items c.in-Some.top c.in-Some.ensures.items c.loop.invariant.within).1

pub look-requires-clause-within : goal.look-requires-clause-within
look-requires-clause-within g c =
    (within_popped (g.G.Goal.rule c.args.goal.now) c.loop.candidates.items c.pop.new.self.items c.in-Some.top c.in-Some.ensures.items c.loop.invariant.within).0

pub loop-preserved : goal.loop-preserved
loop-preserved g c =
    let rule = g.G.Goal.rule c.args.goal.now in
    elim c.if-beats.branch [
      | then-beats+in_ok-look w ↦ record {
        sound = subst (IsSound rule) (sym w.best-is) w.look.ensures.sound;
        within = subst (λ (all : Vec Candidate Global). AreWithin rule all.items) (sym w.candidates-is) w.in_ok-look.ensures.within;
        legs = subst (λ (legs : List Leg). g.G.Goal.are_legs c.args.goal.now legs) (sym w.legs-is) w.look.ensures.legs;
      }
      | else-beats w ↦ record {
        sound = subst (IsSound rule) (sym w.best-is) c.loop.invariant.sound;
        within = subst (λ (all : Vec Candidate Global). AreWithin rule all.items) (sym w.candidates-is)
            (within_popped rule c.loop.candidates.items c.pop.new.self.items c.in-Some.top c.in-Some.ensures.items c.loop.invariant.within).0;
        legs = subst (λ (legs : List Leg). g.G.Goal.are_legs c.args.goal.now legs) (sym w.legs-is) c.loop.invariant.legs;
      }
    ]
