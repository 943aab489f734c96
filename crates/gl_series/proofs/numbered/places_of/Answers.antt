use Rattle.std.proofs.Common.{Bor, ◌∙◌, arith}
use Rattle.std.proofs.lemmas.List.{take_all}
use Rattle.gl_series.specs.declared.standing.Total.{Total}
use Rattle.gl_series.proofs.Taken.{seen_more}
use Rattle.gl_series.proofs.numbered.places_of.Goals as goal

pub loop-pilot-preserved : goal.loop-pilot-preserved
loop-pilot-preserved c =
    seen_more (λ (pilot : Bor Total). pilot.now) c.loop-pilot.places.items c.push.new.self.items _ c.args.pilots.now c.loop-pilot.pilot-index c.in_ok-push.ensures.items c.loop-pilot.invariant
    c.loop-pilot-test.true c.pilot-item.is

pub returns : goal.returns
returns c = c.loop-pilot.invariant ∙ take_all c.loop-pilot.pilot-index c.args.pilots.now (omega (arith, c.loop-pilot-test.false))
