use Rattle.std.proofs.Common.{subst, ℕ, List}
use Rattle.std.proofs.lemmas.Result.{on_ok_weaker}
use Rattle.gl_igc.specs.declared.fix.Fix.{Fix}
use Rattle.gl_why.specs.Credits.{AreCreditsTold}
use Rattle.gl_why.specs.Facts.{AddsFacts}
use Rattle.gl_why.proofs.EntrantLemmas.{recording_told}
use Rattle.gl_why.proofs.entrant.tell_scored.Goals as goal

pub returns : goal.returns
returns c =
    let R : List Fix → List ℕ → Type 0 = λ (fixes : List Fix) (choice : List ℕ). AddsFacts (AreCreditsTold fixes choice) c.tell_flight.new.lines c.tell_credits.new.lines in
    let chosen = subst (λ (choice : List ℕ). R c.as_slice-fixes.result.now choice) c.as_slice.ensures.value c.in_ok-tell_credits.ensures in
    let credits = subst (λ (fixes : List Fix). R fixes c.args.scored.now.credited.items) c.as_slice-fixes.ensures chosen in
    on_ok_weaker c.tell_counted.result
    (λ counted. recording_told c.args.task.now c.args.air.now c.args.entrant.now c.args.rec.now c.args.scored.now c.extent_of.result _ _ _ _ _ _ _ c.requires c.extent_of.ensures
    c.in_ok-tell_outcome.ensures c.in_ok-tell_extent.ensures c.in_ok-tell_flight.ensures credits c.in_ok-tell_fines.ensures counted)
    c.tell_counted.ensures

pub tell_fines-requires : goal.tell_fines-requires
tell_fines-requires c = (c.args.air.now, c.requires.judged_is)
