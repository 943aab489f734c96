use Rattle.std.proofs.Common.{◌≡◌, ◌+◌, ◌∷◌, ◌++◌, [], suc, arith, ap, ℕ, ◌∙◌}
use Rattle.gl_goal.specs.Free.{numbers_from}
use Rattle.gl_goal.proofs.FreeLosses.{numbers_from-more}
use Rattle.gl_judge.proofs.Farthest.{least-push, most-stop}
use Rattle.gl_why.specs.Visits.{IsVisitTold}
use Rattle.gl_why.proofs.FoundLemmas.{next_found}
use Rattle.gl_why.proofs.visits.tell_visits.Goals as goal

numbers-next : (count : ℕ) → numbers_from 1 (count + 1) ≡ numbers_from 1 count ++ (count + 1) ∷ []
numbers-next count =
    let at : 1 + count ≡ count + 1 = omega arith in
    let more : count + 1 ≡ suc count = omega arith in
    ap (numbers_from 1) more ∙ numbers_from-more 1 count ∙ ap (λ (n : ℕ). numbers_from 1 count ++ n ∷ []) at

pub tell_visit-requires-clause-first : goal.tell_visit-requires-clause-first
tell_visit-requires-clause-first c =
    least-push c.args.fixes.now c.args.judged c.args.zones.now c.loop-count.count c.args.from c.loop-count.last c.in-Some.z c.index-zones-count.result c.loop-count-test.true
    c.index-zones-count.is c.loop-count.invariant.least c.in-Some.ensures.found c.in-Some.ensures.after c.in-Some.ensures.first

pub returns-in-None-clause-most : goal.returns-in-None-clause-most
returns-in-None-clause-most c =
    most-stop c.args.fixes.now c.args.judged c.args.zones.now c.loop-count.count c.args.from c.loop-count.last c.index-zones-count.result c.loop-count-test.true c.index-zones-count.is
    c.loop-count.invariant.least c.in-None.ensures.none

pub loop-count-preserved : goal.loop-count-preserved
loop-count-preserved c = record {
  is_judged = c.in-Some.ensures.found.is_judged;
  least = least-push c.args.fixes.now c.args.judged c.args.zones.now c.loop-count.count c.args.from c.loop-count.last c.in-Some.z c.index-zones-count.result c.loop-count-test.true
      c.index-zones-count.is c.loop-count.invariant.least c.in-Some.ensures.found c.in-Some.ensures.after c.in-Some.ensures.first;
  told = next_found (IsVisitTold c.args.fixes.now c.args.judged c.args.zones.now c.args.from) (numbers_from 1 c.loop-count.count) _ (c.loop-count.count + 1) _ _ _ (numbers-next c.loop-count.count)
      c.loop-count.invariant.told c.in_ok-tell_visit-in-Some.ensures;
}
