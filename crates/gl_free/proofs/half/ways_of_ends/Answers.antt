use Rattle.std.proofs.Common.{◌≡◌, ◌∙◌, ℕ, List, [], ◌∷◌, ◌++◌, ap, sym, subst, length, length-append, Some, slice_get, arith}
use Rattle.gl_free.specs.Code.Halves.{AreEnds}
use Rattle.gl_free.proofs.HalfLemmas.{ends-pushed}
use Rattle.gl_free.proofs.half.ways_of_ends.Goals as goal

pub loop-number-preserved : goal.loop-number-preserved
loop-number-preserved c =
    let fixes = c.args.hulls.now in
    let ways = c.loop-number.ways.items in
    let long = c.loop-number.invariant.long in
    let all : c.push.new.self.items ≡ ways ++ c.way_of_end.result ∷ [] = c.in_ok-push.ensures.items in
    let at : slice_get fixes (length ways) ≡ Some c.fix.result.now = ap (slice_get fixes) long ∙ c.fix.ensures in
    record {
      long = omega (arith, ap length all, length-append ways (c.way_of_end.result ∷ []), long);
      ends = subst (λ (list : List ℕ). AreEnds fixes c.args.allowed.now list) (sym all)
          (ends-pushed fixes c.args.allowed.now ways c.fix.result.now c.way_of_end.result c.loop-number.invariant.ends at
          (omega (arith, long, c.loop-number-test.true, c.len-number-end.ensures)) c.way_of_end.ensures.at_most c.way_of_end.ensures.allowed c.way_of_end.ensures.all);
    }
