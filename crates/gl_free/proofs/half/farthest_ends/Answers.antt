use Rattle.std.proofs.Common.{◌≡◌, ℕ, List, [], ◌∷◌, ◌++◌, ap, sym, subst, length, length-append, arith}
use Rattle.gl_free.specs.declared.far.Far.{Far}
use Rattle.gl_free.specs.Code.Farthest.{IsFarthest}
use Rattle.gl_free.specs.Code.Halves.{AreFarthest}
use Rattle.gl_free.proofs.HalfLemmas.{farthest-pushed, found-farthest}
use Rattle.gl_free.proofs.half.farthest_ends.Goals as goal

pub loop-number-preserved : goal.loop-number-preserved
loop-number-preserved c =
    let fixes = c.args.hulls.now in
    let allowed = c.args.allowed.now in
    let ends = c.loop-number.ends.items in
    let long = c.loop-number.invariant.long in
    let far : Far = record { value = c.longest-found.result.length; place = c.longest-found.result.from } in
    let all : c.push.new.self.items ≡ ends ++ far ∷ [] = c.in_ok-push.ensures.items in
    let is = found-farthest fixes allowed c.args.tree.now.ways.items c.target_at-target.result c.longest-found.result c.loop-number.number c.requires.ends c.requires.tree.long
    c.target_at-target.ensures.number c.target_at-target.ensures.side c.longest-found.ensures.found c.longest-found.ensures.above in
    record {
      guess = omega (arith, c.longest-found.ensures.found.within, c.requires.tree.long);
      long = omega (arith, ap length all, length-append ends (far ∷ []), long);
      farthest = subst (λ (list : List Far). AreFarthest fixes allowed list) (sym all)
          (farthest-pushed fixes allowed ends far c.loop-number.invariant.farthest (subst (λ (n : ℕ). IsFarthest fixes allowed (n, n) far) (sym long) is));
    }
