use Rattle.std.proofs.Common.{◌∙◌, sym, ap, subst, ℕ, ◌<◌, [], ◌∷◌, map, Some, length, arith}
use Rattle.std.specs.Prelude.{All}
use Rattle.std.proofs.lemmas.List.{length-append, take_all}
use Rattle.std.proofs.lemmas.List.Elements.{All-push}
use Rattle.gl_near.proofs.Numbers.{one_more}
use Rattle.gl_near.proofs.opening.all_numbers.Goals as goal

pub returns-clause-named : goal.returns-clause-named
returns-clause-named c = c.loop-number.invariant.named ∙ ap (map Some) (take_all c.loop-number.number c.args.fixes.now (omega arith))

pub loop-number-preserved : goal.loop-number-preserved
loop-number-preserved c =
    let l = c.loop-number in
    let fixes = c.args.fixes.now in
    record {
      count = omega (arith, ap length c.in_ok-push.ensures.items, length-append l.numbers.items (l.number ∷ []), l.invariant.count);
      within = subst (All (λ (n : ℕ). n < length fixes)) (sym c.in_ok-push.ensures.items) (All-push (λ (n : ℕ). n < length fixes) l.numbers.items l.number l.invariant.within (omega arith));
      named = one_more fixes l.numbers.items c.push.new.self.items l.number (omega arith) c.in_ok-push.ensures.items l.invariant.named;
    }
