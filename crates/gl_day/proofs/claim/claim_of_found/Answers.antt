use Rattle.std.proofs.Common.{◌∙◌, subst, sym, ℕ, List}
use Rattle.std.specs.Prelude.{IsSome, IsTrue}
use Rattle.gl_text.specs.Forms.{is_number}
use Rattle.gl_day.proofs.Named.{legal_total, named_found, ten_found}
use Rattle.gl_day.proofs.claim.claim_of_found.Goals as goal

pub invariant_of-result : goal.invariant_of-result
invariant_of-result g c = record {
  named = named_found (g.G.Goal.rule c.args.goal.now) c.args.found.best c.total_of.result c.in_ok-fixes.fixes.items
      (g.met.G.Goal.laws c.args.goal.now) c.requires.sound c.total_of.ensures c.in_ok-fixes.ensures;
}

pub returns-clause-writable : goal.returns-clause-writable
returns-clause-writable g c = record {
  number = subst (λ (l : List ℕ). IsTrue (is_number l)) (sym (c.in_ok-from_text.ensures ∙ c.as_str.ensures)) c.requires.number;
  ten_fixes = ten_found (g.G.Goal.rule c.args.goal.now) c.args.found.best c.in_ok-fixes.fixes.items (g.met.G.Goal.laws c.args.goal.now) c.requires.sound c.in_ok-fixes.ensures;
}

pub returns-clause-total : goal.returns-clause-total
returns-clause-total g c tuple legal =
    subst IsSome (sym c.total_of.ensures) (legal_total (g.G.Goal.rule c.args.goal.now) _ tuple c.requires.optimum legal)
