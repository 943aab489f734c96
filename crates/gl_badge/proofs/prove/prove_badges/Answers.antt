use Rattle.std.proofs.Common.{◌≡◌, ◌∙◌, ap, sym, subst, map}
use Rattle.std.specs.List.{AllZip}
use Rattle.gl_goal.specs.Goal.{IsOptimum}
use Rattle.gl_proof.specs.declared.claim.Claim.{Claim}
use Rattle.gl_proof.specs.Claim.{statement_of}
use Rattle.gl_badge.specs.Claims.{rules_of_claims}
use Rattle.gl_badge.proofs.Proving.{badge_optima, badge_statements, proved_of}
use Rattle.gl_badge.proofs.prove.prove_badges.Goals as goal

pub badge_text-requires : goal.badge_text-requires
badge_text-requires c =
    let claims = rules_of_claims c.in_ok-goals.goals.items in
    let proved = proved_of c.in_ok-goals.goals.items c.as_slice.result.now c.in_ok-claims.claims.items c.as_slice.ensures.value c.in_ok-claims.ensures in
    let totals : c.as_slice-3.result.now ≡ map (λ (claim : Claim). claim.total) c.in_ok-claims.claims.items =
    c.as_slice-3.ensures.value ∙ c.in_ok-totals.ensures ∙ ap (map (λ (claim : Claim). claim.total)) c.as_slice-2.ensures.value in
    record {
      claims = claims;
      are = c.in_ok-goals.ensures;
      optima = subst (AllZip (λ claim total. IsOptimum claim.1 total) claims) (sym totals) (badge_optima c.args.rec.now claims c.in_ok-claims.claims.items c.in_ok-goals.ensures proved);
    }

pub returns : goal.returns
returns c =
    let claims = rules_of_claims c.in_ok-goals.goals.items in
    let proved = proved_of c.in_ok-goals.goals.items c.as_slice.result.now c.in_ok-claims.claims.items c.as_slice.ensures.value c.in_ok-claims.ensures in
    record {
      said = c.in_ok-lines.ensures;
      claims = claims;
      are = c.in_ok-goals.ensures;
      proved = proved;
      written = badge_statements c.args.rec.now claims (map statement_of c.in_ok-claims.claims.items) c.in_ok-goals.ensures proved;
    }
