use Rattle.std.proofs.Common.{◌≡◌, ◌∙◌, sym, ap, subst, List, [], ◌∷◌, ◌++◌, length, map, arith}
use Rattle.std.proofs.lemmas.Bool.{false≢true}
use Rattle.std.proofs.lemmas.List.{length-map, map_push}
use Rattle.gl_proof.specs.Claim.{Statement, statement_of}
use Rattle.gl_proof.specs.Reading.{AreClaimsAt}
use Rattle.gl_proof.proofs.Chain.{refused_after, refused_claim}
use Rattle.gl_proof.proofs.More.{claim_more, text_ended}
use Rattle.gl_proof.proofs.read.read_claims.Goals as goal

pub returns-in-Err-clause-refused : goal.returns-in-Err-clause-refused
returns-in-Err-clause-refused c = λ whole given.
    let l = c.claims in
    let at = l.invariant.at whole given in
    refused_claim c.args.version whole (map statement_of l.claims.items) l.rest.now l.line c.in-Err.error at.each at.is at.counted
    (λ some. l.invariant.last (omega (arith, some, length-map l.claims.items statement_of)))
    (λ more end. false≢true (sym c.claims-test.true ∙ c.is_end.ensures.1 (more, end))) c.in-Err.ensures.refused

pub claims-preserved : goal.claims-preserved
claims-preserved c =
    let l = c.claims in
    let said = map statement_of l.claims.items in
    let s = statement_of c.in-Ok.read.0 in
    let read = c.in-Ok.ensures.ok in
    let grown : map statement_of c.push.new.self.items ≡ said ++ s ∷ [] = ap (map statement_of) c.in_ok-push.ensures.items ∙ map_push statement_of l.claims.items c.in-Ok.read.0 in
    record {
      at = λ whole given. subst (λ (ss : List Statement). AreClaimsAt c.args.version whole ss c.in-Ok.read.1.now c.in-Ok.read.2) (sym grown)
          (claim_more c.args.version whole said s l.rest.now c.in-Ok.read.1.now l.line c.in-Ok.read.2 (l.invariant.at whole given) read);
      last = λ some. read.last;
    }

pub returns-then-rest-clause-refused : goal.returns-then-rest-clause-refused
returns-then-rest-clause-refused c = λ whole given.
    let l = c.claims in
    let at = l.invariant.at whole given in
    let end = c.is_end.ensures.0 c.claims-test.false in
    refused_after c.args.version whole (map statement_of l.claims.items) l.rest.now l.line c.later.result end.0 at.each at.is at.counted end.1
    (λ none. absurd (omega (arith, ap length end.1, ap length none, c.if-rest.true))) c.later.ensures

pub returns-clause-ok : goal.returns-clause-ok
returns-clause-ok c = λ whole given.
    let l = c.claims in
    let end = c.is_end.ensures.0 c.claims-test.false in
    text_ended c.args.version whole (map statement_of l.claims.items) l.rest.now end.0 l.line (l.invariant.at whole given) end.1 (omega (arith, c.if-rest.false))
