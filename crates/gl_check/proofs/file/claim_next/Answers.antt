use Rattle.std.proofs.Common.{◌≡◌, refl, inl, subst, ℕ, List, [], ◌∷◌, ◌++◌, map, Option, Err, Vec}
use Rattle.std.specs.declared.alloc.Global.{Global}
use Rattle.std.specs.Prelude.{IfSome, IsNone, MatchOption}
use Rattle.gl_answer.specs.Halts.{AreBytes}
use Rattle.gl_box.specs.declared.closed.Why.{Why}
use Rattle.gl_check.specs.File.{BrokeOff, CameSoFar, GaveLines, UsedLines}
use Rattle.gl_check.specs.Verdict.{IsVerdict}
use Rattle.gl_check.proofs.FileLines.{claim_ahead, claim_came, handed_on, has_fixes}
use Rattle.gl_check.proofs.Judged.{yes_exactly}
use Rattle.gl_desk.specs.Desk.{FilesByName}
use Rattle.gl_goal.proofs.Optimum.{certificate_optimum}
use Rattle.gl_proof.specs.Claim.{Statement, box_line, fix_lines}
use Rattle.gl_proof.specs.ClaimLines.{lines_said}
use Rattle.gl_proof.specs.Line.{ClaimLine, Line}
use Rattle.gl_check.proofs.file.claim_next.Goals as goal

pub returns-in_err-fixes-clause-halted : goal.returns-in_err-fixes-clause-halted
returns-in_err-fixes-clause-halted g c =
    let folder = (g.D.Desk.told c.args.desk.now).folder in
    let front = c.in-Ok.front in
    handed_on (λ halt. (said : List Statement) → CameSoFar folder c.args.file.now c.args.most said c.args.ahead c.args.lines.now → AreBytes folder c.args.file.now c.args.most (Err halt))
    c.from_residual.result c.in_err-fixes.field-0.0 c.from_residual.ensures.1
    (λ said came.
    let used = claim_ahead folder c.args.file.now c.args.most said front.number front.kind front.total c.args.ahead c.args.lines.now c.in-Ok.ensures came in
    c.in_err-fixes.ensures.halted (lines_said used.0 said [] ++ ClaimLine front.number front.kind front.total ∷ []) used.2)

pub returns-in_default-clause-next : goal.returns-in_default-clause-next
returns-in_default-clause-next g c = λ said came.
    let folder = (g.D.Desk.told c.args.desk.now).folder in
    let front = c.in-Ok.front in
    let used = claim_ahead folder c.args.file.now c.args.most said front.number front.kind front.total c.args.ahead c.args.lines.now c.in-Ok.ensures came in
    let lines = lines_said used.0 said [] ++ ClaimLine front.number front.kind front.total ∷ [] in
    let broke = subst (λ (o : Option (Vec ℕ Global)). MatchOption o (BrokeOff folder c.args.file.now c.args.most c.fixes_next.new.lines)
    (λ fixes. GaveLines folder c.args.file.now c.args.most (lines ++ fix_lines front.total fixes.items) c.fixes_next.new.lines)) c.in_default.is
    (c.in_ok-fixes.ensures.fixes (lines_said used.0 said []) front.number front.kind used.2) in
    (λ others same. same, inl (broke, refl))

pub returns-in_err-verdict-clause-halted : goal.returns-in_err-verdict-clause-halted
returns-in_err-verdict-clause-halted g c =
    let folder = (g.D.Desk.told c.args.desk.now).folder in
    let front = c.in-Ok.front in
    handed_on (λ halt. (said : List Statement) → CameSoFar folder c.args.file.now c.args.most said c.args.ahead c.args.lines.now → AreBytes folder c.args.file.now c.args.most (Err halt))
    c.from_residual-in_err-verdict.result c.in_err-verdict.field-0.0 c.from_residual-in_err-verdict.ensures.1
    (λ said came.
    let used = claim_ahead folder c.args.file.now c.args.most said front.number front.kind front.total c.args.ahead c.args.lines.now c.in-Ok.ensures came in
    let lines = lines_said used.0 said [] ++ ClaimLine front.number front.kind front.total ∷ [] in
    let gave = subst (λ (o : Option (Vec ℕ Global)). MatchOption o (BrokeOff folder c.args.file.now c.args.most c.fixes_next.new.lines)
    (λ fixes. GaveLines folder c.args.file.now c.args.most (lines ++ fix_lines front.total fixes.items) c.fixes_next.new.lines)) c.in-Some.is
    (c.in_ok-fixes.ensures.fixes (lines_said used.0 said []) front.number front.kind used.2) in
    let halted = subst (λ (f : Option FilesByName). (used : List Line) → GaveLines f c.args.file.now c.args.most used c.fixes_next.new.lines
    → AreBytes f c.args.file.now c.args.most (Err c.in_err-verdict.field-0.0))
    c.in_ok-fixes.ensures.reads.folder c.in_err-verdict.ensures.halted in
    halted (lines ++ fix_lines front.total c.in-Some.fixes.items) gave)

pub returns-clause-next : goal.returns-clause-next
returns-clause-next g c = λ said came.
    let folder = (g.D.Desk.told c.args.desk.now).folder in
    let file = c.args.file.now in
    let front = c.in-Ok.front in
    let rule = g.G.Goal.rule c.args.goal.now in
    let fixes = c.in-Some.fixes.items in
    let verdict = c.in_ok-verdict.verdict in
    let used = claim_ahead folder file c.args.most said front.number front.kind front.total c.args.ahead c.args.lines.now c.in-Ok.ensures came in
    let lines = lines_said used.0 said [] ++ ClaimLine front.number front.kind front.total ∷ [] in
    let gave = subst (λ (o : Option (Vec ℕ Global)). MatchOption o (BrokeOff folder file c.args.most c.fixes_next.new.lines)
    (λ fixes. GaveLines folder file c.args.most (lines ++ fix_lines front.total fixes.items) c.fixes_next.new.lines)) c.in-Some.is
    (c.in_ok-fixes.ensures.fixes (lines_said used.0 said []) front.number front.kind used.2) in
    let named = subst (λ (o : Option (Vec ℕ Global)). IfSome o (λ fixes. IsNone front.total → fixes.items ≡ [])) c.in-Some.is c.in_ok-fixes.ensures.named in
    let next = subst (λ (f : Option FilesByName). (used : List Line) → GaveLines f file c.args.most used c.fixes_next.new.lines → (boxes : List (List (ℕ × ℕ) × Why))
    × IsVerdict rule front.total c.deref.result.now boxes verdict × UsedLines f file c.args.most (used ++ map box_line boxes) c.in_ok-verdict.ahead c.verdict_next.new.lines)
    c.in_ok-fixes.ensures.reads.folder c.in_ok-verdict.ensures.said in
    let found = next (lines ++ fix_lines front.total fixes) gave in
    let boxes = found.0 in
    let s : Statement = record { number = front.number; kind = front.kind; total = front.total; fixes = fixes; boxes = boxes } in
    let is = subst (λ (f : List ℕ). IsVerdict rule front.total f boxes verdict) c.deref.ensures.value found.1 in (
      s,
      record {
        number = refl;
        kind = refl;
        verdict = is;
        optimum = λ yes. certificate_optimum rule front.total fixes boxes (g.met.G.Goal.laws c.args.goal.now) ((yes_exactly rule front.total fixes boxes verdict is).0 yes);
      },
      claim_came folder file c.args.most used.0 said s c.in_ok-verdict.ahead c.verdict_next.new.lines used.1 (has_fixes front.total fixes named) found.2,
    )
