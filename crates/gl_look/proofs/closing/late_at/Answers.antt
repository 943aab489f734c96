use Rattle.std.proofs.Common.{◌≡◌, ◌∙◌, FitsSigned, ap, rules, subst, sym, true, w32, ℤ, pos, ◌+ℤ◌}
use Rattle.std.specs.Prelude.{IsTrue, int_le}
use Rattle.std.proofs.lemmas.Bool.{false≢true}
use Rattle.std.proofs.lemmas.Int.{to_z-of_z}
use Rattle.gl_look.specs.Closings.{whole}
use Rattle.gl_look.proofs.ClosingLemmas.{one_time}
use Rattle.gl_look.proofs.closing.late_at.Goals as goal

pub returns-else-is_soon-clause-none : goal.returns-else-is_soon-clause-none
returns-else-is_soon-clause-none c other late =
    let fixes = c.args.rec.now.fixes in
    let latest = c.args.task.now.closes +ℤ pos 3_600 in
    let same : c.in_ok-time.time ≡ other = one_time c.args.task.now.finish fixes (whole fixes) c.args.f c.in_ok-time.time other c.in_ok-time.ensures.some late.at_finish in
    let soon : int_le c.in_ok-time.time latest ≡ true = subst (λ (time : ℤ). IsTrue (int_le time latest)) (sym same) late.soon in
    let fits : FitsSigned w32 c.in_ok-time.time = search rules in
    false≢true (sym c.if-is_soon.false ∙ c.is_soon.ensures ∙ ap (λ (time : ℤ). int_le time latest) (to_z-of_z w32 c.in_ok-time.time fits) ∙ soon)
