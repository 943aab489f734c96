use Rattle.std.proofs.Common.{◌≡◌, sym, subst, ℤ, pos, ◌-ℤ◌, ◌≤ℤ◌, FitsSigned, w32, arith, rules}
use Rattle.std.proofs.lemmas.Int.{ints, to_z-of_z}
use Rattle.gl_judge.specs.Outcome.{IsFinished}
use Rattle.gl_judge.proofs.Finishing.{has-finish, is-finished}
use Rattle.gl_judge.proofs.Routes.{visited-after}
use Rattle.gl_judge.proofs.Times.{flown-time}
use Rattle.gl_judge.proofs.judging.finished.Goals as goal

pub flown-requires : goal.flown-requires
flown-requires c =
    let start_fits : FitsSigned w32 c.args.start.second = search rules in
    let finish_fits : FitsSigned w32 c.in-Some.finish.second = search rules in
    let order : c.args.start.second ≤ℤ c.in-Some.finish.second =
    flown-time c.args.task.now.start c.args.task.now.finish c.args.rec.now c.args.judged c.args.start.fix c.first_end-end.result c.in-Some.finish.fix c.args.start.second c.in-Some.finish.second
    c.args.rec.now.rising
    (visited-after c.args.rec.now.fixes c.args.judged c.args.task.now.zones c.args.start.fix c.first_end-end.result c.first_end-end.ensures.least.is) c.requires.legal c.in-Some.ensures.finish in
    omega (arith, ints)

pub unreachable-requires : goal.unreachable-requires
unreachable-requires c =
    has-finish c.args.task.now c.args.rec.now c.args.judged c.args.start.fix c.first_end-end.result c.requires.last.is c.first_end-end.ensures.least c.in-None.ensures.none

pub returns : goal.returns
returns c =
    let start_fits : FitsSigned w32 c.args.start.second = search rules in
    let finish_fits : FitsSigned w32 c.in-Some.finish.second = search rules in
    let flown : pos c.flown.result ≡ c.in-Some.finish.second -ℤ c.args.start.second = omega (arith, ints) in
    subst (λ (z : ℤ). IsFinished c.args.task.now c.args.rec.now c.args.judged (record { first = c.args.start.fix; last = c.in-Some.finish.fix; start = z }) c.flown.result)
    (sym (to_z-of_z w32 c.args.start.second start_fits))
    (is-finished c.args.task.now c.args.rec.now c.args.judged (record { first = c.args.start.fix; last = c.in-Some.finish.fix; start = c.args.start.second }) c.flown.result c.first_end-end.result
    c.in-Some.finish.second
    c.requires.last c.requires.legal c.first_end-end.ensures.least c.in-Some.ensures.finish c.in-Some.ensures.first flown)
