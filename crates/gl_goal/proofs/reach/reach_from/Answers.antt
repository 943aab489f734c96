use Rattle.std.proofs.Common.{◌∙◌, ap, max, sym, subst, ℕ, arith}
use Rattle.gl_goal.specs.Reach.{IsReach}
use Rattle.gl_goal.proofs.Closing.{least-reach, reach-found, reach-least}
use Rattle.gl_goal.proofs.reach.reach_from.Goals as goal

pub returns-then-end-least : goal.returns-then-end-least
returns-then-end-least c =
    let fixes = c.args.hulls.now in
    let is = least-reach fixes c.args.closing c.args.place c.max-least.result c.args.before c.requires.place c.requires.before (c.max-least.ensures
    ∙ ap (λ n. max n c.args.place) c.unwrap_or.ensures) in
    reach-least fixes c.args.closing c.args.place c.max-least.result c.args.end c.requires.place c.requires.none (omega arith) is

pub returns : goal.returns
returns c =
    let fixes = c.args.hulls.now in
    let is = least-reach fixes c.args.closing c.args.place c.max-least.result c.args.before c.requires.place c.requires.before (c.max-least.ensures
    ∙ ap (λ n. max n c.args.place) c.unwrap_or.ensures) in
    let found = reach-found fixes c.args.closing c.args.place c.max-least.result c.args.end c.fix.result.now c.last_near.result c.fix.ensures c.requires.end c.requires.none is c.last_near.ensures in
    let P : ℕ → Type 0 = IsReach fixes c.args.closing c.args.place in
    subst P (sym c.unwrap_or-2.ensures) found
