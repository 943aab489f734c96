use Rattle.std.proofs.Common.{◌≡◌, ◌∙◌, sym, ◌≤◌, length, arith}
use Rattle.std.proofs.lemmas.Bool.{false≢true}
use Rattle.gl_judge.proofs.Bounds.{is_some_when, some_is}
use Rattle.gl_judge.proofs.Finishing.{all-counted, finish-after, finishes-all}
use Rattle.gl_judge.proofs.judging.can_finish.Goals as goal

pub returns-then-visited-len : goal.returns-then-visited-len
returns-then-visited-len c =
    (λ is. absurd (false≢true is), λ h. absurd (omega (arith, all-counted c.args.task.now c.args.rec.now c.args.judged c.args.from c.args.visited.count c.requires.most h)))

pub returns : goal.returns
returns c =
    let within : c.args.visited.count ≤ length c.args.task.now.zones = c.requires.most.is.within in
    let all : c.args.visited.count ≡ length c.args.task.now.zones = omega arith in (
      λ is.
          let at = some_is c.first_finish.result _ (sym c.is_some.ensures ∙ is) c.first_finish.ensures.finish in
          finishes-all c.args.task.now c.args.rec.now c.args.judged c.args.from c.args.visited.count c.args.visited.last at.0.fix at.0.second all c.requires.least at.1,
      λ h. c.is_some.ensures ∙ is_some_when c.first_finish.result _ c.first_finish.ensures.none
          (finish-after c.args.task.now c.args.rec.now c.args.judged c.args.from c.args.visited.count c.args.visited.last c.requires.most c.requires.least h),
    )
