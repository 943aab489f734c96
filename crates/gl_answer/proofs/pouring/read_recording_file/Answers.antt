use Rattle.std.proofs.Common.{◌≡◌, ◌∙◌, subst, ℤ, [], Option, arith}
use Rattle.gl_igc.specs.Recording.{IsReadAs}
use Rattle.gl_answer.proofs.Pourings.{day_of_tag}
use Rattle.gl_answer.proofs.pouring.read_recording_file.Goals as goal

pub returns-clause-read : goal.returns-clause-read
returns-clause-read g c =
    let poured = c.in_ok-pour.ensures.poured in
    let stands = poured.stands [] c.new.ensures.text in
    let reader = c.pour.new.to.reader in
    let day : reader.task_day ≡ c.args.day = day_of_tag reader.task_day c.new.result.task_day c.pour.ensures.tag ∙ c.new.ensures.task_day in
    record {
      bytes = poured.file;
      seen = poured.seen;
      small = omega (arith, poured.counted, c.in_ok-pour.ensures.fits);
      says = subst (λ (day : Option ℤ). IsReadAs poured.file day c.finish.result) day (c.finish.ensures.answer poured.file stands);
    }
