use Rattle.std.proofs.Common.{◌≡◌, ◌∙◌, sym, ap, ℕ, ◌+◌, arith, length}
use Rattle.gl_sphere.specs.Distance.{distance}
use Rattle.gl_judge.specs.Marking.{finish_point}
use Rattle.gl_judge.proofs.Courses.{last_leg, one_leg}
use Rattle.gl_judge.proofs.marking.course_length.Goals as goal

added : (sum leg length rest all whole : ℕ) → sum + rest ≡ whole → rest ≡ length + all → leg ≡ length → sum + leg + all ≡ whole
added sum leg length rest all whole parted step leg_is = omega arith

pub loop-zone-preserved : goal.loop-zone-preserved
loop-zone-preserved c =
    let zones : c.as_slice-zone-items.result.now ≡ c.args.task.now.zones = c.as_slice-zone-items.ensures in
    let count : length c.as_slice-zone-items.result.now ≡ length c.args.task.now.zones = ap length zones in
    let step = one_leg c.loop-zone.last (finish_point c.args.task.now.finish) c.args.task.now.zones c.as_slice-zone-items.result.now c.loop-zone.zone-index c.zone-item.result zones
    (omega arith) c.zone-item.is in
    record {
      parted = added _ _ _ _ _ _ c.loop-zone.invariant.parted step c.leg-length.ensures.value;
      short = omega arith;
    }

pub returns : goal.returns
returns c =
    let count : length c.as_slice-zone-items.result.now ≡ length c.args.task.now.zones = ap length c.as_slice-zone-items.ensures in
    let step = last_leg c.loop-zone.last (finish_point c.args.task.now.finish) c.args.task.now.zones c.loop-zone.zone-index (omega arith) in
    let leg : c.leg.result ≡ distance c.loop-zone.last (finish_point c.args.task.now.finish) = c.leg.ensures.value ∙ ap (λ point. distance c.loop-zone.last point) c.finish_point.ensures in
    ap (λ n. c.loop-zone.length + n) (leg ∙ sym step) ∙ c.loop-zone.invariant.parted
