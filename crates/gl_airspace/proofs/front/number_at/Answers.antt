use Rattle.std.proofs.Common.{◌≤◌, ◌^◌, arith, length}
use Rattle.std.proofs.Math.Nat.{pow-le-pow_right}
use Rattle.std.proofs.lemmas.Grind.{common_steps}
use Rattle.gl_airspace.proofs.front.number_at.Goals as goal

pub returns-clause-bound : goal.returns-clause-bound
returns-clause-bound c =
    let more : 10 ^ length c.split_at.result.0.now ≤ 10 ^ c.args.most = pow-le-pow_right (omega arith) (grind (arith, common_steps)) in
    omega (arith, c.in_ok-number.ensures)
