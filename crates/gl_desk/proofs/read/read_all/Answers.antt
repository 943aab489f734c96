use Rattle.std.proofs.Common.{subst, sym, ap, ℕ, List, [], length, Some, arith}
use Rattle.gl_desk.specs.Desk.{IsSeenIn}
use Rattle.gl_desk.proofs.read.read_all.Goals as goal

pub returns-clause-bytes : goal.returns-clause-bytes
returns-clause-bytes g c =
    let poured = c.in_ok-pour.ensures.poured in
    subst (λ (bytes : List ℕ). IsSeenIn (g.D.Desk.told c.args.desk.now).folder c.args.name.now (Some bytes)) (sym (poured.stands [] c.new.ensures.items)) poured.seen

pub returns-clause-fits : goal.returns-clause-fits
returns-clause-fits g c =
    let poured = c.in_ok-pour.ensures.poured in
    omega (arith, ap length (poured.stands [] c.new.ensures.items), poured.counted, c.in_ok-pour.ensures.fits)
