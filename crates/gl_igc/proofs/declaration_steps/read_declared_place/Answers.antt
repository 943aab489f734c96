use Rattle.std.proofs.Common.{sym}
use Rattle.gl_igc.proofs.DeclarationLemmas.{place-short}
use Rattle.gl_igc.proofs.declaration_steps.read_declared_place.Goals as goal

pub returns-then-line-lt18 : goal.returns-then-line-lt18
returns-then-line-lt18 c = sym (place-short c.args.line.now c.if-line-lt18.true)
