use Rattle.std.proofs.Common.{FitsSigned, w32, refl, arith, rules}
use Rattle.std.proofs.lemmas.Bool.{false≢true}
use Rattle.std.proofs.lemmas.Int.{to_z-of_z}
use Rattle.gl_judge.proofs.Lines.{read}
use Rattle.gl_judge.proofs.Rings.{in_ring, not_in_ring}
use Rattle.gl_look.specs.Closings.{whole}
use Rattle.gl_look.proofs.closing.ring_at.Goals as goal

pub returns-then-is_in_ring-clause-some : goal.returns-then-is_in_ring-clause-some
returns-then-is_in_ring-clause-some c =
    let fits : FitsSigned w32 c.index-as_slice-f.result.second = search rules in
    in_ring c.args.at c.args.radius c.args.rec.now.fixes (whole c.args.rec.now.fixes) c.args.f c.index-as_slice-f.result _ (omega arith, omega arith)
    (read c.args.rec.now.fixes c.as_slice.result.now c.args.f c.index-as_slice-f.result c.as_slice.ensures (omega arith) c.index-as_slice-f.is)
    (c.if-is_in_ring.ensures.0 refl) (to_z-of_z w32 c.index-as_slice-f.result.second fits)

pub returns-else-is_in_ring-clause-none : goal.returns-else-is_in_ring-clause-none
returns-else-is_in_ring-clause-none c =
    not_in_ring c.args.at c.args.radius c.args.rec.now.fixes (whole c.args.rec.now.fixes) c.args.f c.index-as_slice-f.result
    (read c.args.rec.now.fixes c.as_slice.result.now c.args.f c.index-as_slice-f.result c.as_slice.ensures (omega arith) c.index-as_slice-f.is)
    (λ near. absurd (false≢true (c.if-is_in_ring.ensures.1 near)))
