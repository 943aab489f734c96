use Rattle.std.proofs.Common.{arith}
use Rattle.std.proofs.Math.ListN.{length-set}
use Rattle.std.proofs.lemmas.List.Elements.{All-set}
use Rattle.gl_free.specs.declared.known.Known.{Known}
use Rattle.gl_free.specs.Code.Candidates.{IsKnown}
use Rattle.gl_free.proofs.flank.Flank.farthest.Goals as goal

pub returns-clause-flank : goal.returns-clause-flank
returns-clause-flank c =
    let known : Known = record { span = c.args.span; ends = c.args.allowed.now; far = c.farthest-far.result } in
    record {
      few = c.requires.flank.few;
      sized = omega (arith, length-set {A = Known}, c.requires.flank.sized);
      known = All-set (IsKnown c.args.hulls.now) c.args.self.now.known.items c.slot_of-slot.result known c.farthest-far.ensures c.requires.flank.known;
    }

pub returns-clause-farthest : goal.returns-clause-farthest
returns-clause-farthest c = c.farthest-far.ensures

pub returns-then-eq-2-clause-flank : goal.returns-then-eq-2-clause-flank
returns-then-eq-2-clause-flank c = c.requires.flank
