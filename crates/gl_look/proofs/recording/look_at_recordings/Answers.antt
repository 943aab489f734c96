use Rattle.std.proofs.Common.{rules, subst, Option, append-nil, refl, sym, []}
use Rattle.gl_desk.specs.Desk.{FilesByName}
use Rattle.gl_look.specs.Flights.{AddsTold, IsFileTold}
use Rattle.gl_look.proofs.ToldLemmas.{next_told}
use Rattle.gl_look.proofs.recording.look_at_recordings.Goals as goal

pub entrants-preserved : goal.entrants-preserved
entrants-preserved g c =
    let R : Option FilesByName → Type 0 = λ folder. AddsTold (IsFileTold folder c.args.names.now c.args.task.now c.entrant-item.result) c.entrants.remarks c.look_at_recording.new.remarks in
    record {
      told = next_told _ _ _ _ _ _ _ c.entrants-test.true c.entrant-item.is c.entrants.invariant.told (subst R c.entrants.invariant.reads.folder c.in_ok-look_at_recording.ensures.told);
      reads = search rules;
    }
