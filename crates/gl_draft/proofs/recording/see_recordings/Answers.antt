use Rattle.std.proofs.Common.{rules, subst, Option}
use Rattle.gl_desk.specs.Desk.{FilesByName}
use Rattle.gl_draft.specs.Recordings.{IsRecordingOf}
use Rattle.gl_draft.proofs.Pairs.{next_pairs}
use Rattle.gl_draft.proofs.recording.see_recordings.Goals as goal

pub names-preserved : goal.names-preserved
names-preserved g c =
    let R : Option FilesByName → Type 0 = λ folder. IsRecordingOf folder c.name-item.result c.in_ok-see_recording.field-0 in
    record {
      are = next_pairs _ _ _ _ _ _ _ c.names-test.true c.name-item.is c.names.invariant.are (subst R c.names.invariant.reads.folder c.in_ok-see_recording.ensures.is) c.in_ok-push.ensures.items;
      reads = search rules;
    }
