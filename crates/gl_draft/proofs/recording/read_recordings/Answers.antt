use Rattle.std.proofs.Common.{rules, filter}
use Rattle.gl_desk.specs.Desk.{HaveFiles}
use Rattle.gl_draft.specs.Recordings.{is_taken}
use Rattle.gl_draft.proofs.Runs.{kept_files}
use Rattle.gl_draft.proofs.recording.read_recordings.Goals as goal

pub see_recordings-requires : goal.see_recordings-requires
see_recordings-requires g c =
    let have : HaveFiles (g.D.Desk.told c.args.desk.now).folder (filter is_taken c.in_ok-names.names.items) = kept_files _ is_taken _ _ c.requires c.in_ok-names.ensures.same in
    search rules
