use Rattle.gl_demo.proofs.RecordingLemmas.{recording-drawn, recording-pushed}
use Rattle.gl_demo.proofs.recording.make_recording.Goals as goal

pub returns-clause-text : goal.returns-clause-text
returns-clause-text c =
    recording-pushed c.args.entrant c.args.draws.now.value c.move_place-first.result c.move_place-second.result _ _ _ _ _ _ _ _
    c.move_place-first.ensures.moved c.move_place-first.ensures.after
    c.move_place-second.ensures.moved c.move_place-second.ensures.after
    c.in_ok-text.ensures
    c.in_ok-push_leg.ensures.text c.in_ok-push_leg.ensures.after
    c.in_ok-push_leg-2.ensures.text c.in_ok-push_leg-2.ensures.after
    c.in_ok-push_leg-3.ensures.text

pub returns-clause-after : goal.returns-clause-after
returns-clause-after c =
    recording-drawn c.args.entrant c.args.draws.now.value _ _ _ _ _
    c.move_place-first.ensures.after c.move_place-second.ensures.after
    c.in_ok-push_leg.ensures.after c.in_ok-push_leg-2.ensures.after c.in_ok-push_leg-3.ensures.after
